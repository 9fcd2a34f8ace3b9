use Rattle.std.proofs.Common.{length, ap, sym, arith}
use Rattle.map_header.proofs.Putting.{appends-same}
use Rattle.map_header.proofs.Benches.{bench-string}
use Rattle.map_header.proofs.tests.BenchesTagSource.put_tag.Goals as goal

pub put-requires : goal.put-requires
put-requires c =
    let size = ap length (bench-string c.args._list c.args.self.now.poi c.args.self.now.way c.args._index
    c.requires.index) in
    omega (arith, c.requires.room, size)

pub returns : goal.returns
returns c =
    appends-same c.args.out.now c.put.new.self _ _
    (sym (bench-string c.args._list c.args.self.now.poi c.args.self.now.way c.args._index c.requires.index))
    c.put.ensures
