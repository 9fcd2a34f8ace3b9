use Rattle.std.proofs.Common.{length, ap, sym}
use Rattle.map_header.proofs.Benches.{bench-string}
use Rattle.map_header.proofs.tests.BenchesTagSource.tag_size.Goals as goal

pub returns-clause-size : goal.returns-clause-size
returns-clause-size c =
    sym (ap length (bench-string c.args._list c.args.self.now.poi c.args.self.now.way c.args._index c.requires))
