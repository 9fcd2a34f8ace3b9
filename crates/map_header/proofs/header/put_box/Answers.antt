use Rattle.std.proofs.Common.{rules}
use Rattle.mf_base.specs.Buffer.{AppendsTo}
use Rattle.map_model.specs.Header.{be_signed}
use Rattle.map_header.proofs.Putting.{puts-four}
use Rattle.map_header.proofs.header.put_box.Goals as goal

pub returns-clause-appends : goal.returns-clause-appends
returns-clause-appends c =
    let south : AppendsTo c.args.out.now c.put_signed.new.out (be_signed c.args.bounds.now.min_lat) = search rules in
    let west : AppendsTo c.put_signed.new.out c.put_signed-2.new.out (be_signed c.args.bounds.now.min_lon) =
    search rules in
    let north : AppendsTo c.put_signed-2.new.out c.put_signed-3.new.out (be_signed c.args.bounds.now.max_lat) =
    search rules in
    let east : AppendsTo c.put_signed-3.new.out c.put_signed-4.new.out (be_signed c.args.bounds.now.max_lon) =
    search rules in
    puts-four _ _ _ _ _ _ _ _ _ south west north east
