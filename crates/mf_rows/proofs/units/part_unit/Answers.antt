use Rattle.mf_rows.proofs.UnitLaws.{unit-of-part}
use Rattle.mf_rows.proofs.units.part_unit.Goals as goal

pub returns : goal.returns
returns c = unit-of-part c.args.role c.number_of_role.result c.args.points c.put_u64.new.out c.put_u8.new.out
    c.number_of_role.ensures c.put_u64.ensures c.put_u8.ensures
