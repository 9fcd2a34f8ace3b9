use Rattle.mf_rows.proofs.UnitLaws.{outer-part, inner-part, no-part}
use Rattle.mf_rows.proofs.units.read_part_unit.Goals as goal

pub returns-then-eq : goal.returns-then-eq
returns-then-eq c =
    outer-part c.args.unit.now c.part_unit.result c.get_u64-points.result c.get_u64-points.ensures c.part_unit.ensures
    c.eq.result c.eq.ensures c.if-eq.true

pub returns-then-eq-2 : goal.returns-then-eq-2
returns-then-eq-2 c =
    inner-part c.args.unit.now c.part_unit.result c.get_u64-points.result c.get_u64-points.ensures c.part_unit.ensures
    c.eq.result c.eq.ensures c.if-eq.false
    c.part_unit-else-eq.result c.part_unit-else-eq.ensures c.eq-else-eq.result c.eq-else-eq.ensures c.if-eq-2.true

pub returns-else-eq-2 : goal.returns-else-eq-2
returns-else-eq-2 c =
    no-part c.args.unit.now c.part_unit.result c.get_u64-points.result c.get_u64-points.ensures c.part_unit.ensures
    c.eq.result c.eq.ensures c.if-eq.false
    c.part_unit-else-eq.result c.part_unit-else-eq.ensures c.eq-else-eq.result c.eq-else-eq.ensures c.if-eq-2.false
