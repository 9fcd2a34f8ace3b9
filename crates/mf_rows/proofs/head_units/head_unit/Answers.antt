use Rattle.std.proofs.Common.{rules, ◌≡◌, ◌≤◌, ◌+◌, ◌-◌, ◌*◌}
use Rattle.mf_rows.specs.Heads.{kept_unit}
use Rattle.mf_rows.proofs.HeadUnits.{first-unit, second-unit, third-unit, later-unit}
use Rattle.mf_rows.proofs.head_units.head_unit.Goals as goal

pub returns-in-0 : goal.returns-in-0
returns-in-0 c = first-unit c.args.head.now c.args.texts c.args.i c.id_unit.result c.in-0.is c.id_unit.ensures

pub returns-in-1 : goal.returns-in-1
returns-in-1 c = second-unit c.args.head.now c.args.texts c.args.i c.marks_unit.result c.in-1.is c.marks_unit.ensures

pub returns-in-2 : goal.returns-in-2
returns-in-2 c = third-unit c.args.head.now c.args.texts c.args.i c.lengths_unit.result c.in-2.is c.lengths_unit.ensures

pub returns-in_default : goal.returns-in_default
returns-in_default c =
    let past : 3 ≤ c.args.i = search rules in
    let is : c.kept_unit.result ≡ kept_unit c.args.head.now.tags.items (2 * (c.args.i - 3) + 1) = search rules in
    later-unit c.args.head.now c.args.texts c.args.i c.kept_unit.result past is
