use Rattle.std.proofs.Common.{rules, ◌≡◌, ap, ◌∙◌}
use Rattle.mf_rows.specs.Units.{point_unit, point_in}
use Rattle.way_points.specs.PointRows.{point_told}
use Rattle.member_points.proofs.Fronts.{unit_told}
use Rattle.member_points.proofs.held.unit_of.Goals as goal

pub returns : goal.returns
returns c =
    let same : c.point_unit.result ≡ point_unit (point_told c.args.row.now) = search (c.point_unit.ensures, rules) in
    ap point_in same ∙ unit_told c.args.row.now c.known.ensures
