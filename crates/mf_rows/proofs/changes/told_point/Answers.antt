use Rattle.std.proofs.Common.{rules}
use Rattle.mf_rows.proofs.PartsAgain.{point_again}
use Rattle.mf_rows.proofs.changes.told_point.Goals as goal

pub returns : goal.returns
returns c = point_again (record { node = c.args.node; place = c.args.place }) c.point_unit.result c.point_unit.ensures
    (search rules)
