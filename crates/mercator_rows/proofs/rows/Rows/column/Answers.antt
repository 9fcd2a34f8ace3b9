use Rattle.std.proofs.Common.{◌∙◌}
use Rattle.mercator_rows.proofs.Signed.{column-is}
use Rattle.mercator_rows.proofs.rows.Rows.column.Goals as goal

pub returns : goal.returns
returns c = c.min.ensures ∙ column-is c.args.z c.args.lon c.from.result c.max-east.result c.requires c.ranges.lon
    c.from.ensures c.max-east.ensures.value
