use Rattle.std.proofs.Common.{rules}
use Rattle.ring_assembly.proofs.RingsFound.{ring-ended}
use Rattle.ring_assembly.proofs.joining.end_ring.Goals as goal

pub returns : goal.returns
returns c =
    ring-ended c.args.outer c.args.laid c.args.out.now c.lay_foot.new.out c.rows_of-rows.result.now
    c.split_at-2.result.0.now c.split_at.result.1.now c.home_of-home.result c.kept_rows.result c.rows_of-rows.ensures
    c.split_at-2.ensures.front c.split_at.ensures.back (search rules) c.home_of-home.ensures c.lay_foot.ensures
    c.kept_rows.ensures
