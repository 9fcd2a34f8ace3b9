use Rattle.std.proofs.Common.{◌∙◌, ap}
use Rattle.std.proofs.Common.{◌≡◌, ◌∷◌, ◌++◌, sym}
use Rattle.mf_edge.specs.Spill.{part_limit}
use Rattle.spill_parts.proofs.Fitting.{still_within}
use Rattle.spill_parts.proofs.rows.put_rows.Goals as goal

pub returns-in_err-put-clause-within : goal.returns-in_err-put-clause-within
returns-in_err-put-clause-within g c space =
    let here = c.loop-row.writer.rows in
    let left = g.R.Rows.left c.next.new.self in
    let same : here ++ c.in-Some.row ∷ left ≡ c.args.writer.now.rows ++ g.R.Rows.left c.args.rows.now =
    ap (λ rows. here ++ rows) (sym c.in-Some.ensures) ∙ c.loop-row.invariant.all in
    c.put.ensures.within (still_within g.K.RowKind.kind.width part_limit here left c.args.writer.now.rows
    (g.R.Rows.left c.args.rows.now) c.in-Some.row same space) ∙ c.loop-row.invariant.within space
