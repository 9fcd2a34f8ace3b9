use Rattle.tile_body.proofs.TagBytes.{MeasuresIds}
use Rattle.tile_body.proofs.tags.size_ids.Given as goal

-- what is measured and what is left is the size of all
abbrev pub invariant-loop-kept : goal.invariant-loop-kept
invariant-loop-kept l = MeasuresIds l.size l.tags l.kept-index
