use Rattle.tile_body.proofs.TagBytes.{PutsIds}
use Rattle.tile_body.proofs.tags.put_ids.Given as goal

-- what is still to be put completes the ids
abbrev pub invariant-loop-kept : goal.invariant-loop-kept
invariant-loop-kept l = PutsIds l.out l.fn.out l.tags l.kept-index
