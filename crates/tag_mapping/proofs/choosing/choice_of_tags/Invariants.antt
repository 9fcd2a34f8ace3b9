use Rattle.std.proofs.Common.{length}
use Rattle.mf_base.specs.TagCursor.{tags_left}
use Rattle.tag_mapping.specs.Choosing.{IsChosen}
use Rattle.tag_mapping.proofs.Looked.{IsAhead}
use Rattle.tag_mapping.proofs.choosing.choice_of_tags.Given as goal

-- what is chosen is right so far, and no entry that matches was passed over
abbrev pub invariant-loop-key : goal.invariant-loop-key
invariant-loop-key l = record {
  so_far : IsChosen l.entries (tags_left l.tags) l.choosing.known l.choosing.choice;
  ahead : IsAhead l.entries (tags_left l.tags) l.choosing.known (tags_left l.left);
}

abbrev pub decreases-loop-key : goal.decreases-loop-key
decreases-loop-key l = length (tags_left l.left)
