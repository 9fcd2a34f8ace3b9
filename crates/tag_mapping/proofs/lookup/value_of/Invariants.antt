use Rattle.std.proofs.Common.{◌≡◌, length}
use Rattle.mf_base.specs.Tags.{value_of as value_in}
use Rattle.mf_base.specs.TagCursor.{tags_left}
use Rattle.tag_mapping.proofs.lookup.value_of.Given as goal

-- no tag before had the key
abbrev pub invariant-loop-at : goal.invariant-loop-at
invariant-loop-at l = value_in l.key (tags_left l.tags) ≡ value_in l.key (tags_left l.left)

abbrev pub decreases-loop-at : goal.decreases-loop-at
decreases-loop-at l = length (tags_left l.left)
