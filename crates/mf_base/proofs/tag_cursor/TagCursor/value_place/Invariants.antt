use Rattle.std.proofs.Common.{◌≡◌, true, length}
use Rattle.mf_base.specs.Tags.{value_of}
use Rattle.mf_base.specs.Entries.{are_entries, entry_tags}
use Rattle.mf_base.specs.TagLists.{pairs_in, are_whole}
use Rattle.mf_base.proofs.tag_cursor.TagCursor.value_place.Given as goal

-- no tag before had the key
abbrev pub invariant-loop-at : goal.invariant-loop-at
invariant-loop-at l = record {
  same : value_of l.key (entry_tags l.self.block.now l.self.strings.now (pairs_in l.self.all))
      ≡ value_of l.key (entry_tags l.self.block.now l.self.strings.now (pairs_in l.left));
  whole : are_whole l.left ≡ true;
  told : are_entries (length l.self.strings.now) (pairs_in l.left) ≡ true;
}

abbrev pub decreases-loop-at : goal.decreases-loop-at
decreases-loop-at l = length (pairs_in l.left)
