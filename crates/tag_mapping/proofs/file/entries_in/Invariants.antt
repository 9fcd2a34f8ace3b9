use Rattle.tag_mapping.proofs.Lists.{HasAdded}
use Rattle.tag_mapping.proofs.file.entries_in.Given as goal

abbrev pub invariant-loop-item : goal.invariant-loop-item
invariant-loop-item l = HasAdded l.list l.items l.item-index l.entries
