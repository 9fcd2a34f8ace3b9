-- What a cursor over tags lends: this project's own.
use Rattle.std.specs.Prelude.{ℕ, List}
use Rattle.mf_base.specs.Tags.{Tags}
use Rattle.mf_base.specs.Entries.{entry_tags}
use Rattle.mf_base.specs.TagLists.{pairs_in}
use Rattle.mf_base.specs.declared.tag_cursor.TagCursor.{TagCursor}

-- the bytes in which the texts stand
abbrev pub block_of : TagCursor → List ℕ
block_of cursor = cursor.block.now

-- all tags of the cursor's lists
abbrev pub all_tags : TagCursor → Tags
all_tags cursor = entry_tags cursor.block.now cursor.strings.now (pairs_in cursor.all)

-- the tags that are left to be given
abbrev pub tags_left : TagCursor → Tags
tags_left cursor = entry_tags cursor.block.now cursor.strings.now (pairs_in cursor.left)
