-- What a run says: its lines, and the texts of the fault of an input and of what passes its limit. This project's own.
use Rattle.std.specs.Prelude.{ℕ, ℤ, [], ◌∷◌, ◌++◌, codes}
use Rattle.std.specs.Fmt.{signed_decimal}
use Rattle.mf_base.specs.Texts.{Text}
use Rattle.mf_base.specs.declared.kind.EntityKind.{EntityKind}
use Rattle.osm_model.specs.declared.faults.FrameFault.{FrameFault}
use Rattle.osm_model.specs.declared.faults.BlockFault.{BlockFault}
use Rattle.osm_model.specs.declared.faults.EntityFault.{EntityFault}
use Rattle.osm_model.specs.declared.faults.InputCode.{InputCode}
use Rattle.osm_model.specs.declared.faults.InputFault.{InputFault}
use Rattle.feature_model.specs.declared.fault.LimitFault.{LimitFault}
use Rattle.map_model.specs.MapFile.{worded}

-- ---- lines

-- The line of the program about a fault of which this is the text. The line of a finished run has no such front.
abbrev pub line_of : Text → Text
line_of text = codes "mfwrite: " ++ text ++ 10 ∷ []

-- ---- the fault of an input

-- a word, a blank and a signed number in decimal
abbrev pub worded_signed : Text → ℤ → Text
worded_signed word n = word ++ 32 ∷ signed_decimal n

-- the code of a fault of a blob, and the numbers that are told with it
abbrev pub frame_words : FrameFault → Text × Text
frame_words FrameFault.TooLong = (codes "too-long", codes "")
frame_words (FrameFault.Truncated have) = (codes "truncated", worded (codes " have") have)
frame_words FrameFault.HeaderLength = (codes "header-length", codes "")
frame_words (FrameFault.HeaderWire fault) = (codes "header-wire", codes "")
frame_words FrameFault.NoKind = (codes "no-type", codes "")
frame_words FrameFault.NoSize = (codes "no-size", codes "")
frame_words FrameFault.BlobSize = (codes "blob-size", codes "")
frame_words (FrameFault.BlobWire fault) = (codes "blob-wire", codes "")
frame_words (FrameFault.Compressed field) = (codes "compressed", worded (codes " field") field)
frame_words FrameFault.NoBytes = (codes "no-data", codes "")
frame_words (FrameFault.RawSize told found) =
    (codes "raw-size", worded (codes " told") told ++ worded (codes " found") found)

-- the same of a block, before its groups
abbrev pub block_words : BlockFault → Text × Text
block_words (BlockFault.Wire fault) = (codes "wire", codes "")
block_words BlockFault.BadBox = (codes "bad-box", codes "")
block_words BlockFault.RequiredFeature = (codes "required-feature", codes "")
block_words BlockFault.NoStrings = (codes "no-strings", codes "")
block_words BlockFault.TooManyStrings = (codes "too-many-strings", codes "")
block_words (BlockFault.NotText index) = (codes "not-text", worded (codes " index") index)

-- the same of an entity, or of the group that it stands in
abbrev pub entity_words : EntityFault → Text × Text
entity_words (EntityFault.Wire fault) = (codes "wire", codes "")
entity_words EntityFault.MixedGroup = (codes "mixed-group", codes "")
entity_words EntityFault.Columns = (codes "columns", codes "")
entity_words EntityFault.Missing = (codes "missing", codes "")
entity_words EntityFault.Range = (codes "range", codes "")
entity_words EntityFault.KindOrder = (codes "kind-order", codes "")
entity_words (EntityFault.OutOfOrder last id) =
    (codes "out-of-order", worded (codes " last") last ++ worded_signed (codes " id") id)
entity_words EntityFault.Coordinate = (codes "coordinate", codes "")
entity_words EntityFault.KeyWithoutValue = (codes "key-without-value", codes "")
entity_words EntityFault.StringIndex = (codes "string-index", codes "")
entity_words EntityFault.MemberKind = (codes "member-kind", codes "")

-- the same of an input
abbrev pub code_words : InputCode → Text × Text
code_words (InputCode.Frame fault) = frame_words fault
code_words (InputCode.Block fault) = block_words fault
code_words (InputCode.Entity fault) = entity_words fault

-- a code, the offset of its blob in the input, in bytes, and the numbers that are told with it
abbrev pub words_at : ℕ → Text × Text → Text
words_at at words = words.0 ++ worded (codes " at") at ++ words.1

-- The text of the fault of an input, without the program's name and the line feed.
unfoldable pub input_text : InputFault → Text
input_text fault = codes "input " ++ words_at fault.at (code_words fault.code)

-- ---- what passes its limit

-- the name of a kind
abbrev pub kind_name : EntityKind → Text
kind_name EntityKind.Node = codes "node"
kind_name EntityKind.Way = codes "way"
kind_name EntityKind.Relation = codes "relation"

-- The text of what passes its limit, without the program's name and the line feed: a feature by its kind and id, a tile
-- by its interval, column and row, a sub-file by its interval. A weight is in rows, and a size in bytes.
unfoldable pub limit_text : LimitFault → Text
limit_text (LimitFault.Feature kind id weight) =
    codes "limit " ++ worded (kind_name kind) id ++ worded (codes " weight") weight
limit_text (LimitFault.Tile index x y weight) =
    worded (codes "limit tile") index ++ worded (codes " x") x ++ worded (codes " y") y
    ++ worded (codes " weight") weight
limit_text (LimitFault.SubFile index size) = worded (codes "limit interval") index ++ worded (codes " size") size
