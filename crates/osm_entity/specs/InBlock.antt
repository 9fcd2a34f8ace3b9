-- A block, its strings and its head, in the words of the definitions. This project's own.
use Rattle.std.specs.Prelude.{ℕ, List, [], map, unwrap_or}
use Rattle.mf_base.specs.Texts.{Text}
use Rattle.mf_base.specs.Entries.{text_at}
use Rattle.osm_model.specs.declared.numbers.TheConstants.{BLOCK_PRIMITIVEGROUP}
use Rattle.osm_model.specs.Wire.{fields}
use Rattle.osm_model.specs.Tables.{bytes_of}
use Rattle.osm_model.specs.Blocks.{PrimitiveBlock}
use Rattle.pbf_block.specs.Head.{head_told}
use Rattle.osm_entity.specs.declared.in_block.InBlock.{InBlock}

-- the texts that the bytes have at these places
abbrev pub texts_at : List ℕ → List ℕ → List Text
texts_at bytes places = map (λ at. unwrap_or (text_at bytes at) []) places

-- the block that is told
abbrev pub block_shown : InBlock → PrimitiveBlock
block_shown b = record {
  head = head_told b.head;
  strings = texts_at b.block.now b.places.now;
  groups = bytes_of BLOCK_PRIMITIVEGROUP (fields b.block.now).items;
}
