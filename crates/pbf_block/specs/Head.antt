-- The head of a PrimitiveBlock, in the words of the definitions. This project's own.
use Rattle.std.specs.Prelude.{Result, Ok}
use Rattle.mf_base.specs.Steps.{◌>>=◌}
use Rattle.osm_model.specs.Blocks as blocks
use Rattle.osm_model.specs.declared.faults.BlockFault.{BlockFault}
use Rattle.pbf_block.specs.declared.head.BlockHead.{BlockHead}

-- the head that is told
abbrev pub head_told : BlockHead → blocks.BlockHead
head_told head = record { granularity = head.granularity; lat_offset = head.lat_offset; lon_offset = head.lon_offset }

-- the same of an answer
abbrev pub answer_told : Result BlockHead BlockFault → Result blocks.BlockHead BlockFault
answer_told answer = do
  head ← answer
  Ok (head_told head)
