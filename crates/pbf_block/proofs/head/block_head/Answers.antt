use Rattle.std.proofs.Common.{◌∙◌, refl, ap, rules}
use Rattle.std.proofs.lemmas.Int.{to_z-of_z}
use Rattle.std.specs.Int.{w64}
use Rattle.osm_model.specs.Wire.{int64}
use Rattle.pbf_block.proofs.BlockReads.{head-refused, head-is}
use Rattle.pbf_block.proofs.head.block_head.Goals as goal

pub returns-in-Err : goal.returns-in-Err
returns-in-Err c = head-refused c.args.bytes.now _ c.in-Err.ensures.message

pub returns-in-Ok : goal.returns-in-Ok
returns-in-Ok c =
    let found = c.in-Ok.ensures.found in
    rw (
      to_z-of_z w64 c.cast_signed.result (search rules),
      to_z-of_z w64 c.cast_signed-in-Ok.result (search rules),
      to_z-of_z w64 c.cast_signed-in-Ok-2.result (search rules),
    )
    (head-is c.args.bytes.now _ _ _ _ _ _ _ c.in-Ok.ensures.message (found 17 2 refl).number (found 19 3 refl).number
    (found 20 4 refl).number
    (c.cast_signed.ensures ∙ ap int64 c.unwrap_or.ensures) (c.cast_signed-in-Ok.ensures
    ∙ ap int64 c.unwrap_or-in-Ok.ensures) (c.cast_signed-in-Ok-2.ensures ∙ ap int64 c.unwrap_or-in-Ok-2.ensures))
