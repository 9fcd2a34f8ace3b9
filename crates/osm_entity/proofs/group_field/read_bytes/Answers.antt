use Rattle.std.proofs.Common.{◌∙◌, refl, [], Err}
use Rattle.osm_entity.specs.InBlock.{block_shown}
use Rattle.osm_entity.proofs.GroupReads.{dense_at}
use Rattle.osm_entity.proofs.group_field.read_bytes.Goals as goal

pub returns-in-Err-read_dense-clause-gives : goal.returns-in-Err-read_dense-clause-gives
returns-in-Err-read_dense-clause-gives c before behind =
    let b = block_shown c.args.in_block in (
      Err c.in-Err-read_dense.fault,
      [],
      dense_at b c.args.number c.args.bytes.now c.if-number-eq-GROUP_DENSE.true ∙ c.in-Err-read_dense.ensures b,
      refl,
    )
