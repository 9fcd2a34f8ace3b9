use Rattle.std.proofs.Common.{subst}
use Rattle.mf_base.specs.Spelling.{IsBytes}
use Rattle.tile_spread.proofs.Flat.{rows-flat}
use Rattle.tile_spread.proofs.feature.are_rows.Goals as goal

pub returns : goal.returns
returns c = rows-flat c.args.units.now c.told-units (subst IsBytes c.as_flattened.ensures.value c.are_bytes.ensures)
