use Rattle.map_model.proofs.TileKeys.{keys-only, tiles-pairs, keys-pairs}
use Rattle.map_model.proofs.member_laws.keys_in_order.Goals as goal

pub returns-clause-only : goal.returns-clause-only
returns-clause-only c = keys-only

pub returns-clause-tiles : goal.returns-clause-tiles
returns-clause-tiles c = tiles-pairs

pub returns-clause-rise : goal.returns-clause-rise
returns-clause-rise c = keys-pairs
