use Rattle.osm_model.proofs.DenseLaws.{columns-from, columns-differ}
use Rattle.osm_model.proofs.entity_laws.columns_of_one_length.Goals as goal

pub returns : goal.returns
returns c = record { same = columns-from; differ = columns-differ }
