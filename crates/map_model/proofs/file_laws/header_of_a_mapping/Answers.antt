use Rattle.map_model.proofs.HeaderOfMapping.{header-read}
use Rattle.map_model.proofs.file_laws.header_of_a_mapping.Goals as goal

pub returns-clause-read : goal.returns-clause-read
returns-clause-read c = header-read
