use Rattle.map_model.proofs.HeaderAgain.{header_again, header_length_again, file_again}
use Rattle.map_model.proofs.reading_laws.header_is_read_again.Goals as goal

pub returns-clause-read : goal.returns-clause-read
returns-clause-read c = header_again

pub returns-clause-length : goal.returns-clause-length
returns-clause-length c = header_length_again

pub returns-clause-file : goal.returns-clause-file
returns-clause-file c = file_again
