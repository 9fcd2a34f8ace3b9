use Rattle.osm_model.proofs.MessageLaws.{fields_read}
use Rattle.osm_model.proofs.MessageLaws.{fields-only}
use Rattle.osm_model.proofs.laws.one_reading_of_fields.Goals as goal

pub returns-clause-reads : goal.returns-clause-reads
returns-clause-reads c = fields_read

pub returns-clause-only : goal.returns-clause-only
returns-clause-only c = fields-only
