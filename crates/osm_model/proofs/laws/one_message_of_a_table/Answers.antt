use Rattle.osm_model.proofs.TableMessageLaws.{message_found}
use Rattle.osm_model.proofs.TableMessageLaws.{message_is}
use Rattle.osm_model.proofs.laws.one_message_of_a_table.Goals as goal

pub returns-clause-spelled : goal.returns-clause-spelled
returns-clause-spelled c = message_found

pub returns-clause-reads : goal.returns-clause-reads
returns-clause-reads c = message_is
