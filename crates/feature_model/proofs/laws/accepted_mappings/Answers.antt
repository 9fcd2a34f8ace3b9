use Rattle.feature_model.proofs.EntryLaws.{mapping_told-ok, mapping_told-some}
use Rattle.feature_model.proofs.laws.accepted_mappings.Goals as goal

pub returns-clause-only : goal.returns-clause-only
returns-clause-only c = mapping_told-ok

pub returns-clause-all : goal.returns-clause-all
returns-clause-all c = mapping_told-some
