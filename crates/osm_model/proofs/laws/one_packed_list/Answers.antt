use Rattle.osm_model.proofs.PackedLaws.{packed_found}
use Rattle.osm_model.proofs.PackedLaws.{packed_is}
use Rattle.osm_model.proofs.laws.one_packed_list.Goals as goal

pub returns-clause-reads : goal.returns-clause-reads
returns-clause-reads c = packed_found

pub returns-clause-only : goal.returns-clause-only
returns-clause-only c = packed_is
