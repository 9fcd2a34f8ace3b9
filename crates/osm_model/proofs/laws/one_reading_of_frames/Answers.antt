use Rattle.osm_model.proofs.LibLaws.{frames_of_bytes}
use Rattle.osm_model.proofs.LibLaws.{frames_alone}
use Rattle.osm_model.proofs.laws.one_reading_of_frames.Goals as goal

pub returns-clause-reads : goal.returns-clause-reads
returns-clause-reads c = frames_of_bytes

pub returns-clause-only : goal.returns-clause-only
returns-clause-only c = frames_alone
