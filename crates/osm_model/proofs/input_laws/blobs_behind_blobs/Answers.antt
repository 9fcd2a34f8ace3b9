use Rattle.osm_model.proofs.FrameListLaws.{frames_join}
use Rattle.osm_model.proofs.InputOnly.{sound-append}
use Rattle.osm_model.proofs.input_laws.blobs_behind_blobs.Goals as goal

pub returns : goal.returns
returns c = record { frames = frames_join; sound = sound-append }
