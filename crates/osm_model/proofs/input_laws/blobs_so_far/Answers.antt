use Rattle.osm_model.proofs.SoFarLaws.{blobs-none, blobs-more, blobs-passed, blobs-whole}
use Rattle.osm_model.proofs.input_laws.blobs_so_far.Goals as goal

pub returns : goal.returns
returns c = record { none = blobs-none; blob = blobs-more; passed = blobs-passed; whole = blobs-whole }
