use Rattle.mf_ingest.proofs.InputSizes.{handed-size, handed-most, small-parts}
use Rattle.mf_ingest.proofs.laws.parts_of_an_input.Goals as goal

pub returns : goal.returns
returns c = record { taken = handed-size; most = handed-most; small = small-parts }
