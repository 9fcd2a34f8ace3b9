use Rattle.std.proofs.Common.{refl}
use Rattle.mf_base.specs.PlaceWords.{read_place}
use Rattle.mf_base.proofs.place_words.read_place.Goals as goal

pub returns-in_err-lat : goal.returns-in_err-lat
unfolding read_place
returns-in_err-lat c = rw (c.from_residual.ensures, ← c.in_err-lat.ensures) refl

pub returns : goal.returns
unfolding read_place
returns c = rw (← c.in_ok-lat.ensures) c.place_of.ensures
