use Rattle.std.proofs.Common.{refl}
use Rattle.mf_base.specs.PlaceWords.{read_rect}
use Rattle.mf_base.proofs.place_words.read_rect.Goals as goal

pub returns-in_err-lat : goal.returns-in_err-lat
unfolding read_rect
returns-in_err-lat c = rw (c.from_residual.ensures, ← c.in_err-lat.ensures) refl

pub returns-in_err-lon : goal.returns-in_err-lon
unfolding read_rect
returns-in_err-lon c = rw (c.from_residual-in_err-lon.ensures, ← c.in_ok-lat.ensures, ← c.in_err-lon.ensures) refl

pub returns : goal.returns
unfolding read_rect
returns c = rw (← c.in_ok-lat.ensures, ← c.in_ok-lon.ensures) c.rect_of.ensures
