use Rattle.std.proofs.Common.{refl}
use Rattle.map_model.specs.IntervalWords.{read_interval}
use Rattle.tile_assign.proofs.interval_words.read_interval.Goals as goal

pub returns-in_err-base : goal.returns-in_err-base
unfolding read_interval
returns-in_err-base c = rw (c.from_residual.ensures, ← c.in_err-base.ensures) refl

pub returns-in_err-min : goal.returns-in_err-min
unfolding read_interval
returns-in_err-min c = rw (c.from_residual-in_err-min.ensures, ← c.in_ok-base.ensures, ← c.in_err-min.ensures) refl

pub returns : goal.returns
unfolding read_interval
returns c = rw (← c.in_ok-base.ensures, ← c.in_ok-min.ensures) c.interval_of.ensures
