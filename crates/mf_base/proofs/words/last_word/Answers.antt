use Rattle.std.proofs.Common.{refl}
use Rattle.mf_base.proofs.WordReading.{front-last}
use Rattle.mf_base.proofs.words.last_word.Goals as goal

pub returns-then-eq : goal.returns-then-eq
returns-then-eq c = rw (front-last c.args.word.now c.requires, ← c.if-eq.ensures) refl

pub returns-else-eq : goal.returns-else-eq
returns-else-eq c = rw (front-last c.args.word.now c.requires, ← c.if-eq.ensures) refl
