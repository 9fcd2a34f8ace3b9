use Rattle.std.proofs.Common.{arith, ◌+◌}
use Rattle.mf_base.proofs.WordReading.{front-here, word-here, word-none, front-none}
use Rattle.mf_base.proofs.words.front_at.Goals as goal

pub returns-in_default : goal.returns-in_default
returns-in_default c = rw (word-none _ c.args.at c.in_default.ensures) front-none

pub returns-in-Some-one_word : goal.returns-in-Some-one_word
returns-in-Some-one_word c =
    let front = front-here _ c.args.at _ (c.in-Some-one_word.name.now, c.in-Some-one_word.value.now) c.in-Some.ensures
    c.in-Some-one_word.ensures in
    (omega arith, front.0, front.1)

pub returns-in-Some-word_at : goal.returns-in-Some-word_at
returns-in-Some-word_at c =
    rw (word-here _ c.args.at _ c.in-Some.ensures, word-here _ (c.args.at + 1) _ c.in-Some-word_at.ensures)
    (c.two_words.ensures _)

pub returns-in-None : goal.returns-in-None
returns-in-None c =
    rw (word-here _ c.args.at _ c.in-Some.ensures, word-none _ (c.args.at + 1) c.in-None.ensures) c.last_word.ensures
