use Rattle.std.proofs.Common.{arith, sym}
use Rattle.mf_base.proofs.WordReading.{dashed-two, dash-broken, dashed-broken}
use Rattle.mf_base.proofs.words.two_words.Goals.{in_default-via-in-Some+else-not-begins_with_dash}
use Rattle.mf_base.proofs.words.two_words.Goals.{in_default-via-in_default}
use Rattle.mf_base.proofs.words.two_words.Goals as goal

pub returns-in-Some : goal.returns-in-Some
returns-in-Some c rest = (
  omega arith,
  omega arith,
  dashed-two c.args.word.now c.args.value.now rest c.in-Some.name.now c.requires
      c.in-Some.ensures (sym c.if-not-begins_with_dash.ensures),
)

pub returns-in_default : goal.returns-in_default
returns-in_default c rest = elim c.in_default.branch [
  | in_default-via-in-Some+else-not-begins_with_dash w ↦ dash-broken c.args.word.now c.args.value.now rest c.requires
      (sym w.if-not-begins_with_dash.ensures)
  | in_default-via-in_default w ↦ dashed-broken c.args.word.now c.args.value.now rest c.requires w.in_default.ensures
]
