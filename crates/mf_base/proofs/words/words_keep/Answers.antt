use Rattle.std.proofs.Common.{arith, sym, ◌∙◌, map, string_bytes}
use Rattle.std.proofs.lemmas.List.{length-drop, length-map}
use Rattle.mf_base.proofs.WordReading.{keep-start, keep-more, keep-not}
use Rattle.mf_base.proofs.words.words_keep.Goals as goal

pub loop-name-init : goal.loop-name-init
loop-name-init c = (omega arith, keep-start _ _)

pub returns-then-not-is_right : goal.returns-then-not-is_right
returns-then-not-is_right c =
    sym (c.loop-name.invariant.1
    ∙ keep-not _ _ _ _ c.loop-name.at c.in-Option.size _ c.in-Option.ensures.2 c.is_right.ensures
    c.if-not-is_right.true)

pub loop-name-preserved : goal.loop-name-preserved
loop-name-preserved c = (
  omega (
    arith,
    c.in-Option.ensures.1,
    c.loop-name.invariant.0,
    length-drop c.loop-name.at (map string_bytes c.args.words.now),
    length-map c.args.words.now string_bytes,
  ),
  c.loop-name.invariant.1 ∙ keep-more _ _ _ _ c.loop-name.at c.in-Option.size _ c.in-Option.ensures.2
      c.is_right.ensures c.if-not-is_right.false,
)
