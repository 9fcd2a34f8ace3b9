use Rattle.std.proofs.Common.{◌∙◌, sym}
use Rattle.osm_entity.proofs.TagReads.{told-none, told-left_value, told-left_key, told-next, told-bad}
use Rattle.osm_entity.proofs.tags.check_tags.Goals as goal

pub returns-in-None-None : goal.returns-in-None-None
returns-in-None-None c strings many =
    told-none strings _ _ _ _ (c.loop-key.invariant.same strings many) c.in-None-None.ensures.numbers
    c.in-None-None.ensures'.numbers

pub returns-in-None-Some : goal.returns-in-None-Some
returns-in-None-Some c strings many =
    told-left_value strings _ _ _ _ _ _ (c.loop-key.invariant.same strings many) c.in-None-Some.ensures.numbers
    c.in-None-Some.ensures'.numbers

pub returns-in-Some-None : goal.returns-in-Some-None
returns-in-Some-None c strings many =
    told-left_key strings _ _ _ _ _ _ (c.loop-key.invariant.same strings many) c.in-Some-None.ensures.numbers
    c.in-Some-None.ensures'.numbers

pub returns-then-not-are_known : goal.returns-then-not-are_known
returns-then-not-are_known c strings many =
    told-bad strings _ _ _ _ _ _ _ _ c.args.count c.unknown_string.result many
    (c.loop-key.invariant.same strings many) c.in-Some-Some.ensures.numbers c.in-Some-Some.ensures'.numbers
    (sym c.are_known.ensures ∙ c.if-not-are_known.true) c.unknown_string.ensures

pub loop-key-preserved : goal.loop-key-preserved
loop-key-preserved c = record {
  same = λ strings many. told-next strings _ _ _ _ _ _ _ _ c.args.count many
      (c.loop-key.invariant.same strings many) c.in-Some-Some.ensures.numbers c.in-Some-Some.ensures'.numbers
      (sym c.are_known.ensures ∙ c.if-not-are_known.false);
  keys = c.in-Some-Some.ensures.whole;
  vals = c.in-Some-Some.ensures'.whole;
}
