use Rattle.std.proofs.Common.{rules, ◌≡◌, ◌∙◌, sym, None, Some}
use Rattle.mf_rows.specs.Heads.{HeadTold, head_in}
use Rattle.mf_rows.proofs.ToldLaws.{too-few, no-head, behind-head, kept-told, head-kept}
use Rattle.mf_rows.proofs.told.read_record.Goals as goal

pub returns-then-units-lt10-clause-none : goal.returns-then-units-lt10-clause-none
returns-then-units-lt10-clause-none c = λ none. too-few c.args.units.now (search rules)

pub returns-in_err-head-clause-none : goal.returns-in_err-head-clause-none
returns-in_err-head-clause-none c = λ none.
    let lost : head_in c.split_at.result.0.now ≡ None = search rules in
    no-head c.args.units.now (search rules) c.split_at.result.0.now c.split_at.result.1.now c.split_at.ensures.front
    c.split_at.ensures.back lost

pub returns-clause-none : goal.returns-clause-none
returns-clause-none c = λ none.
    let t : HeadTold = record { head = c.in_ok-head.head; texts = c.in_ok-head.texts } in
    let found : head_in c.split_at.result.0.now ≡ Some t = search rules in
    sym (behind-head c.args.units.now (search rules) c.split_at.result.0.now c.split_at.result.1.now
    c.split_at.ensures.front c.split_at.ensures.back t found) ∙ c.told_of.ensures.none none

pub returns-clause-some : goal.returns-clause-some
returns-clause-some c =
    let t : HeadTold = record { head = c.in_ok-head.head; texts = c.in_ok-head.texts } in
    let found : head_in c.split_at.result.0.now ≡ Some t = search rules in
    kept-told c.args.units.now (search rules) c.split_at.result.0.now c.split_at.result.1.now
    c.split_at.ensures.front c.split_at.ensures.back t found c.told_of.result c.told_of.ensures.some

pub returns-clause-head : goal.returns-clause-head
returns-clause-head c =
    let t : HeadTold = record { head = c.in_ok-head.head; texts = c.in_ok-head.texts } in
    let found : head_in c.split_at.result.0.now ≡ Some t = search rules in
    head-kept c.args.units.now c.split_at.result.0.now c.split_at.ensures.front t found c.told_of.result
    c.told_of.ensures.same
