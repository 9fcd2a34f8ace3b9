use Rattle.std.proofs.Common.{rules, ◌≡◌, ◌∷◌}
use Rattle.mf_rows.proofs.HeadUnits.{head-found, head-lost}
use Rattle.mf_rows.proofs.heads.read_head.Goals as goal

pub returns-then-are_of : goal.returns-then-are_of
returns-then-are_of c =
    let is : c.args.units.now ≡ c.in_ok-first.first.now ∷ c.in_ok-second.second.now ∷ c.in_ok-third.third.now
    ∷ c.in_ok-third.more.now = search rules in
    head-found c.args.units.now c.in_ok-first.first.now c.in_ok-second.second.now c.in_ok-third.third.now
    c.in_ok-third.more.now c.head_of-head.result c.lengths_of-texts.result is c.head_of-head.ensures
    (c.lengths_of-texts.ensures c.in_ok-first.first.now c.in_ok-second.second.now c.in_ok-third.more.now)
    c.are_of.result c.are_of.ensures c.if-are_of.true

pub returns-else-are_of : goal.returns-else-are_of
returns-else-are_of c =
    let is : c.args.units.now ≡ c.in_ok-first.first.now ∷ c.in_ok-second.second.now ∷ c.in_ok-third.third.now
    ∷ c.in_ok-third.more.now = search rules in
    head-lost c.args.units.now c.in_ok-first.first.now c.in_ok-second.second.now c.in_ok-third.third.now
    c.in_ok-third.more.now c.head_of-head.result c.lengths_of-texts.result is c.head_of-head.ensures
    (c.lengths_of-texts.ensures c.in_ok-first.first.now c.in_ok-second.second.now c.in_ok-third.more.now)
    c.are_of.result c.are_of.ensures c.if-are_of.false
