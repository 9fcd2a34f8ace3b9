use Rattle.std.proofs.Common.{◌≡◌, ◌∷◌, ◌<◌, ◌^◌, refl, length, rules}
use Rattle.std.specs.Prelude.{slice_index_or}
use Rattle.ring_assembly.proofs.Marks.{room-first, rest-first, front-here}
use Rattle.ring_assembly.proofs.parts.front_part.Goals as goal

pub split_at-requires : goal.split_at-requires
split_at-requires c =
    let is : c.args.units.now ≡ c.in_ok-first.first.now ∷ c.in_ok-first.rest.now = search rules in
    let few : length c.args.units.now < 2 ^ 64 = search rules in
    room-first c.args.units.now c.in_ok-first.first.now c.in_ok-first.rest.now is few c.points_behind.result
    c.points_behind.ensures c.requires

pub returns-clause-some : goal.returns-clause-some
returns-clause-some c = λ m more is.
    let whole : c.args.units.now ≡ c.in_ok-first.first.now ∷ c.in_ok-first.rest.now = search rules in
    let few : length c.args.units.now < 2 ^ 64 = search rules in
    rw (c.split_at.ensures.front, c.split_at.ensures.back)
    (front-here c.args.units.now c.in_ok-first.first.now c.in_ok-first.rest.now whole few c.points_behind.result
    c.points_behind.ensures m more is (slice_index_or c.in_ok-first.first.now 0 0) refl)

pub returns-clause-rest : goal.returns-clause-rest
returns-clause-rest c =
    let is : c.args.units.now ≡ c.in_ok-first.first.now ∷ c.in_ok-first.rest.now = search rules in
    let few : length c.args.units.now < 2 ^ 64 = search rules in
    rw c.split_at.ensures.back
    (rest-first c.args.units.now c.in_ok-first.first.now c.in_ok-first.rest.now is few c.points_behind.result
    c.points_behind.ensures c.requires)
