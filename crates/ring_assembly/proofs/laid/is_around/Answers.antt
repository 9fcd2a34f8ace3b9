use Rattle.std.proofs.Common.{◌≡◌, ◌∙◌, ◌∷◌, Some, sym, ap, drop, length, rules}
use Rattle.std.specs.Prelude.{slice_get}
use Rattle.std.proofs.lemmas.List.{nil_from_length}
use Rattle.ring_assembly.specs.Marked.{points_in}
use Rattle.ring_assembly.proofs.Crossings.{pair_first, point-behind, points-behind}
use Rattle.ring_assembly.proofs.laid.is_around.Goals as goal

pub loop-unit-preserved : goal.loop-unit-preserved
loop-unit-preserved c =
    let is : c.loop-unit.left.now ≡ c.in-Some.unit.now ∷ c.in-Some.behind.now = search rules in
    point-behind (points_in c.loop-unit.left.now) c.read_point_unit.result (points_in c.in-Some.behind.now)
    c.loop-unit.last c.loop-unit.odd c.crosses_step-odd.result c.args.p
    (ap Some c.read_point_unit.ensures ∙ ap (λ us. pair_first (slice_get (points_in us) 0)) (sym is))
    (ap (λ us. drop 1 (points_in us)) (sym is)) c.crosses_step-odd.ensures
    ∙ c.loop-unit.invariant

pub returns : goal.returns
returns c =
    let empty : length c.loop-unit.left.now ≡ 0 = search rules in
    let none = nil_from_length c.loop-unit.left.now empty in
    points-behind (points_in c.loop-unit.left.now) c.loop-unit.last c.loop-unit.odd c.args.p
    (ap (λ us. pair_first (slice_get (points_in us) 0)) (sym none))
    ∙ c.loop-unit.invariant
