use Rattle.std.proofs.Common.{◌∙◌, sym}
use Rattle.ring_assembly.proofs.Crossings.{point-behind, points-behind}
use Rattle.ring_assembly.proofs.inside.is_in_ring.Goals as goal

pub loop-place-preserved : goal.loop-place-preserved
loop-place-preserved c =
    point-behind c.loop-place.points _ c.next.new.self c.loop-place.last c.loop-place.odd c.crosses_step-odd.result
    c.args.p c.in-Some.ensures.first c.next.ensures.rest c.crosses_step-odd.ensures
    ∙ c.loop-place.invariant

pub returns : goal.returns
returns c =
    points-behind c.loop-place.points c.loop-place.last c.loop-place.odd c.args.p
    (sym c.in_default.is ∙ c.next.ensures.first)
    ∙ c.loop-place.invariant
