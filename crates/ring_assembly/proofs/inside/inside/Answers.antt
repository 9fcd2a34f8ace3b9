use Rattle.std.proofs.Common.{◌∙◌, sym, ap}
use Rattle.ring_assembly.proofs.Crossings.{shown_first, ring-behind, rings-behind}
use Rattle.ring_assembly.proofs.inside.inside.Goals as goal

pub loop-points-preserved : goal.loop-points-preserved
loop-points-preserved c =
    ring-behind c.loop-points.rings _ _ c.next.new.self c.loop-points.odd c.is_in_ring-odd.result c.args.p
    c.in-Some.ensures.first c.next.ensures.rest c.is_in_ring-odd.ensures
    ∙ c.loop-points.invariant

pub returns : goal.returns
returns c =
    rings-behind c.loop-points.rings c.loop-points.odd c.args.p
    (sym (ap shown_first c.in_default.is) ∙ c.next.ensures.first)
    ∙ c.loop-points.invariant
