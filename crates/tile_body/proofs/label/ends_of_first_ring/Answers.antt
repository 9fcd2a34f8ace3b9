use Rattle.std.proofs.Common.{◌∙◌, sym, ap}
use Rattle.map_model.specs.Labels.{same_place}
use Rattle.way_delta.proofs.Lists.{first_part}
use Rattle.tile_body.proofs.FirstRing.{first-place_is, closed-told}
use Rattle.tile_body.proofs.label.ends_of_first_ring.Goals as goal

pub returns-clause-first : goal.returns-clause-first
returns-clause-first c =
    first-place_is c.args.view.now c.requires.way c.requires.feature c.rings.result c.unwrap-points.result.0
    c.unwrap-points.result.1 c.next-2.new.self c.unwrap.result c.rings.ensures
    (sym (ap first_part c.unwrap-points.ensures) ∙ c.next.ensures.first) (sym c.unwrap.ensures ∙ c.next-2.ensures.first)
    c.next-2.ensures.rest

pub returns-clause-closed : goal.returns-clause-closed
returns-clause-closed c =
    closed-told c.args.view.now c.requires.way c.requires.feature c.rings.result c.unwrap-points.result.0
    c.unwrap-points.result.1 c.next-2.new.self c.unwrap.result c.rings.ensures
    (sym (ap first_part c.unwrap-points.ensures) ∙ c.next.ensures.first) (sym c.unwrap.ensures ∙ c.next-2.ensures.first)
    c.next-2.ensures.rest
    ∙ ap (same_place c.unwrap.result.1) (sym c.last_of.ensures)
