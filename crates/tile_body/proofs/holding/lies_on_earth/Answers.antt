use Rattle.tile_body.proofs.Admitted.{lies-near, near-lies}
use Rattle.tile_body.proofs.holding.lies_on_earth.Goals as goal

pub returns : goal.returns
returns c = (
  lies-near c.args.view.now c.rect_of.result c.has_sides_on_earth.result c.rect_of.ensures.rect
      c.has_sides_on_earth.ensures,
  near-lies c.args.view.now c.rect_of.result c.has_sides_on_earth.result c.has_sides_on_earth.ensures
      c.rect_of.ensures.on_earth,
)
