use Rattle.std.proofs.Common.{◌∙◌, w32}
use Rattle.std.proofs.lemmas.Int.{to_z-of_z}
use Rattle.map_model.specs.Mercator.{corner}
use Rattle.mercator_rows.proofs.rows.Rows.corner.Goals as goal

pub returns : goal.returns
unfolding corner
returns c = λ i. record {
  lat = (to_z-of_z w32 c.northern_edge.result (record { sfits = c.northern_edge.type_inv }) ∙ c.northern_edge.ensures)
      i;
  lon = (to_z-of_z w32 c.western_edge.result (record { sfits = c.western_edge.type_inv }) ∙ c.western_edge.ensures) i;
}
