use Rattle.osm_model.proofs.PlaceRange.{header-rect, input-rect}
use Rattle.osm_model.proofs.range_laws.boxes_on_the_earth.Goals as goal

pub returns : goal.returns
returns c = record { header = header-rect; input = input-rect }
