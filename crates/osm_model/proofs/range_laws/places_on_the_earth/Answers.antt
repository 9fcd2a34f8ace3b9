use Rattle.osm_model.proofs.PlaceRange.{place-on_earth}
use Rattle.osm_model.proofs.range_laws.places_on_the_earth.Goals as goal

pub returns : goal.returns
returns c = place-on_earth
