-- Going along rings, edge by edge. This project's own.
use Rattle.std.specs.Prelude.{Bool, false, List, ◌∷◌, map, Option, Some, None}
use Rattle.mf_base.specs.declared.place.Place.{Place}
use Rattle.feature_model.specs.Points.{Part}
use Rattle.feature_model.specs.Inside.{Ring, crosses}
use Rattle.feature_model.specs.Blocks.{places}

-- the rings of parts
abbrev pub part_rings : List Part → List Ring
part_rings parts = map (λ (part : Part). places part.points) parts

-- whether the edge from the last place to the next is crossed; there is none before the first place
abbrev pub step_crosses : Place → Option Place → Place → Bool
step_crosses p None next = false
step_crosses p (Some last) next = crosses p (last, next)

-- the places from the last one on
abbrev pub from_last : Option Place → Ring → Ring
from_last None ring = ring
from_last (Some last) ring = last ∷ ring
