-- What is kept of the blobs so far. This project's own.
use Rattle.std.specs.Prelude.{◌≡◌, List, Option}
use Rattle.mf_base.specs.declared.place.Rect.{Rect}
use Rattle.osm_model.specs.Entities.{Entity}
use Rattle.osm_model.specs.Order.{IsRising}
use Rattle.osm_entity.specs.Order.{StandsBehind}
use Rattle.extract_pass.specs.declared.behind.Behind.{Behind}

-- The entities of the blobs so far rise, the order is that behind them, and the box is this one.
pub record IsBehind (behind : Behind) (entities : List Entity) (bounds : Option Rect) : Type 0 where
  pub rising : IsRising entities
  pub order : StandsBehind entities behind.order
  pub boxed : behind.bounds ≡ bounds
