-- How a latitude is found among the edges. Latitudes are in microdegrees.
use Rattle.std.specs.Prelude.{ℕ, ◌≤◌, ◌<◌}
use Rattle.map_model.specs.Mercator.{north_lat}

-- So many edges from the pole on are at least so far from the equator, and the others, up to that of the equator, are
-- nearer.
pub record IsReach (distance reach : ℕ) : Type 0 where
  pub most : reach ≤ 131073
  pub far : (k : ℕ) → k < reach → distance ≤ north_lat k
  pub near : (k : ℕ) → reach ≤ k → k ≤ 131072 → north_lat k < distance
