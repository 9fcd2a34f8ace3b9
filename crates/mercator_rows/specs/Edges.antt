-- The table of the edges of all rows. Latitudes are in microdegrees.
use Rattle.std.specs.Prelude.{◌≡◌, ℕ, ◌≤◌, ◌<◌, List, length, slice_index}
use Rattle.map_model.specs.Mercator.{root_of_scale, north_lat}

-- A list that has the northern edge of each fine row from the pole to the equator, the equator's row counted in.
pub record AreEdges (edges : List ℕ) : Type 0 where
  pub count : length edges ≡ 131073
  pub each : (k : ℕ) → k ≤ 131072 → slice_index edges k ≡ north_lat k

-- a list that has the roots that scales are products of
abbrev pub AreRoots : List ℕ → Type 0
AreRoots roots = (i : ℕ) → i < 18 → slice_index roots i ≡ root_of_scale i
