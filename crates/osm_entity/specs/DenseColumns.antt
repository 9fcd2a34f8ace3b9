-- The columns of dense nodes that are left, in the words of the definitions. This project's own.
use Rattle.std.specs.Prelude.{◌≡◌, ◌&&◌, Bool, ℕ, ℤ, ◌+ℤ◌, List, [], ◌∷◌, map, Result, Ok}
use Rattle.mf_base.specs.Steps.{◌>>=◌, require}
use Rattle.mf_base.specs.Spelling.{unzigzag_of}
use Rattle.mf_base.specs.Ranges.{is_signed_64}
use Rattle.mf_base.specs.Packed.{packed_numbers}
use Rattle.osm_model.specs.declared.faults.EntityFault.{EntityFault}
use Rattle.osm_model.specs.declared.faults.EntityFault.TheVariants.{Range}
use Rattle.osm_entity.specs.declared.node_numbers.NodeNumbers.{NodeNumbers}
use Rattle.osm_entity.specs.declared.columns.Columns.{Columns}

-- an id, a latitude and a longitude
abbrev pub numbers_shown : NodeNumbers → ℤ × ℤ × ℤ
numbers_shown n = (n.id, n.lat, n.lon)

-- the sums of numbers and their differences
abbrev pub sums_of : ℤ × ℤ × ℤ → ℤ × ℤ × ℤ → ℤ × ℤ × ℤ
sums_of n d = (n.0 +ℤ d.0, n.1 +ℤ d.1, n.2 +ℤ d.2)

-- each of them is one of signed 64 bits
abbrev pub are_signed_64 : ℤ × ℤ × ℤ → Bool
are_signed_64 n = is_signed_64 n.0 && is_signed_64 n.1 && is_signed_64 n.2

-- the sums, where each is one of signed 64 bits
abbrev pub checked_sums : ℤ × ℤ × ℤ → ℤ × ℤ × ℤ → Result (ℤ × ℤ × ℤ) EntityFault
checked_sums n d = do
  _ ← require (are_signed_64 (sums_of n d)) Range
  Ok (sums_of n d)

-- the signed numbers of a column
abbrev pub signed_in : List ℕ → List ℤ
signed_in bytes = map unzigzag_of (packed_numbers bytes)

-- No node is left.
pub record AreUsedUp (columns : Columns) : Type 0 where
  pub ids : signed_in columns.ids.now ≡ []
  pub lats : signed_in columns.lats.now ≡ []
  pub lons : signed_in columns.lons.now ≡ []

-- These are the differences of the next node, and the columns behind it.
pub record BeginWith (columns : Columns) (d : NodeNumbers) (behind : Columns) : Type 0 where
  pub ids : signed_in columns.ids.now ≡ d.id ∷ signed_in behind.ids.now
  pub lats : signed_in columns.lats.now ≡ d.lat ∷ signed_in behind.lats.now
  pub lons : signed_in columns.lons.now ≡ d.lon ∷ signed_in behind.lons.now
