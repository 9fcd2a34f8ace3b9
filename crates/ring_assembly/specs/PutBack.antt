-- Rings that are put back as parts, block after block. This project's own.
use Rattle.std.specs.Prelude.{◌≡◌, ℕ, ◌+◌, ◌≤◌, List, [], ◌∷◌, ◌++◌, length, take, drop, map, filter, Option}
use Rattle.std.specs.Prelude.{if◌then◌else◌}
use Rattle.mf_base.specs.Buffer.{Buffer}
use Rattle.mf_base.specs.declared.kind.Role.{Role}
use Rattle.feature_model.specs.Blocks.{is_home}
use Rattle.mf_rows.specs.Units.{Unit16}
use Rattle.mf_rows.specs.Desks.{Desktop}
use Rattle.ring_assembly.specs.Marked.{State, Marked, marked_units, all_units}
use Rattle.ring_assembly.specs.Rows.{rows_in, row_total}
use Rattle.ring_assembly.specs.Laid.{LaidRing, AreRowsOf}
use Rattle.ring_assembly.specs.declared.laid.Laid.{Laid}

-- these units stand in the place of the loose units from here to there, and the rest of the desk stays
pub record Puts (old new : Desktop) (begin end : ℕ) (units : List Unit16) : Type 0 where
  pub place : begin + length units ≡ end
  pub loose : new.loose ≡ take begin old.loose ++ (units ++ drop end old.loose)
  pub records : new.records ≡ old.records
  pub capacity : new.capacity ≡ old.capacity

-- a ring as a part of a role
abbrev pub ring_part : Role → LaidRing → Marked
ring_part role r = record { state = State.free role; units = r.units }

-- the inner rings of the block of this number
abbrev pub inner_parts : ℕ → List LaidRing → List Marked
inner_parts n inner = map (ring_part Role.Inner) (filter (λ (r : LaidRing). is_home n r.home) inner)

-- the units that are put of an inner ring for the block of this number
abbrev pub housed_units : ℕ → Option ℕ → List Unit16 → List Unit16
housed_units n home points =
    if is_home n home then marked_units (record { state = State.free Role.Inner; units = points }) else []

-- the rings of the blocks of these outer rings, whose numbers begin with this one
abbrev pub block_rings : ℕ → List LaidRing → List LaidRing → List Marked
block_rings n [] inner = []
block_rings n (o ∷ outer) inner = ring_part Role.Outer o ∷ (inner_parts n inner ++ block_rings (n + 1) outer inner)

-- outer rings and inner rings are laid, and there is room for their blocks
pub record AreLaid (front : ℕ) (os is : List LaidRing) (outer inner : Laid) (d : Desktop) (out : Buffer) : Type 0 where
  pub within : outer.rows ≤ row_total out.bytes
  pub outer_rows : AreRowsOf os (take outer.rows (rows_in out.bytes))
  pub inner_rows : AreRowsOf is (drop outer.rows (rows_in out.bytes))
  pub count : outer.rings ≡ length os
  pub total : outer.rows + inner.housed ≡ length (all_units (block_rings 0 os is))
  pub room : front + outer.rows + inner.housed ≤ length d.loose
  pub few : length d.loose ≤ 16777216
