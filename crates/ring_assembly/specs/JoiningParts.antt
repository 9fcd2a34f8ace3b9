-- What is known after parts are joined, step by step. This project's own.
use Rattle.std.specs.Prelude.{◌≡◌, ℕ, ◌+◌, ◌^◌, ◌≤◌, ◌<◌, List, [], ◌∷◌, length, drop, sum_by}
use Rattle.std.specs.Prelude.{Option, IfSome, Result, Ok, Err}
use Rattle.std.specs.List.{AllByRecursion}
use Rattle.mf_base.specs.Buffer.{Buffer}
use Rattle.mf_base.specs.declared.kind.Role.{Role}
use Rattle.feature_model.specs.declared.fault.RingFault.{RingFault}
use Rattle.feature_model.specs.Rings.{with_rings, rings}
use Rattle.feature_model.specs.Blocks.{home as home_among}
use Rattle.mf_rows.specs.Units.{Unit16}
use Rattle.mf_rows.specs.Desks.{Desktop}
use Rattle.ring_assembly.specs.Marked.{points_in}
use Rattle.ring_assembly.specs.Taken.{free_of, units_left, Keeps}
use Rattle.ring_assembly.specs.Rows.{rows_in, row_total, LaysRows}
use Rattle.ring_assembly.specs.Laid.{LaidRing, foot_row, all_rows, points_of, HasHome, IsLaid, AreHoused, kept_rows}
use Rattle.ring_assembly.specs.Joining.{SameRoom}
use Rattle.ring_assembly.specs.declared.laid.Laid.{Laid}

-- The ring whose points are the last rows is ended: its home is told, and it is counted.
pub record RingEnded (outer laid : Laid) (ring : List Unit16) (home : Option ℕ) (told : Laid) (old new : Buffer)
    : Type 0 where
  pub lays : LaysRows old new (foot_row home (length ring) ∷ [])
  pub fits : IfSome home (λ n. n < 2 ^ 32)
  pub home_is : (rings : List LaidRing) → IsLaid outer old.bytes rings → home ≡ home_among (points_of rings) (points_in ring)
  pub rings : told.rings ≡ laid.rings + 1
  pub rows : told.rows ≡ laid.rows + length ring + 1
  pub kept : told.housed ≡ laid.housed + kept_rows (record { home = home; units = ring })

abbrev pub EndsRing : Laid → Laid → Laid → Buffer → Buffer → Type 0
EndsRing outer laid told old new =
    (home : Option ℕ) × RingEnded outer laid (drop laid.rows (rows_in old.bytes)) home told old new

-- Rings are joined of the free parts of a role, and laid behind those that are, each with its home among the outer ones.
pub record RingsJoined (front : ℕ) (role : Role) (outer : Laid) (found : List LaidRing) (told : Laid) (old : Desktop)
    (old_out : Buffer) (new : Desktop) (new_out : Buffer) : Type 0 where
  pub keeps : Keeps front role old new
  pub lays : LaysRows old_out new_out (all_rows found)
  pub room : row_total new_out.bytes + units_left front new ≤ row_total old_out.bytes + units_left front old
  pub joined : rings (free_of front role old) ≡ with_rings (points_of found) (rings (free_of front role new))
  pub homes : AllByRecursion HasHome found
  pub housed : (os : List LaidRing) → IsLaid outer old_out.bytes os → AreHoused os found
  pub count : told.rings ≡ length found
  pub rows : told.rows ≡ row_total new_out.bytes
  pub kept : told.housed ≡ sum_by kept_rows found

-- All parts of a role are joined, or a ring is open.
abbrev pub JoinsParts : ℕ → Role → Laid → Result Laid RingFault → Desktop → Buffer → Desktop → Buffer → Type 0
JoinsParts front role outer (Ok told) old old_out new new_out = (found : List LaidRing)
    × RingsJoined front role outer found told old old_out new new_out × (free_of front role new ≡ [])
JoinsParts front role outer (Err why) old old_out new new_out = (n : ℕ) × (why ≡ RingFault.OpenRing n)
    × (rings (free_of front role old) ≡ Err n) × SameRoom old old_out new new_out
