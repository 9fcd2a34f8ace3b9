-- What is known after a ring is joined, step by step. This project's own.
use Rattle.std.specs.Prelude.{◌≡◌, ℕ, ◌+◌, ◌≤◌, List, length, Result, Ok, Err}
use Rattle.mf_base.specs.Buffer.{Buffer}
use Rattle.mf_base.specs.declared.kind.Role.{Role}
use Rattle.feature_model.specs.declared.fault.RingFault.{RingFault}
use Rattle.feature_model.specs.Rings.{Piece, and_then_rings, grow, rings, first_node, last_node}
use Rattle.mf_rows.specs.Units.{Unit16}
use Rattle.mf_rows.specs.Desks.{Desktop}
use Rattle.ring_assembly.specs.Marked.{points_in}
use Rattle.ring_assembly.specs.Taken.{free_of, units_left, Keeps}
use Rattle.ring_assembly.specs.Rows.{LaysRows}

-- A ring grows from a first part, and free ones were taken for it: its points are laid, and its ends are these nodes.
pub record Growing (front : ℕ) (role : Role) (start : Piece) (ring : List Unit16) (first last : ℕ) (old : Desktop)
    (old_out : Buffer) (new : Desktop) (new_out : Buffer) : Type 0 where
  pub keeps : Keeps front role old new
  pub lays : LaysRows old_out new_out ring
  pub room : length ring + units_left front new ≤ length start.points + units_left front old
  pub joined : grow start (free_of front role old)
      ≡ grow (record { number = start.number; points = points_in ring }) (free_of front role new)
  pub first_is : first ≡ first_node (points_in ring)
  pub last_is : last ≡ last_node (points_in ring)

-- A ring is joined of a first part and of free ones, and its points are laid.
pub record RingJoined (front : ℕ) (role : Role) (start : Piece) (ring : List Unit16) (old : Desktop) (old_out : Buffer)
    (new : Desktop) (new_out : Buffer) : Type 0 where
  pub keeps : Keeps front role old new
  pub lays : LaysRows old_out new_out ring
  pub room : length ring + units_left front new ≤ length start.points + units_left front old
  pub joined : grow start (free_of front role old) ≡ and_then_rings (points_in ring) (rings (free_of front role new))

-- Both have the capacities that they had.
pub record SameRoom (old : Desktop) (old_out : Buffer) (new : Desktop) (new_out : Buffer) : Type 0 where
  pub records : new.capacity ≡ old.capacity
  pub out : new_out.capacity ≡ old_out.capacity

-- The ring is joined and laid, or it is open.
abbrev pub JoinsRing : ℕ → Role → Piece → Result (Unit {0}) RingFault → Desktop → Buffer → Desktop → Buffer → Type 0
JoinsRing front role start (Ok done) old old_out new new_out =
    (ring : List Unit16) × RingJoined front role start ring old old_out new new_out
JoinsRing front role start (Err why) old old_out new new_out =
    (why ≡ RingFault.OpenRing start.number) × (grow start (free_of front role old) ≡ Err start.number)
    × SameRoom old old_out new new_out
