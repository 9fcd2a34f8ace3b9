-- What joining the parts of its relation makes of a desk. This project's own.
use Rattle.std.specs.Prelude.{◌≡◌, ℕ, ◌≤◌, List, [], ◌∷◌, ◌++◌, length, map, take, Result, Ok, Err}
use Rattle.mf_base.specs.declared.kind.EntityKind.{EntityKind}
use Rattle.mf_base.specs.declared.kind.Role.{Role}
use Rattle.feature_model.specs.declared.fault.RingFault.{RingFault}
use Rattle.feature_model.specs.Points.{Part}
use Rattle.feature_model.specs.Rings.{Piece, rings}
use Rattle.feature_model.specs.Blocks.{JoinedBlock, joined_parts, blocks_joined}
use Rattle.mf_rows.specs.Records.{Record}
use Rattle.mf_rows.specs.Desks.{Desktop}
use Rattle.ring_assembly.specs.Marked.{Marked, all_units}
use Rattle.ring_assembly.specs.Shown.{part_shown, AreFree}
use Rattle.ring_assembly.specs.Taken.{free_of}

-- one relation, and no other record
abbrev pub IsRelation : List Record → Type 0
IsRelation [] = ⊥
IsRelation (r ∷ []) = r.head.kind ≡ EntityKind.Relation
IsRelation (r ∷ s ∷ more) = ⊥

-- A desk holds one relation, and no loose unit.
abbrev pub HoldsRelation : Desktop → Type 0
HoldsRelation d = IsRelation d.records × (d.loose ≡ [])

-- the parts of the first record
abbrev pub first_parts : List Record → List Part
first_parts [] = []
first_parts (r ∷ more) = r.parts

-- the parts of the relation that a desk holds
abbrev pub parts_held : Desktop → List Part
parts_held d = first_parts d.records

-- a record with the rings of these blocks in the place of its parts
abbrev pub with_blocks : List JoinedBlock → Record → Record
with_blocks found r = record r { parts = joined_parts found }

-- what is answered: why there are no blocks, where there are none
abbrev pub outcome : Result (List JoinedBlock) RingFault → Result (Unit {0}) RingFault
outcome (Ok found) = Ok tt
outcome (Err why) = Err why

-- The desk afterwards: the blocks stand in the place of the parts. Where the parts make none it is empty.
abbrev pub assembled : Result (List JoinedBlock) RingFault → Desktop → Desktop
assembled (Ok found) d = record d { records = map (with_blocks found) d.records }
assembled (Err why) d = record { records = []; loose = []; capacity = d.capacity }

-- ---- the loose units of a relation

-- the blocks of outer and inner pieces, or why there are none
abbrev pub blocks_of_pieces : List Piece → List Piece → Result (List JoinedBlock) RingFault
blocks_of_pieces [] inner = Err RingFault.NoOuter
blocks_of_pieces (first ∷ outer) inner = blocks_joined (rings (first ∷ outer)) (rings inner)

-- the blocks of the free parts among the loose units
abbrev pub blocks_left : ℕ → Desktop → Result (List JoinedBlock) RingFault
blocks_left front d = blocks_of_pieces (free_of front Role.Outer d) (free_of front Role.Inner d)

-- The rings of blocks stand as parts behind the units of head and texts.
pub record HasBlocks (front : ℕ) (found : List JoinedBlock) (old new : Desktop) : Type 0 where
  pub parts : List Marked
  pub free : AreFree parts
  pub shown : map part_shown parts ≡ joined_parts found
  pub loose : new.loose ≡ take front old.loose ++ all_units parts
  pub few : length new.loose ≤ length old.loose
  pub records : new.records ≡ old.records
  pub capacity : new.capacity ≡ old.capacity

-- The parts are joined and their blocks put back, or there are none.
abbrev pub JoinsAll : ℕ → Result (Unit {0}) RingFault → Desktop → Desktop → Type 0
JoinsAll front (Ok done) old new = (found : List JoinedBlock) × (blocks_left front old ≡ Ok found)
    × HasBlocks front found old new
JoinsAll front (Err why) old new = (blocks_left front old ≡ Err why) × (new.capacity ≡ old.capacity)
