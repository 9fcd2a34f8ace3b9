-- The data blocks of a record, ring by ring: Mapsforge Specification, Binary Map File Format, version 5, on ways.
use Rattle.std.specs.Prelude.{ℕ, suc, ◌+◌, Bool, if◌then◌else◌, List, [], ◌∷◌, ◌++◌, flat_map}
use Rattle.std.specs.Prelude.{length}
use Rattle.mf_base.specs.Spelling.{vbe_unsigned}
use Rattle.mf_base.specs.declared.place.Place.{Place}
use Rattle.mf_base.specs.declared.kind.Role.{Role}
use Rattle.feature_model.specs.Inside.{Ring}
use Rattle.feature_model.specs.Points.{Point, Part}
use Rattle.feature_model.specs.Blocks.{places, is_outer, inner_before}
use Rattle.feature_model.specs.Features.{Block}
use Rattle.map_model.specs.Rectangles.{origin, blocks_of_shape}
use Rattle.map_model.specs.Layout.{step_bytes, steps_from, coordinate_bytes, ring_bytes, block_bytes}
use Rattle.mf_rows.specs.Records.{Record}
use Rattle.mf_rows.specs.Shapes.{shape_told}

-- ---- of a record

-- the data blocks of a record
abbrev pub blocks_told : Record → List Block
blocks_told r = blocks_of_shape (shape_told r)

-- the bytes of data blocks
unfoldable pub blocks_bytes : Place → Bool → List Block → List ℕ
blocks_bytes corner double blocks = flat_map (block_bytes corner double) blocks

-- ---- of a ring

-- the places of points
abbrev pub ring_told : List Point → Ring
ring_told points = places points

-- what is written of places behind one, where the step to that one was the last
abbrev pub later_steps : Bool → Place → Place → Ring → Ring
later_steps double before last ring = if double then steps_from last (steps_from before ring) else steps_from before ring

-- the bytes of the places of a ring behind its first
unfoldable pub later_bytes : Bool → Place → Ring → List ℕ
later_bytes double first ring = flat_map step_bytes (later_steps double first origin ring)

-- how many bytes the places of a ring take
abbrev pub ring_size : Place → Bool → List Point → ℕ
ring_size corner double points = length (coordinate_bytes corner double (ring_told points))

-- how many those behind its first take
abbrev pub later_size : Bool → Place → List Point → ℕ
later_size double first points = length (later_bytes double first (ring_told points))

-- ---- of rings

-- how many bytes the places of rings take
unfoldable pub rings_size : Place → Bool → List Part → ℕ
rings_size corner double [] = 0
rings_size corner double (part ∷ more) = ring_size corner double part.points + rings_size corner double more

-- the rings behind the next outer one
abbrev pub behind_outer : List Part → List Part
behind_outer [] = []
behind_outer (part ∷ more) = if is_outer part.role then more else behind_outer more

-- the rings behind the next outer one, once a ring of this role is passed
abbrev pub passed : Role → List Part → List Part
passed role ahead = if is_outer role then behind_outer ahead else ahead

-- the number of rings of the block that a ring of this role begins before these; an inner ring begins none
abbrev pub head_bytes : Role → List Part → List ℕ
head_bytes role more = if is_outer role then vbe_unsigned (suc (length (inner_before more))) else []

-- the bytes of the blocks that rings make, ring by ring
unfoldable pub parts_bytes : Place → Bool → List Part → List ℕ
parts_bytes corner double [] = []
parts_bytes corner double (part ∷ more) =
    head_bytes part.role more ++ ring_bytes corner double (ring_told part.points) ++ parts_bytes corner double more

-- how many blocks rings make
unfoldable pub block_count : List Part → ℕ
block_count [] = 0
block_count (part ∷ more) = (if is_outer part.role then 1 else 0) + block_count more

-- how many bytes the numbers of rings and of places take
unfoldable pub counts_size : List Part → ℕ
counts_size [] = 0
counts_size (part ∷ more) =
    length (head_bytes part.role more) + length (vbe_unsigned (length part.points)) + counts_size more
