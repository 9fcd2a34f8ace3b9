-- The blocks that rings make, ring by ring.
use Rattle.std.proofs.Common.{◌≡◌, ℕ, suc, ◌+◌, ◌*◌, ◌≤◌, ◌<◌, ◌^◌, List, [], ◌∷◌, ◌++◌, length, refl, sym, ap}
use Rattle.std.proofs.Common.{◌∙◌, arith, append_assoc, length-append, Bool, true, false, map, ◌≢◌, ◌⊎◌, inl, inr, Option, Some, None}
use Rattle.std.specs.Prelude.{flat_map, sum_by, if◌then◌else◌, drop, slice_get}
use Rattle.std.proofs.lemmas.List.{length-map}
use Rattle.mf_base.specs.Buffer.{Buffer, AppendsTo, HasRoom}
use Rattle.mf_base.specs.Spelling.{vbe_unsigned}
use Rattle.mf_base.specs.declared.place.Place.{Place}
use Rattle.mf_base.specs.declared.kind.EntityKind.{EntityKind}
use Rattle.mf_base.specs.declared.kind.Role.{Role}
use Rattle.mf_rows.specs.Units.{shown_part}
use Rattle.feature_model.specs.Inside.{Ring}
use Rattle.feature_model.specs.Points.{Point, Part}
use Rattle.feature_model.specs.Blocks.{places, is_outer, inner_before, blocks_in}
use Rattle.feature_model.specs.Features.{Block}
use Rattle.feature_model.proofs.Totals.{total, total-map, sum-total}
use Rattle.map_model.specs.Rectangles.{blocks_of_shape}
use Rattle.map_model.specs.Layout.{coordinate_bytes, ring_bytes, block_bytes}
use Rattle.map_model.specs.TileBytes.{coordinate_size}
use Rattle.mf_rows.specs.Records.{Record}
use Rattle.mf_rows.specs.RecordUnits.{parts_count}
use Rattle.mf_rows.specs.Shapes.{HasShape, drawn_of, feature_told, AreRings, IsFeature}
use Rattle.way_delta.specs.Rings.{blocks_told, blocks_bytes, ring_told, ring_size, rings_size, behind_outer, head_bytes}
use Rattle.way_delta.specs.Rings.{passed, parts_bytes, block_count, counts_size}
use Rattle.way_delta.proofs.Lists.{next-part, no-part}
use Rattle.way_delta.proofs.Writing.{Completes, completes-part, completes-more, completes-front, completes-all}

-- the blocks of parts
abbrev pub drawn : List Part → List Block
drawn parts = map (map places) (blocks_in parts)

-- the inner rings before the next outer one
abbrev inner : List Part → Block
inner parts = map places (inner_before parts)

-- ---- bytes

module _ (corner : Place) (double : Bool) where
  abbrev rings_bytes : Block → List ℕ
  rings_bytes rings = flat_map (ring_bytes corner double) rings

  parts-more : (part : Part) (more : List Part) (b : Bool) → is_outer part.role ≡ b
      → parts_bytes corner double more ≡ rings_bytes (inner more) ++ blocks_bytes corner double (drawn more)
      → parts_bytes corner double (part ∷ more)
      ≡ rings_bytes (inner (part ∷ more)) ++ blocks_bytes corner double (drawn (part ∷ more))
  unfolding parts_bytes blocks_in blocks_bytes block_bytes
  parts-more part more true e rest =
      let v = vbe_unsigned (suc (length (inner_before more))) in
      let r = ring_bytes corner double (places part.points) in
      let i = rings_bytes (inner more) in
      let b = blocks_bytes corner double (drawn more) in
      let count : suc (length (inner_before more)) ≡ suc (length (inner more)) =
      ap suc (sym (length-map (inner_before more) places)) in
      rw (e, blocks_in) (ap (λ l. (v ++ r) ++ l) rest ∙ sym (append_assoc (v ++ r) i b)
      ∙ ap (λ l. l ++ b) (append_assoc v r i) ∙ ap (λ n. (vbe_unsigned n ++ (r ++ i)) ++ b) count)
  parts-more part more false e rest =
      let r = ring_bytes corner double (places part.points) in
      let i = rings_bytes (inner more) in
      let b = blocks_bytes corner double (drawn more) in
      rw (e, blocks_in) (ap (λ l. r ++ l) rest ∙ sym (append_assoc r i b))

  parts-are : (parts : List Part)
      → parts_bytes corner double parts ≡ rings_bytes (inner parts) ++ blocks_bytes corner double (drawn parts)
  unfolding parts_bytes blocks_in blocks_bytes
  parts-are [] = refl
  parts-are (part ∷ more) = parts-more part more (is_outer part.role) refl (parts-are more)

no-inner : (parts : List Part) → AreRings parts → inner parts ≡ []
no-inner [] are = absurd are
no-inner (first ∷ more) are = rw are.0 refl

pub parts-drawn : (corner : Place) (double : Bool) (parts : List Part) → AreRings parts
    → parts_bytes corner double parts ≡ blocks_bytes corner double (drawn parts)
parts-drawn corner double parts are =
    parts-are corner double parts
    ∙ ap (λ rings. flat_map (ring_bytes corner double) rings ++ blocks_bytes corner double (drawn parts))
    (no-inner parts are)

-- ---- counts

count-more : (part : Part) (more : List Part) (b : Bool) → is_outer part.role ≡ b
    → block_count more ≡ length (drawn more) → block_count (part ∷ more) ≡ length (drawn (part ∷ more))
unfolding block_count blocks_in
count-more part more true e rest = rw (e, blocks_in) (omega (arith, rest))
count-more part more false e rest = rw (e, blocks_in) (omega (arith, rest))

pub count-drawn : (parts : List Part) → block_count parts ≡ length (drawn parts)
unfolding block_count blocks_in
count-drawn [] = refl
count-drawn (part ∷ more) = count-more part more (is_outer part.role) refl (count-drawn more)

length-ring : (corner : Place) (double : Bool) (points : List Point)
    → length (ring_bytes corner double (ring_told points))
    ≡ length (vbe_unsigned (length points)) + ring_size corner double points
unfolding ring_bytes
length-ring corner double points =
    length-append (vbe_unsigned (length (ring_told points))) (coordinate_bytes corner double (ring_told points))
    ∙ ap (λ n. length (vbe_unsigned n) + ring_size corner double points)
    (length-map points (λ (p : Point). p.place))

pub ring-parts : (corner : Place) (double : Bool) (points : List Point) → ring_bytes corner double (ring_told points)
    ≡ vbe_unsigned (length points) ++ coordinate_bytes corner double (ring_told points)
unfolding ring_bytes
ring-parts corner double points =
    ap (λ n. vbe_unsigned n ++ coordinate_bytes corner double (ring_told points))
    (length-map points (λ (p : Point). p.place))

-- counts and places are all bytes
pub counts-and_places : (corner : Place) (double : Bool) (parts : List Part)
    → counts_size parts + rings_size corner double parts ≡ length (parts_bytes corner double parts)
unfolding parts_bytes counts_size rings_size
counts-and_places corner double [] = refl
counts-and_places corner double (part ∷ more) =
    let head = head_bytes part.role more in
    let ring = ring_bytes corner double (ring_told part.points) in
    let rest = parts_bytes corner double more in
    let here = length-ring corner double part.points in
    let later = counts-and_places corner double more in
    let a = length-append head ring in
    let b = length-append (head ++ ring) rest in
    omega (arith, here, later, a, b)

-- ---- sizes of places

all-more : (part : Part) (more : List Part) (b : Bool) → is_outer part.role ≡ b
    → inner more ++ flat_map (λ rings. rings) (drawn more) ≡ map (λ (p : Part). places p.points) more
    → inner (part ∷ more) ++ flat_map (λ rings. rings) (drawn (part ∷ more))
    ≡ map (λ (p : Part). places p.points) (part ∷ more)
unfolding blocks_in
all-more part more true e rest = rw (e, blocks_in) (ap (λ l. places part.points ∷ l) rest)
all-more part more false e rest = rw (e, blocks_in) (ap (λ l. places part.points ∷ l) rest)

all-rings : (parts : List Part)
    → inner parts ++ flat_map (λ rings. rings) (drawn parts) ≡ map (λ (p : Part). places p.points) parts
unfolding blocks_in
all-rings [] = refl
all-rings (part ∷ more) = all-more part more (is_outer part.role) refl (all-rings more)

pub rings-drawn : (parts : List Part) → AreRings parts
    → flat_map (λ rings. rings) (drawn parts) ≡ map (λ (p : Part). places p.points) parts
rings-drawn parts are =
    ap (λ rings. rings ++ flat_map (λ rings. rings) (drawn parts)) (sym (no-inner parts are)) ∙ all-rings parts

sizes-total : (corner : Place) (double : Bool) (parts : List Part)
    → rings_size corner double parts ≡ total (λ (p : Part). ring_size corner double p.points) parts
unfolding rings_size
sizes-total corner double [] = refl
sizes-total corner double (part ∷ more) =
    ap (λ n. ring_size corner double part.points + n) (sizes-total corner double more)

pub sizes-drawn : (corner : Place) (double : Bool) (parts : List Part) → AreRings parts
    → rings_size corner double parts
    ≡ sum_by (λ (ring : Ring). length (coordinate_bytes corner double ring)) (flat_map (λ rings. rings) (drawn parts))
sizes-drawn corner double parts are =
    let size : Ring → ℕ = λ ring. length (coordinate_bytes corner double ring) in
    sizes-total corner double parts ∙ sym (total-map size (λ (p : Part). places p.points) parts)
    ∙ ap (total size) (sym (rings-drawn parts are)) ∙ sym (sum-total size (flat_map (λ rings. rings) (drawn parts)))

-- ---- of a record

-- behind the first ring, which is outer, stand those behind the next outer one
pub behind-first : (parts : List Part) → AreRings parts → drop 1 parts ≡ behind_outer parts
behind-first [] are = absurd are
behind-first (first ∷ more) are = rw are.0 refl

-- ---- of a record

-- a record's blocks are those of its rings
told-blocks : (kind : EntityKind) (spot : Option Point) (parts : List Part) → kind ≢ EntityKind.Node
    → blocks_of_shape (drawn_of kind spot parts) ≡ drawn parts
told-blocks EntityKind.Node spot parts way = absurd (way refl)
told-blocks EntityKind.Way spot parts way = refl
told-blocks EntityKind.Relation spot parts way = refl

are-rings : (kind : EntityKind) (spot : Option Point) (parts : List Part) → kind ≢ EntityKind.Node
    → HasShape kind spot parts → AreRings parts
are-rings EntityKind.Node spot parts way has = absurd (way refl)
are-rings EntityKind.Way spot parts way has = has
are-rings EntityKind.Relation spot parts way has = has

pub are_rings-of : (r : Record) → r.head.kind ≢ EntityKind.Node → IsFeature r → AreRings r.parts
are_rings-of r way is = are-rings r.head.kind r.spot r.parts way is

pub told-are : (r : Record) → r.head.kind ≢ EntityKind.Node → blocks_told r ≡ drawn r.parts
told-are r way = told-blocks r.head.kind r.spot r.parts way

pub told-bytes : (corner : Place) (double : Bool) (r : Record) → r.head.kind ≢ EntityKind.Node → IsFeature r
    → parts_bytes corner double r.parts ≡ blocks_bytes corner double (blocks_told r)
told-bytes corner double r way is =
    parts-drawn corner double r.parts (are_rings-of r way is)
    ∙ ap (blocks_bytes corner double) (sym (told-are r way))

pub told-count : (r : Record) → r.head.kind ≢ EntityKind.Node → block_count r.parts ≡ length (blocks_told r)
told-count r way = count-drawn r.parts ∙ ap length (sym (told-are r way))

pub told-size : (corner : Place) (double : Bool) (r : Record) → r.head.kind ≢ EntityKind.Node → IsFeature r
    → rings_size corner double r.parts ≡ coordinate_size corner double (feature_told r)
unfolding coordinate_size feature_told
told-size corner double r way is =
    sizes-drawn corner double r.parts (are_rings-of r way is)
    ∙ ap (λ (found : List Block). sum_by (λ (ring : Ring). length (coordinate_bytes corner double ring))
    (flat_map (λ rings. rings) found)) (sym (told-are r way))

-- a node has none of all
pub node-blocks : (r : Record) → r.head.kind ≡ EntityKind.Node → blocks_told r ≡ []
node-blocks r is = ap (λ k. blocks_of_shape (drawn_of k r.spot r.parts)) is

pub node-size : (corner : Place) (double : Bool) (r : Record) → r.head.kind ≡ EntityKind.Node
    → 0 ≡ coordinate_size corner double (feature_told r)
unfolding coordinate_size feature_told
node-size corner double r is =
    ap (λ (found : List Block). sum_by (λ (ring : Ring). length (coordinate_bytes corner double ring))
    (flat_map (λ rings. rings) found)) (sym (node-blocks r is))

pub node-bytes : (corner : Place) (double : Bool) (r : Record) → r.head.kind ≡ EntityKind.Node
    → blocks_bytes corner double (blocks_told r) ≡ []
unfolding blocks_bytes
node-bytes corner double r is = ap (blocks_bytes corner double) (node-blocks r is)

-- a way or a relation is no node
pub no-node : (kind : EntityKind) → (kind ≡ EntityKind.Way) ⊎ (kind ≡ EntityKind.Relation) → kind ≢ EntityKind.Node
no-node EntityKind.Node (inl is) node = absurd (cc is)
no-node EntityKind.Node (inr is) node = absurd (cc is)
no-node EntityKind.Way is node = absurd (cc node)
no-node EntityKind.Relation is node = absurd (cc node)

-- ---- ring by ring

-- what stands ahead, where the next ring is known
ahead-is : (role : Role) (points : List Point) (more ahead : List Part) (b : Bool) → is_outer role ≡ b
    → ahead ≡ behind_outer (shown_part role points ∷ more)
    → (head_bytes role ahead ≡ head_bytes role more) × (passed role ahead ≡ behind_outer more)
ahead-is role points more ahead true e is =
    let same : ahead ≡ more = rw e at is in
    (rw e (ap (λ l. vbe_unsigned (suc (length (inner_before l)))) same), rw e (ap behind_outer same))
ahead-is role points more ahead false e is = (rw e refl, rw e (rw e at is))

pub behind-few : (rings : List Part) → parts_count (behind_outer rings) ≤ parts_count rings
behind-few [] = omega arith
behind-few (part ∷ more) = by_role (is_outer part.role) (behind-few more)
  where
    by_role : (b : Bool) → parts_count (behind_outer more) ≤ parts_count more
        → parts_count (if b then more else behind_outer more) ≤ 1 + length part.points + parts_count more
    by_role true rest = omega arith
    by_role false rest = omega (arith, rest)

module _ (role : Role) (points : List Point) (rings more ahead : List Part)
    (is : Some (shown_part role points) ≡ slice_get rings 0) (rest : more ≡ drop 1 rings)
    (beyond : ahead ≡ behind_outer rings) where
  here : rings ≡ shown_part role points ∷ more
  here = next-part rings more role points is rest

  both : (head_bytes role ahead ≡ head_bytes role more) × (passed role ahead ≡ behind_outer more)
  unfolding here
  both = ahead-is role points more ahead (is_outer role) refl (beyond ∙ ap behind_outer here)

  pub next-few : length points + parts_count more + 1 ≡ parts_count rings
  unfolding here
  next-few = let e = ap parts_count here in omega (arith, e)

  pub next-beyond : (later : List Part) → later ≡ passed role ahead → later ≡ behind_outer more
  unfolding both
  next-beyond later is_passed = is_passed ∙ both.1

  pub next-bytes : (corner : Place) (double : Bool) → parts_bytes corner double rings
      ≡ head_bytes role ahead ++ (ring_bytes corner double (ring_told points) ++ parts_bytes corner double more)
  unfolding here both parts_bytes
  next-bytes corner double =
      ap (parts_bytes corner double) here
      ∙ append_assoc (head_bytes role more) (ring_bytes corner double (ring_told points))
      (parts_bytes corner double more)
      ∙ ap (λ l. l ++ (ring_bytes corner double (ring_told points) ++ parts_bytes corner double more)) (sym both.0)

  pub next-blocks : block_count rings ≡ (if is_outer role then 1 else 0) + block_count more
  unfolding here block_count
  next-blocks = ap block_count here

  pub next-counts : counts_size rings
      ≡ length (head_bytes role ahead) + length (vbe_unsigned (length points)) + counts_size more
  unfolding here both counts_size
  next-counts =
      ap counts_size here
      ∙ ap (λ l. length l + length (vbe_unsigned (length points)) + counts_size more) (sym both.0)

-- What is counted and what is still to be counted are the counts of all.
pub record CountsRings (blocks size : ℕ) (rings ahead all : List Part) : Type 0 where
  pub number : blocks + block_count rings ≡ block_count all
  pub bytes : size + counts_size rings ≡ counts_size all
  pub most : size + 20 * parts_count rings ≤ 20 * parts_count all
  pub few : blocks + parts_count rings ≤ parts_count all
  pub beyond : ahead ≡ behind_outer rings

pub counts-none : (rings ahead : List Part) → ahead ≡ behind_outer rings → CountsRings 0 0 rings ahead rings
counts-none rings ahead beyond = record {
  number = omega arith;
  bytes = omega arith;
  most = omega arith;
  few = omega arith;
  beyond = beyond;
}

pub counts-more : (blocks size one head count : ℕ) (role : Role) (points : List Point)
    (rings more ahead later all : List Part) → Some (shown_part role points) ≡ slice_get rings 0 → more ≡ drop 1 rings
    → one ≡ (if is_outer role then 1 else 0) → head ≡ length (head_bytes role ahead) → head ≤ 10
    → count ≡ length (vbe_unsigned (length points)) → count ≤ 10 → later ≡ passed role ahead
    → CountsRings blocks size rings ahead all → CountsRings (blocks + one) (size + (head + count)) more later all
counts-more blocks size one head count role points rings more ahead later all is rest one_is head_is short count_is low
    later_is h =
    let few = next-few role points rings more ahead is rest h.beyond in
    let number = next-blocks role points rings more ahead is rest h.beyond in
    let counts = next-counts role points rings more ahead is rest h.beyond in
    let small = at_most_one (is_outer role) in
    let h1 = h.number in
    let h2 = h.bytes in
    let h3 = h.most in
    let h4 = h.few in
    record {
      number = omega (arith, h1, number, one_is);
      bytes = omega (arith, h2, counts, head_is, count_is);
      most = omega (arith, h3, few, short, low);
      few = omega (arith, h4, few, small, one_is);
      beyond = next-beyond role points rings more ahead is rest h.beyond later later_is;
    }
  where
    at_most_one : (b : Bool) → (if b then 1 else 0) ≤ 1
    at_most_one true = omega arith
    at_most_one false = omega arith

-- What is still to be put of rings completes them.
pub record PutsRings (now first : Buffer) (corner : Place) (double : Bool) (rings ahead all : List Part)
    : Type 0 where
  pub completes : Completes now first (parts_bytes corner double rings) (parts_bytes corner double all)
  pub few : parts_count rings < 2 ^ 32
  pub beyond : ahead ≡ behind_outer rings

module _ (now first : Buffer) (corner : Place) (double : Bool) (role : Role) (points : List Point)
    (rings more ahead all : List Part) (is : Some (shown_part role points) ≡ slice_get rings 0)
    (rest : more ≡ drop 1 rings) (h : PutsRings now first corner double rings ahead all)
    (room : HasRoom first (length (parts_bytes corner double all) + 10)) where
  bytes-next : parts_bytes corner double rings
      ≡ head_bytes role ahead ++ (ring_bytes corner double (ring_told points) ++ parts_bytes corner double more)
  bytes-next = next-bytes role points rings more ahead is rest h.beyond corner double

  pub head-room : HasRoom now (length (head_bytes role ahead) + 10)
  head-room = completes-front now first (parts_bytes corner double rings) (head_bytes role ahead)
      (ring_bytes corner double (ring_told points) ++ parts_bytes corner double more) (parts_bytes corner double all) 10
      bytes-next h.completes room

  pub head-few : parts_count ahead < 2 ^ 32
  head-few = let le = behind-few rings in let same = ap parts_count h.beyond in let few =
      h.few in omega (arith, le, same, few)

  pub points-few : length points < 2 ^ 32
  points-few = let count = next-few role points rings more ahead is rest h.beyond in let few =
      h.few in omega (arith, count, few)

  middle : (next : Buffer) → AppendsTo now next (head_bytes role ahead)
      → Completes next first (ring_bytes corner double (ring_told points) ++ parts_bytes corner double more)
      (parts_bytes corner double all)
  middle next head = completes-part now next first (parts_bytes corner double rings) (head_bytes role ahead)
      (ring_bytes corner double (ring_told points) ++ parts_bytes corner double more) (parts_bytes corner double all)
      bytes-next h.completes head

  pub ring-room : (next : Buffer) → AppendsTo now next (head_bytes role ahead)
      → HasRoom next (length (ring_bytes corner double (ring_told points)) + 10)
  ring-room next head = completes-front next first
      (ring_bytes corner double (ring_told points) ++ parts_bytes corner double more)
      (ring_bytes corner double (ring_told points)) (parts_bytes corner double more) (parts_bytes corner double all) 10
      refl (middle next head) room

  pub puts-ring : (next last : Buffer) (later : List Part) → AppendsTo now next (head_bytes role ahead)
      → later ≡ passed role ahead → AppendsTo next last (ring_bytes corner double (ring_told points))
      → PutsRings last first corner double more later all
  puts-ring next last later head later_is ring = record {
    completes = completes-more next last first (ring_bytes corner double (ring_told points))
        (parts_bytes corner double more) (parts_bytes corner double all) (middle next head) ring;
    few = let count = next-few role points rings more ahead is rest h.beyond in let few =
        h.few in omega (arith, count, few);
    beyond = next-beyond role points rings more ahead is rest h.beyond later later_is;
  }

pub puts-rings_all : (now first : Buffer) (corner : Place) (double : Bool) (rings ahead all : List Part)
    → None ≡ slice_get rings 0 → PutsRings now first corner double rings ahead all
    → AppendsTo first now (parts_bytes corner double all)
unfolding parts_bytes
puts-rings_all now first corner double rings ahead all none h =
    completes-all now first (parts_bytes corner double rings) (parts_bytes corner double all)
    (ap (parts_bytes corner double) (no-part rings none)) h.completes

-- What is measured and what is still to be measured of rings is the size of all.
pub record MeasuresRings (single double : ℕ) (corner : Place) (rings all : List Part) : Type 0 where
  pub single_size : single + rings_size corner false rings ≡ rings_size corner false all
  pub double_size : double + rings_size corner true rings ≡ rings_size corner true all
  pub single_most : single + 20 * parts_count rings ≤ 20 * parts_count all
  pub double_most : double + 20 * parts_count rings ≤ 20 * parts_count all

pub measures-ring : (single double a b : ℕ) (corner : Place) (role : Role) (points : List Point)
    (rings more all : List Part) → Some (shown_part role points) ≡ slice_get rings 0 → more ≡ drop 1 rings
    → a ≡ ring_size corner false points → b ≡ ring_size corner true points
    → (a ≤ 20 * length points) × (b ≤ 20 * length points)
    → MeasuresRings single double corner rings all → MeasuresRings (single + a) (double + b) corner more all
unfolding rings_size
measures-ring single double a b corner role points rings more all is rest one two low h =
    let here = next-part rings more role points is rest in
    let few = ap parts_count here in
    let single_is = ap (rings_size corner false) here in
    let double_is = ap (rings_size corner true) here in
    let h1 = h.single_size in
    let h2 = h.double_size in
    let h3 = h.single_most in
    let h4 = h.double_most in
    let low1 = low.0 in
    let low2 = low.1 in
    record {
      single_size = omega (arith, h1, single_is, one);
      double_size = omega (arith, h2, double_is, two);
      single_most = omega (arith, h3, few, low1);
      double_most = omega (arith, h4, few, low2);
    }

pub no-rings : (corner : Place) (double : Bool) (rings : List Part) → None ≡ slice_get rings 0
    → rings_size corner double rings ≡ 0
unfolding rings_size
no-rings corner double rings none = ap (rings_size corner double) (no-part rings none)

pub no-counts : (rings : List Part) → None ≡ slice_get rings 0 → (block_count rings ≡ 0) × (counts_size rings ≡ 0)
unfolding block_count counts_size
no-counts rings none = (ap block_count (no-part rings none), ap counts_size (no-part rings none))
