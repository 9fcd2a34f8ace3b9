-- What is put one after another of a POI, and of a way behind its data size.
use Rattle.std.proofs.Common.{◌≡◌, ℕ, ◌+◌, List, [], ◌∷◌, ◌++◌, length, refl, sym, ap, ◌∙◌, arith}
use Rattle.std.proofs.Common.{length-append, Option, Some, None, subst}
use Rattle.std.specs.Prelude.{is_some, option_map, nat_lt, flat_map}
use Rattle.mf_base.specs.Buffer.{Buffer, AppendsTo}
use Rattle.mf_base.specs.Spelling.{vbe_unsigned, vbe_signed, string, big_endian}
use Rattle.mf_base.specs.declared.place.Place.{Place}
use Rattle.mf_base.specs.declared.kind.EntityKind.{EntityKind}
use Rattle.mf_base.specs.declared.tile.TilePlace.{TilePlace}
use Rattle.mf_base.proofs.ByteLaws.{length-big_endian}
use Rattle.feature_model.specs.Points.{Point, Part}
use Rattle.map_model.specs.Labels.{label_place}
use Rattle.map_model.specs.Rectangles.{places_of_shape, first_place}
use Rattle.map_model.specs.Layout.{step, step_bytes, optional, flag, tag_bytes, poi_flags, poi_fields_bytes}
use Rattle.map_model.specs.Layout.{first_of_blocks, block_bytes, way_flags, way_body_bytes, way_fields_bytes, sized}
use Rattle.map_model.specs.TileBytes.{poi_fields, poi_bytes, tile_corner, is_double, way_fields, way_bytes}
use Rattle.mf_rows.specs.Records.{Record, text_in, candidate_told}
use Rattle.mf_rows.specs.Shapes.{spot_place, drawn_of, feature_told}
use Rattle.mf_rows.specs.declared.head.TextSlot.TheVariants.{Name, House, Reference}
use Rattle.way_delta.specs.Steps.{shown}
use Rattle.way_delta.specs.Rings.{blocks_told, blocks_bytes}
use Rattle.way_delta.proofs.Writing.{puts-two}
use Rattle.tile_body.specs.declared.way.Drawn.{Drawn}
use Rattle.tile_body.specs.Tags.{tags_told}
use Rattle.tile_body.specs.Ways.{fields_told, way_told, body_told, block_count_bytes, flags_of, body_of}
use Rattle.tile_body.specs.Ways.{IsDrawn}

-- a buffer once a part was put
pub size-after : (first next : Buffer) (part : List ℕ) → AppendsTo first next part
    → (length next.bytes ≡ length first.bytes + length part) × (next.capacity ≡ first.capacity)
size-after first next part put =
    (ap (λ b. length b.bytes) put ∙ length-append first.bytes part, ap (λ b. b.capacity) put)

-- ---- POIs

-- the place of a node
abbrev pub spot_of : Record → Place
spot_of r = spot_place r.spot

node-place : (kind : EntityKind) (spot : Option Point) (parts : List Part) → kind ≡ EntityKind.Node
    → first_place (places_of_shape (drawn_of kind spot parts)) ≡ spot_place spot
node-place kind spot parts is = ap (λ k. first_place (places_of_shape (drawn_of k spot parts))) is

module _ (corner : Place) (r : Record) (node : r.head.kind ≡ EntityKind.Node) where
  -- the bytes of a POI, part by part
  pub poi-parts : poi_bytes corner (feature_told r)
      ≡ step_bytes (step corner (spot_of r)) ++ tag_bytes r.head.layer (tags_told r)
      ++ poi_flags (poi_fields (feature_told r)) ∷ optional string (text_in r.texts Name)
      ++ optional string (text_in r.texts House) ++ optional vbe_signed r.head.height
  unfolding poi_bytes poi_fields_bytes poi_fields feature_told candidate_told
  poi-parts =
      ap (λ p. step_bytes (step corner p) ++ tag_bytes r.head.layer (tags_told r)
      ++ poi_flags (poi_fields (feature_told r)) ∷ optional string (text_in r.texts Name)
      ++ optional string (text_in r.texts House) ++ optional vbe_signed r.head.height)
      (node-place r.head.kind r.spot r.parts node)

  pub poi-length : length (poi_bytes corner (feature_told r))
      ≡ length (step_bytes (step corner (spot_of r))) + length (tag_bytes r.head.layer (tags_told r)) + 1
      + length (optional string (text_in r.texts Name)) + length (optional string (text_in r.texts House))
      + length (optional vbe_signed r.head.height)
  poi-length =
      let a = step_bytes (step corner (spot_of r)) in
      let b = tag_bytes r.head.layer (tags_told r) in
      let c = poi_flags (poi_fields (feature_told r)) ∷ optional string (text_in r.texts Name) in
      let d = optional string (text_in r.texts House) in
      let e = optional vbe_signed r.head.height in
      ap length poi-parts ∙ omega (
        arith,
        length-append (((a ++ b) ++ c) ++ d) e,
        length-append ((a ++ b) ++ c) d,
        length-append (a ++ b) c,
        length-append a b,
      )

  pub puts-poi : (b0 b1 b2 b3 b4 b5 b6 : Buffer) → AppendsTo b0 b1 (step_bytes (step corner (spot_of r)))
      → AppendsTo b1 b2 (tag_bytes r.head.layer (tags_told r))
      → AppendsTo b2 b3 (poi_flags (poi_fields (feature_told r)) ∷ [])
      → AppendsTo b3 b4 (optional string (text_in r.texts Name))
      → AppendsTo b4 b5 (optional string (text_in r.texts House)) → AppendsTo b5 b6 (optional vbe_signed r.head.height)
      → AppendsTo b0 b6 (poi_bytes corner (feature_told r))
  puts-poi b0 b1 b2 b3 b4 b5 b6 place tags flags name house height =
      let a = step_bytes (step corner (spot_of r)) in
      let b = tag_bytes r.head.layer (tags_told r) in
      let f = poi_flags (poi_fields (feature_told r)) in
      let n = optional string (text_in r.texts Name) in
      let h = optional string (text_in r.texts House) in
      let e = optional vbe_signed r.head.height in
      subst (AppendsTo b0 b6) (sym poi-parts)
      (puts-two b0 b5 b6 (((a ++ b) ++ (f ∷ n)) ++ h) e
      (puts-two b0 b4 b5 ((a ++ b) ++ (f ∷ n)) h
      (puts-two b0 b2 b4 (a ++ b) (f ∷ n) (puts-two b0 b1 b2 a b place tags) (puts-two b2 b3 b4 (f ∷ []) n flags name))
      house) height)

-- ---- ways

some-mapped : {A B : Type 0} (f : A → B) (x : Option A) → is_some (option_map f x) ≡ is_some x
some-mapped f None = refl
some-mapped f (Some x) = refl

optional-mapped : {A B : Type 0} (bytes : B → List ℕ) (f : A → B) (x : Option A)
    → optional bytes (option_map f x) ≡ optional (λ a. bytes (f a)) x
optional-mapped bytes f None = refl
optional-mapped bytes f (Some x) = refl

pub and-none : (n : ℕ) → n ≡ n + 0
and-none n = omega arith

module _ (tile : TilePlace) (r : Record) (d : Drawn) (drawn : IsDrawn tile r d) where
  flags-are : flags_of r d ≡ way_flags (fields_told tile r)
  unfolding way_fields feature_told candidate_told
  flags-are =
      let label : is_some d.label ≡ is_some (label_place (feature_told r)) =
      sym (some-mapped shown d.label) ∙ ap is_some drawn.label
      ∙ some-mapped (step (first_of_blocks (blocks_told r))) (label_place (feature_told r)) in
      let front = flag (is_some (text_in r.texts Name)) 0x80 + flag (is_some (text_in r.texts House)) 0x40
      + flag (is_some (text_in r.texts Reference)) 0x20 in
      (λ i. front + flag (label i) 0x10 + flag (nat_lt 1 (drawn.sized.blocks i)) 0x08 + flag (drawn.double i) 0x04)
      ∙ and-none (front + flag (is_some (label_place (feature_told r))) 0x10
      + flag (nat_lt 1 (length (blocks_told r))) 0x08 + flag (is_double (tile_corner tile) (feature_told r)) 0x04)

  pub body-is : body_of r d ≡ body_told tile r
  unfolding body_of body_told way_body_bytes way_fields blocks_bytes feature_told candidate_told
  body-is =
      let label = ap (optional step_bytes) drawn.label
      ∙ optional-mapped step_bytes (step (first_of_blocks (blocks_told r))) (label_place (feature_told r)) in
      λ i. big_endian 2 (drawn.bits i) ++ tag_bytes r.head.layer (tags_told r)
      ++ flags-are i ∷ optional string (text_in r.texts Name)
      ++ optional string (text_in r.texts House) ++ optional string (text_in r.texts Reference) ++ label i
      ++ block_count_bytes (drawn.sized.blocks i)
      ++ flat_map (block_bytes (drawn.corner i) (drawn.double i)) (blocks_told r)

  -- a way is its body behind its size
  pub way-parts : way_told tile r ≡ vbe_unsigned (length (body_of r d)) ++ body_of r d
  unfolding way_told body_told way_bytes way_fields_bytes sized
  way-parts = ap (λ body. vbe_unsigned (length body) ++ body) (sym body-is)

module _ (r : Record) (d : Drawn) where
  pub body-length : length (body_of r d)
      ≡ 2 + length (tag_bytes r.head.layer (tags_told r)) + 1 + length (optional string (text_in r.texts Name))
      + length (optional string (text_in r.texts House)) + length (optional string (text_in r.texts Reference))
      + length (optional step_bytes (option_map shown d.label)) + length (block_count_bytes d.blocks)
      + length (blocks_bytes d.corner d.double (blocks_told r))
  unfolding body_of
  body-length =
      let a = big_endian 2 d.bits in
      let b = tag_bytes r.head.layer (tags_told r) in
      let c = flags_of r d ∷ optional string (text_in r.texts Name) in
      let h = optional string (text_in r.texts House) in
      let f = optional string (text_in r.texts Reference) in
      let l = optional step_bytes (option_map shown d.label) in
      let n = block_count_bytes d.blocks in
      let p = blocks_bytes d.corner d.double (blocks_told r) in
      omega (
        arith,
        length-append (((((((a ++ b) ++ c) ++ h) ++ f) ++ l) ++ n)) p,
        length-append ((((((a ++ b) ++ c) ++ h) ++ f) ++ l)) n,
        length-append (((((a ++ b) ++ c) ++ h) ++ f)) l,
        length-append (((a ++ b) ++ c) ++ h) f,
        length-append ((a ++ b) ++ c) h,
        length-append (a ++ b) c,
        length-append a b,
        length-big_endian 2 d.bits,
      )

  pub puts-body : (b0 b1 b2 b3 b4 b5 b6 b7 b8 b9 : Buffer) → AppendsTo b0 b1 (big_endian 2 d.bits)
      → AppendsTo b1 b2 (tag_bytes r.head.layer (tags_told r)) → AppendsTo b2 b3 (flags_of r d ∷ [])
      → AppendsTo b3 b4 (optional string (text_in r.texts Name))
      → AppendsTo b4 b5 (optional string (text_in r.texts House))
      → AppendsTo b5 b6 (optional string (text_in r.texts Reference))
      → AppendsTo b6 b7 (optional step_bytes (option_map shown d.label)) → AppendsTo b7 b8 (block_count_bytes d.blocks)
      → AppendsTo b8 b9 (blocks_bytes d.corner d.double (blocks_told r)) → AppendsTo b0 b9 (body_of r d)
  unfolding body_of
  puts-body b0 b1 b2 b3 b4 b5 b6 b7 b8 b9 bits tags flags name house reference label count blocks =
      let a = big_endian 2 d.bits in
      let b = tag_bytes r.head.layer (tags_told r) in
      let n = optional string (text_in r.texts Name) in
      let c = flags_of r d ∷ n in
      let h = optional string (text_in r.texts House) in
      let f = optional string (text_in r.texts Reference) in
      let l = optional step_bytes (option_map shown d.label) in
      let k = block_count_bytes d.blocks in
      let p = blocks_bytes d.corner d.double (blocks_told r) in
      puts-two b0 b8 b9 ((((((a ++ b) ++ c) ++ h) ++ f) ++ l) ++ k) p
      (puts-two b0 b7 b8 (((((a ++ b) ++ c) ++ h) ++ f) ++ l) k
      (puts-two b0 b6 b7 ((((a ++ b) ++ c) ++ h) ++ f) l
      (puts-two b0 b5 b6 (((a ++ b) ++ c) ++ h) f
      (puts-two b0 b4 b5 ((a ++ b) ++ c) h
      (puts-two b0 b2 b4 (a ++ b) c (puts-two b0 b1 b2 a b bits tags)
      (puts-two b2 b3 b4 (flags_of r d ∷ []) n flags name)) house) reference) label) count) blocks
