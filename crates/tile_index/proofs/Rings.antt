-- The rings of a feature, one after another.
use Rattle.std.proofs.Common.{◌≡◌, ◌⊎◌, inl, inr, Bool, true, false, not, List, [], ◌∷◌, ◌++◌, map, Option}
use Rattle.std.proofs.Common.{refl, sym, ap, ◌∙◌, subst}
use Rattle.std.specs.Prelude.{◌&&◌, flat_map}
use Rattle.std.specs.List.{list_any, list_all}
use Rattle.mf_base.specs.declared.kind.EntityKind.{EntityKind}
use Rattle.mf_base.specs.declared.tile.TilePlace.{TilePlace}
use Rattle.feature_model.specs.Inside.{Ring, edges, inside}
use Rattle.feature_model.specs.Points.{Point, Part}
use Rattle.feature_model.specs.Blocks.{places, is_outer, inner_before, blocks_in}
use Rattle.feature_model.specs.Features.{Block, drawn_blocks}
use Rattle.map_model.specs.Rectangles.{blocks_of_shape, rings_of}
use Rattle.map_model.specs.Labels.{is_closed}
use Rattle.map_model.specs.SubFile.{edge_meets, covers}
use Rattle.map_model.specs.TileBytes.{tile_corner}
use Rattle.mf_rows.specs.Records.{Record, candidate_told}
use Rattle.mf_rows.specs.Shapes.{drawn_of, shape_told, feature_told, AreRings, HasShape, IsFeature}
use Rattle.ring_assembly.specs.Edges.{part_rings}
use Rattle.ring_assembly.proofs.Crossings.{inside-none}
use Rattle.tile_index.specs.Walks.{rings_cover}

-- ---- the rings of the feature that a record is

abbrev flat : List Block → Block
flat blocks = flat_map (λ rings. rings) blocks

one_more : (part : Part) (more : List Part) (b : Bool) → is_outer part.role ≡ b
    → map places (inner_before more) ++ flat (map (map places) (blocks_in more)) ≡ part_rings more
    → map places (inner_before (part ∷ more)) ++ flat (map (map places) (blocks_in (part ∷ more)))
    ≡ part_rings (part ∷ more)
unfolding blocks_in
one_more part more true e rest = rw (e, blocks_in) (ap (λ (rs : List Ring). places part.points ∷ rs) rest)
one_more part more false e rest = rw (e, blocks_in) (ap (λ (rs : List Ring). places part.points ∷ rs) rest)

blocks-rings : (parts : List Part)
    → map places (inner_before parts) ++ flat (map (map places) (blocks_in parts)) ≡ part_rings parts
unfolding blocks_in
blocks-rings [] = refl
blocks-rings (part ∷ more) = one_more part more (is_outer part.role) refl (blocks-rings more)

none_before : (parts : List Part) → AreRings parts → inner_before parts ≡ []
none_before [] are = absurd are
none_before (first ∷ more) are = rw are.0 refl

drawn-rings : (parts : List Part) → AreRings parts → flat (blocks_of_shape (drawn_blocks (blocks_in parts)))
    ≡ part_rings parts
drawn-rings parts are =
    ap (λ (inner : List (List Point)). map places inner ++ flat (map (map places) (blocks_in parts)))
    (sym (none_before parts are))
    ∙ blocks-rings parts

told-rings : (r : Record) → rings_of (feature_told r) ≡ flat (blocks_of_shape (shape_told r))
unfolding feature_told
told-rings r = refl

way-rings : (kind : EntityKind) (spot : Option Point) (parts : List Part) → HasShape kind spot parts
    → (kind ≡ EntityKind.Way) ⊎ (kind ≡ EntityKind.Relation)
    → flat (blocks_of_shape (drawn_of kind spot parts)) ≡ part_rings parts
way-rings kind spot parts has (inl is) =
    ap (λ k. flat (blocks_of_shape (drawn_of k spot parts))) is
    ∙ drawn-rings parts (subst (λ k. HasShape k spot parts) is has)
way-rings kind spot parts has (inr is) =
    ap (λ k. flat (blocks_of_shape (drawn_of k spot parts))) is
    ∙ drawn-rings parts (subst (λ k. HasShape k spot parts) is has)

-- ---- a feature that covers

in_order : (w a n i : Bool) → (((w && a) && n) && i) ≡ (w && (a && (n && i)))
in_order true true n i = refl
in_order true false n i = refl
in_order false a n i = refl

covers-told : (tile : TilePlace) (r : Record)
    → covers tile (feature_told r) ≡ (r.head.water && rings_cover tile (rings_of (feature_told r)))
unfolding covers feature_told candidate_told
covers-told tile r =
    let rings = rings_of (feature_told r) in
    in_order r.head.water (list_all is_closed rings) (not (list_any (edge_meets tile) (flat_map edges rings)))
    (inside rings (tile_corner tile))

covers-parts : (tile : TilePlace) (r : Record) → IsFeature r
    → (r.head.kind ≡ EntityKind.Way) ⊎ (r.head.kind ≡ EntityKind.Relation)
    → covers tile (feature_told r) ≡ (r.head.water && rings_cover tile (part_rings r.parts))
covers-parts tile r is kind =
    covers-told tile r
    ∙ ap (λ (rs : List Ring). r.head.water && rings_cover tile rs)
    (told-rings r ∙ way-rings r.head.kind r.spot r.parts is kind)

module _ (tile : TilePlace) (r : Record) (is : IsFeature r)
    (kind : (r.head.kind ≡ EntityKind.Way) ⊎ (r.head.kind ≡ EntityKind.Relation)) where
  pub covers-then : (cover : Bool) → cover ≡ rings_cover tile (part_rings r.parts) → r.head.water ≡ true
      → cover ≡ covers tile (feature_told r)
  covers-then cover is_cover marked =
      is_cover ∙ ap (λ w. w && rings_cover tile (part_rings r.parts)) (sym marked) ∙ sym (covers-parts tile r is kind)

  pub covers-else : r.head.water ≡ false → r.head.water ≡ covers tile (feature_told r)
  covers-else plain =
      plain ∙ ap (λ w. w && rings_cover tile (part_rings r.parts)) (sym plain) ∙ sym (covers-parts tile r is kind)

never : (w : Bool) → false ≡ (w && false)
never true = refl
never false = refl

none-covers : (tile : TilePlace) → false ≡ rings_cover tile []
none-covers tile = sym (inside-none (tile_corner tile))

pub node-covers : (tile : TilePlace) (r : Record) → r.head.kind ≡ EntityKind.Node
    → false ≡ covers tile (feature_told r)
node-covers tile r is =
    let no_rings : rings_of (feature_told r) ≡ [] =
    told-rings r ∙ ap (λ k. flat (blocks_of_shape (drawn_of k r.spot r.parts))) is in
    never r.head.water ∙ ap (λ b. r.head.water && b) (none-covers tile)
    ∙ ap (λ (rs : List Ring). r.head.water && rings_cover tile rs) (sym no_rings) ∙ sym (covers-told tile r)
