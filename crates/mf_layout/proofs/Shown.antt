-- The records of features that a map may show are members of tiles.
use Rattle.std.proofs.Common.{◌≡◌, ℕ, ◌≤◌, ◌<◌, ℤ, List, [], ◌∷◌, map, Option, Some, None, true}
use Rattle.std.proofs.Common.{refl, sym, ap, subst, ◌∙◌, arith}
use Rattle.std.specs.Prelude.{nat_abs, IfSome, IsTrue}
use Rattle.std.specs.List.{AllByRecursion, enumerate_from}
use Rattle.std.proofs.lemmas.List.{length-map}
use Rattle.std.proofs.lemmas.List.FromFn.{length-enumerate_from}
use Rattle.mf_base.specs.Ranges.{is_signed_32}
use Rattle.mf_base.specs.declared.tile.TilePlace.{TilePlace}
use Rattle.feature_model.specs.Mapping.{Mapping}
use Rattle.feature_model.specs.Entries.{IsMapping}
use Rattle.feature_model.specs.Features.{Feature}
use Rattle.feature_model.proofs.Rising.{all-imp, all-map, all-unmap, all-both}
use Rattle.map_model.specs.Members.{members, StandInOrder}
use Rattle.map_model.specs.NumberedMembers.{members_by, is_in_tile}
use Rattle.map_model.specs.Room.{rows_limit, IsWritable}
use Rattle.map_model.proofs.CornerLemmas.{in_32-small}
use Rattle.map_model.proofs.NumberedMembers.{members-all, members-shown}
use Rattle.map_model.proofs.WrittenLevels.{writable-of}
use Rattle.mf_rows.specs.Desks.{Desktop}
use Rattle.mf_rows.specs.Records.{Record, kept_told, candidate_told}
use Rattle.mf_rows.specs.Shapes.{IsFeature, feature_told}
use Rattle.spill_parts.specs.Shaped.{Spelled, IsLight, IsShown}
use Rattle.tile_body.specs.Members.{IsMember, HoldsMembers}
use Rattle.tile_body.specs.Tiles.{features_told}
use Rattle.tile_rows.specs.TileRows.{shown}
use Rattle.tile_load.specs.Loading.{told_of}
use Rattle.mf_layout.proofs.MembersStand.{members-stand}

-- a height of five digits has 32 bits
signed-height : (o : Option ℤ) → IfSome o (λ z. nat_abs z < 100000) → IfSome o (λ z. IsTrue (is_signed_32 z))
signed-height None small = tt
signed-height (Some z) small = in_32-small z (omega (arith, small))

-- a feature that a map may show may be a member
member-of : (mapping : Mapping) (r : Record) → IsMapping mapping → IsFeature r → IsShown mapping (feature_told r)
    → r.head.weight ≤ rows_limit → IsMember r
unfolding feature_told candidate_told
member-of mapping r is feature shows light =
    let written : IsWritable (feature_told r) =
    writable-of mapping (feature_told r) is (record { proper = shows.0; input = shows.1; light = light }) in
    record {
      feature = feature;
      places = shows.1.places;
      spelled = record {
        layer = shows.0.layer;
        height = signed-height r.head.height written.height;
        few = let few = written.few in omega (
          arith,
          few,
          length-map (enumerate_from 0 r.head.tags.items) (kept_told r.texts),
          length-enumerate_from 0 r.head.tags.items,
        );
        kept = written.kept;
        name = written.name;
        house = written.house;
        reference = written.reference;
      };
    }

-- records one after another are features one after another
features-of : (list : List Spelled) → features_told (told_of list) ≡ map shown list
features-of [] = refl
features-of (s ∷ list) = ap (λ (fs : List Feature). shown s ∷ fs) (features-of list)

-- the records of a tile's members show them
pub features-are : (list : List Spelled) (tile : TilePlace) (records : List Record)
    → records ≡ told_of (members_by shown list tile) → features_told records ≡ members (map shown list) tile
features-are list tile records are =
    ap features_told are ∙ features-of (members_by shown list tile)
    ∙ members-shown shown (λ (s : Spelled). s.told.head.number) list tile

module _ (limit : ℕ) (mapping : Mapping) (is : IsMapping mapping) (few : limit ≤ rows_limit) where
  all-members : (list : List Spelled) → AllByRecursion (IsLight limit) list
      → AllByRecursion (IsShown mapping) (map shown list) → AllByRecursion (λ (s : Spelled). IsMember s.told) list
  all-members list light shows =
      all-imp (λ (s : Spelled). IsLight limit s × IsShown mapping (shown s)) (λ (s : Spelled). IsMember s.told)
      (λ s h. member-of mapping s.told is h.0.feature h.1 (let w = h.0.weight in omega (arith, w, few))) list
      (all-both (IsLight limit) (λ (s : Spelled). IsShown mapping (shown s)) list light
      (all-unmap (IsShown mapping) shown list shows))

  -- the records of a tile's members are what a tile is encoded from
  pub holds-members : (list : List Spelled) (tile : TilePlace) (d : Desktop) → AllByRecursion (IsLight limit) list
      → AllByRecursion (IsShown mapping) (map shown list) → d.capacity ≡ limit
      → d.records ≡ told_of (members_by shown list tile) → HoldsMembers tile d
  holds-members list tile d light shows room records =
      record {
        room = omega (arith, room, few);
        each = subst (AllByRecursion IsMember) (sym records)
            (all-map IsMember (λ (s : Spelled). s.told) (members_by shown list tile)
            (all-imp (λ (s : Spelled). IsMember s.told × (is_in_tile tile (shown s) ≡ true))
            (λ (s : Spelled). IsMember s.told) (λ s h. h.0) (members_by shown list tile)
            (members-all shown (λ (s : Spelled). s.told.head.number) (λ (s : Spelled). IsMember s.told) list tile
            (all-members list light shows))));
        order = subst (StandInOrder tile.interval) (sym (features-are list tile d.records records))
            (members-stand (map shown list) tile);
      }
