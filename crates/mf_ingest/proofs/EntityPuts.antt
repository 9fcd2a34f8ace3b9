-- The rows that were put of an entity are those of the definition.
use Rattle.std.proofs.Common.{◌≡◌, [], ◌∷◌, true, false, Bool, Option, Some, None, refl, sym, ap, subst}
use Rattle.std.specs.Prelude.{option_map, if◌then◌else◌, IfSome}
use Rattle.std.proofs.lemmas.Option.{same_Some}
use Rattle.mf_base.specs.declared.kind.EntityKind.{EntityKind}
use Rattle.osm_model.specs.Entities.{Entity, Node, Way, Relation, node, way, relation, kind_of}
use Rattle.feature_model.specs.Mapping.{Mapping}
use Rattle.feature_model.specs.Choice.{Choice, choice}
use Rattle.feature_model.specs.Points.{point_of}
use Rattle.feature_model.specs.Descriptions.{Description, description, described, may_be_shown, entries_for, tags_of}
use Rattle.mf_rows.specs.Records.{texts_told}
use Rattle.mf_rows.specs.Whole.{IsSpot}
use Rattle.spill_parts.specs.Handed.{AreCandidates, spot_of}
use Rattle.mf_ingest.specs.declared.front.Described.{Described}
use Rattle.mf_ingest.specs.Fronts.{front_told, IsFront}
use Rattle.mf_ingest.specs.FrontRows.{front_of, front_rows}
use Rattle.mf_ingest.specs.Gathered.{Gathered, gathered_rows, rows_behind, HasPut}
use Rattle.mf_ingest.specs.EntityRows.{whole_rows, node_parts, way_parts, relation_parts}
use Rattle.mf_ingest.proofs.Records.{with_point, front-again, point-again, front-rows, point-rows}
use Rattle.mf_ingest.proofs.Handing.{one-candidate, none-candidate, node-rows, way-rows, relation-rows, no-relation-rows}

-- ---- what a description tells of its entity

module _ (mapping : Mapping) (e : Entity) (d : Description) (is : description mapping e ≡ Some d) where
  described-kind : d.kind ≡ kind_of e
  unfolding description
  described-kind = by_shown (may_be_shown e) (choice (entries_for mapping (kind_of e)) (tags_of e)) is
    where
      by_shown : (shown : Bool) (chosen : Option Choice)
          → (if shown then option_map (described e) chosen else None) ≡ Some d → d.kind ≡ kind_of e
      by_shown false chosen same = absurd (cc same)
      by_shown true None same = absurd (cc same)
      by_shown true (Some c) same = sym (ap (λ (d : Description). d.kind) (same_Some (described e c) d same))

-- ---- candidates

module _ (mapping : Mapping) (d : Described) (is : IsFront d) where
  -- a record of head and texts alone
  front-candidate : (e : Entity) → Some (front_told d) ≡ description mapping e → spot_of e ≡ None
      → AreCandidates mapping (e ∷ []) (front_rows d)
  front-candidate e told none =
      let texts = texts_told d.texts.block.now d.texts.spans.items in
      subst (AreCandidates mapping (e ∷ [])) (front-rows d.head texts)
      (one-candidate mapping e (front_of d) (record {
        described = sym told;
        spot_is = sym none;
        no_parts = refl;
        no_number = is.no_number;
        no_weight = is.no_weight;
        whole = front-again d.head texts is.head_is is.texts_are;
      }))

  -- a record with the point of a node
  node-candidate : (n : Node) → Some (front_told d) ≡ description mapping (node n) → IsSpot (point_of n)
      → AreCandidates mapping (node n ∷ []) (whole_rows n d)
  node-candidate n told known =
      let texts = texts_told d.texts.block.now d.texts.spans.items in
      let kind : d.head.kind ≡ EntityKind.Node = described-kind mapping (node n) (front_told d) (sym told) in
      subst (AreCandidates mapping (node n ∷ [])) (point-rows d.head texts (point_of n) kind)
      (one-candidate mapping (node n) (with_point d.head texts (point_of n)) (record {
        described = sym told;
        spot_is = refl;
        no_parts = refl;
        no_number = is.no_number;
        no_weight = is.no_weight;
        whole = point-again d.head texts is.head_is is.texts_are (point_of n) kind known;
      }))

-- ---- what was put

module _ (mapping : Mapping) {old new : Gathered} where
  pub node-put : (n : Node) (d : Option Described) → option_map front_told d ≡ description mapping (node n)
      → IfSome d IsFront → IsSpot (point_of n) → gathered_rows new ≡ rows_behind (gathered_rows old) (node_parts n d)
      → HasPut mapping (node n ∷ []) old new
  node-put n None told is known behind = record {
    more = node_parts n None;
    rows = node-rows mapping n [] (none-candidate mapping (node n) (sym told));
    behind = behind;
  }
  node-put n (Some d) told is known behind = record {
    more = node_parts n (Some d);
    rows = node-rows mapping n (whole_rows n d) (node-candidate mapping d is n told known);
    behind = behind;
  }

  pub way-put : (w : Way) (d : Option Described) → option_map front_told d ≡ description mapping (way w)
      → IfSome d IsFront → gathered_rows new ≡ rows_behind (gathered_rows old) (way_parts w d)
      → HasPut mapping (way w ∷ []) old new
  way-put w None told is behind = record {
    more = way_parts w None;
    rows = way-rows mapping w [] (none-candidate mapping (way w) (sym told));
    behind = behind;
  }
  way-put w (Some d) told is behind = record {
    more = way_parts w (Some d);
    rows = way-rows mapping w (front_rows d) (front-candidate mapping d is (way w) told refl);
    behind = behind;
  }

  pub relation-put : (r : Relation) (d : Option Described) → option_map front_told d ≡ description mapping (relation r)
      → IfSome d IsFront → gathered_rows new ≡ rows_behind (gathered_rows old) (relation_parts r d)
      → HasPut mapping (relation r ∷ []) old new
  relation-put r None told is behind = record {
    more = relation_parts r None;
    rows = no-relation-rows mapping r (sym told);
    behind = behind;
  }
  relation-put r (Some d) told is behind = record {
    more = relation_parts r (Some d);
    rows = relation-rows mapping r (front_told d) (front_rows d) (sym told)
        (front-candidate mapping d is (relation r) told refl);
    behind = behind;
  }
