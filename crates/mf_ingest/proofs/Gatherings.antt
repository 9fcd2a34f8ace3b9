-- What a gathering and its store are once rows were put to its parts.
use Rattle.std.proofs.Common.{◌≡◌, ◌≤◌, ℕ, List, [], ◌∷◌, ◌++◌, Option, Some, refl, sym, ap, ◌∙◌, subst, arith}
use Rattle.std.proofs.Common.{append_assoc}
use Rattle.std.specs.Prelude.{Result, Ok, Err, OnOk}
use Rattle.std.proofs.lemmas.List.{append-nil}
use Rattle.mf_edge.specs.Spill.{SpillState, TouchesOnly}
use Rattle.mf_rows.specs.Kinds.{node_kind, ref_kind, member_kind, feature_kind}
use Rattle.mf_rows.specs.declared.kinds.NodeRow.{NodeRow}
use Rattle.mf_rows.specs.declared.kinds.RefRow.{RefRow}
use Rattle.mf_rows.specs.declared.kinds.MemberRow.{MemberRow}
use Rattle.mf_rows.specs.declared.kinds.FeatureRow.{FeatureRow}
use Rattle.spill_parts.specs.Parts.{Part, IsHeld, HasJust, piece_of}
use Rattle.osm_model.specs.Entities.{Node, Way, Relation}
use Rattle.mf_rows.specs.Units.{Unit16}
use Rattle.spill_parts.specs.Handed.{SixParts, feature_row_of, node_row_of, ref_rows, member_rows}
use Rattle.mf_ingest.specs.declared.front.Described.{Described}
use Rattle.mf_ingest.specs.FrontRows.{front_rows}
use Rattle.mf_ingest.specs.EntityRows.{whole_rows, node_parts, way_parts, relation_parts}
use Rattle.mf_ingest.specs.Gathered.{Gathered, gathered_pieces, gathered_rows, rows_behind, HaveSpace, KeepsStore}
use Rattle.spill_parts.proofs.JustParts.{just-still}

-- ---- the parts that are there

module _ (g : Gathered) {s t : SpillState} (just : HasJust (gathered_pieces g) s) where
  pub places-put : (p : Part NodeRow) → p.part ≡ g.places.part → TouchesOnly g.places.part s t → IsHeld node_kind p t
      → HasJust (gathered_pieces (record g { places = p })) t
  places-put p same only held = just-still _ (piece_of node_kind g.places) (piece_of node_kind p) same only held [] just

  pub refs-put : (p : Part RefRow) → p.part ≡ g.refs.part → TouchesOnly g.refs.part s t → IsHeld ref_kind p t
      → HasJust (gathered_pieces (record g { refs = p })) t
  refs-put p same only held = just-still _ (piece_of ref_kind g.refs) (piece_of ref_kind p) same only held
      (piece_of node_kind g.places ∷ []) just

  pub members-put : (p : Part MemberRow) → p.part ≡ g.members.part → TouchesOnly g.members.part s t
      → IsHeld member_kind p t → HasJust (gathered_pieces (record g { members = p })) t
  members-put p same only held = just-still _ (piece_of member_kind g.members) (piece_of member_kind p) same only held
      (piece_of node_kind g.places ∷ piece_of ref_kind g.refs ∷ []) just

  pub node_units-put : (p : Part FeatureRow) → p.part ≡ g.node_units.part → TouchesOnly g.node_units.part s t
      → IsHeld feature_kind p t → HasJust (gathered_pieces (record g { node_units = p })) t
  node_units-put p same only held = just-still _ (piece_of feature_kind g.node_units) (piece_of feature_kind p) same only
      held (piece_of node_kind g.places ∷ piece_of ref_kind g.refs ∷ piece_of member_kind g.members ∷ []) just

  pub way_units-put : (p : Part FeatureRow) → p.part ≡ g.way_units.part → TouchesOnly g.way_units.part s t
      → IsHeld feature_kind p t → HasJust (gathered_pieces (record g { way_units = p })) t
  way_units-put p same only held = just-still _ (piece_of feature_kind g.way_units) (piece_of feature_kind p) same only
      held (piece_of node_kind g.places ∷ piece_of ref_kind g.refs ∷ piece_of member_kind g.members
      ∷ piece_of feature_kind g.node_units ∷ []) just

  pub relation_units-put : (p : Part FeatureRow) → p.part ≡ g.relation_units.part
      → TouchesOnly g.relation_units.part s t → IsHeld feature_kind p t
      → HasJust (gathered_pieces (record g { relation_units = p })) t
  relation_units-put p same only held = just-still _ (piece_of feature_kind g.relation_units) (piece_of feature_kind p)
      same only held (piece_of node_kind g.places ∷ piece_of ref_kind g.refs ∷ piece_of member_kind g.members
      ∷ piece_of feature_kind g.node_units ∷ piece_of feature_kind g.way_units ∷ []) just

-- ---- their rows

pub as-before : {K : Type 0} (rows : List K) → rows ≡ rows ++ []
as-before rows = sym (append-nil rows)

module _ (old new : Gathered) (more : SixParts) where
  pub all-behind : new.places.rows ≡ old.places.rows ++ more.places → new.refs.rows ≡ old.refs.rows ++ more.refs
      → new.members.rows ≡ old.members.rows ++ more.members
      → new.node_units.rows ≡ old.node_units.rows ++ more.node_units
      → new.way_units.rows ≡ old.way_units.rows ++ more.way_units
      → new.relation_units.rows ≡ old.relation_units.rows ++ more.relation_units
      → gathered_rows new ≡ rows_behind (gathered_rows old) more
  all-behind places refs members nodes ways relations = rw (places, refs, members, nodes, ways, relations) refl

module _ (old : Gathered) (o : Option Described) (d : Described) (is : o ≡ Some d) where
  pub node-behind : (n : Node) (p : Part NodeRow) (u : Part FeatureRow)
      → p.rows ≡ old.places.rows ++ node_row_of n ∷ [] → u.rows ≡ old.node_units.rows ++ whole_rows n d
      → gathered_rows (record old { places = p; node_units = u }) ≡ rows_behind (gathered_rows old) (node_parts n o)
  node-behind n p u places units =
      let new : Gathered = record old { places = p; node_units = u } in
      subst (λ x. gathered_rows new ≡ rows_behind (gathered_rows old) (node_parts n x)) (sym is)
      (all-behind old new (node_parts n (Some d)) places (as-before old.refs.rows) (as-before old.members.rows) units
      (as-before old.way_units.rows) (as-before old.relation_units.rows))

  pub way-behind : (w : Way) (p : Part RefRow) (u : Part FeatureRow) → p.rows ≡ old.refs.rows ++ ref_rows w
      → u.rows ≡ old.way_units.rows ++ front_rows d
      → gathered_rows (record old { refs = p; way_units = u }) ≡ rows_behind (gathered_rows old) (way_parts w o)
  way-behind w p u refs units =
      let new : Gathered = record old { refs = p; way_units = u } in
      subst (λ x. gathered_rows new ≡ rows_behind (gathered_rows old) (way_parts w x)) (sym is)
      (all-behind old new (way_parts w (Some d)) (as-before old.places.rows) refs (as-before old.members.rows)
      (as-before old.node_units.rows) units (as-before old.relation_units.rows))

  pub relation-behind : (r : Relation) (p : Part MemberRow) (u : Part FeatureRow)
      → p.rows ≡ old.members.rows ++ member_rows r → u.rows ≡ old.relation_units.rows ++ front_rows d
      → gathered_rows (record old { members = p; relation_units = u })
      ≡ rows_behind (gathered_rows old) (relation_parts r o)
  relation-behind r p u members units =
      let new : Gathered = record old { members = p; relation_units = u } in
      subst (λ x. gathered_rows new ≡ rows_behind (gathered_rows old) (relation_parts r x)) (sym is)
      (all-behind old new (relation_parts r (Some d)) (as-before old.places.rows) (as-before old.refs.rows) members
      (as-before old.node_units.rows) (as-before old.way_units.rows) units)

-- the units of a node: its point is put behind head and texts
pub whole-behind : (front before rows now left : List FeatureRow) (kind id last count : ℕ) (unit point : Unit16)
    (row : FeatureRow) → rows ≡ before ++ left → left ≡ front → row ≡ feature_row_of kind id (last, unit)
    → last ≡ count → unit ≡ point → now ≡ rows ++ row ∷ []
    → now ≡ before ++ (front ++ feature_row_of kind id (count, point) ∷ [])
whole-behind front before rows now left kind id last count unit point row put is row_is place spelled later =
    let row_told : row ≡ feature_row_of kind id (count, point) =
    row_is ∙ ap (λ k. feature_row_of kind id (k, unit)) place ∙ ap (λ u. feature_row_of kind id (count, u)) spelled in
    later ∙ ap (λ rs. rs ++ row ∷ []) (put ∙ ap (λ rs. before ++ rs) is) ∙ append_assoc before front (row ∷ [])
    ∙ ap (λ r. before ++ (front ++ r ∷ [])) row_told

-- ---- what holds where a call was answered Ok

pub on-ok : {T E P Q : Type 0} (r : Result T E) → (P → Q) → OnOk r P → OnOk r Q
on-ok (Ok t) gives p = gives p
on-ok (Err e) gives p = p

-- ---- the store

module _ {more : ℕ} {g : Gathered} where
  pub keeps-none : (s : SpillState) → KeepsStore more g s s
  keeps-none s = record {
    same = record { name = refl; started = refl; tells = refl };
    count = refl;
    counts = omega arith;
    within = λ space. refl;
  }

  pub keeps-one : {s t : SpillState} {part : ℕ} → TouchesOnly part s t → s.faults ≤ t.faults
      → (HaveSpace more g → t.is_overrun ≡ s.is_overrun) → KeepsStore more g s t
  keeps-one only counts within = record { same = only.same; count = only.count; counts = counts; within = within }

  pub keeps-more : {s t u : SpillState} {part : ℕ} → KeepsStore more g s t → TouchesOnly part t u → t.faults ≤ u.faults
      → (HaveSpace more g → u.is_overrun ≡ t.is_overrun) → KeepsStore more g s u
  keeps-more {s} {t} {u} kept only counts within =
      let first : s.faults ≤ t.faults = kept.counts in
      record {
        same = record {
          name = only.same.name ∙ kept.same.name;
          started = only.same.started ∙ kept.same.started;
          tells = only.same.tells ∙ kept.same.tells;
        };
        count = only.count ∙ kept.count;
        counts = omega arith;
        within = λ space. within space ∙ kept.within space;
      }
