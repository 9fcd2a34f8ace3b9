-- Ordered rows climb by the number with which their keys begin.
use Rattle.std.proofs.Common.{◌≡◌, ℕ, suc, ◌<◌, ◌≤◌, List, [], ◌∷◌, map, Bool, true, false, if◌then◌else◌, sym, subst}
use Rattle.std.proofs.Common.{inl, inr, arith, true≢false, IsTrue, not}
use Rattle.std.specs.List.{AllByRecursion}
use Rattle.std.proofs.lemmas.Bool.Decides.{leb_tells}
use Rattle.mf_base.specs.Ascending.{is_below, Ascends}
use Rattle.mf_base.proofs.Ordered.{ascending-is}
use Rattle.feature_model.proofs.Rising.{all-imp}
use Rattle.mf_rows.specs.RowKinds.{Kind, HasLaws, IsOf, bytes_of}
use Rattle.mf_rows.specs.Kinds.{member_kind}
use Rattle.mf_rows.specs.Laws.{member-laws}
use Rattle.mf_rows.specs.declared.kinds.MemberRow.{MemberRow}
use Rattle.spill_parts.specs.Parts.{ordered_rows}
use Rattle.spill_parts.specs.Join.{Climbs}
use Rattle.spill_parts.proofs.Ordered.{bytes_ordered, all-ordered}
use Rattle.tile_rows.proofs.ByKeys.{below-less, RowBefore, ordered-by_keys}
use Rattle.member_points.specs.RelRows.{member_way}

module _ {K : Type 0} (kind : Kind K) (laws : HasLaws kind) (key : K → ℕ)
    (decides : (a b : K) → key a < key b → RowBefore kind a b) where
  swapped : (a b : K) → IsOf kind a → IsOf kind b → key b < key a → ordered_rows kind (a ∷ b ∷ []) ≡ b ∷ a ∷ []
  swapped a b is_a is_b less =
      ordered-by_keys kind laws (a ∷ b ∷ []) (b ∷ a ∷ []) (is_a, (is_b, tt)) (is_b, (is_a, tt))
      ((decides b a less, tt), (tt, tt)) (λ f. omega arith)

  -- of two rows that do not stand the wrong way round the first has no greater number
  key-up : (a b : K) → IsOf kind a → IsOf kind b → IsTrue (not (is_below (bytes_of kind b) (bytes_of kind a)))
      → key a ≤ key b
  unfolding ordered_rows
  key-up a b is_a is_b up = elim (leb_tells (suc (key b)) (key a)) [
    | inl less ↦ by_order (is_below (bytes_of kind b) (bytes_of kind a)) up (swapped a b is_a is_b less.1)
    | inr more ↦ omega (arith, more.1)
  ]
    where
      by_order : (below : Bool) → IsTrue (not below) → (if below then b ∷ a ∷ [] else a ∷ b ∷ []) ≡ b ∷ a ∷ []
          → key a ≤ key b
      by_order true up is = absurd (true≢false (sym up))
      by_order false up is = let same : a ≡ b = cc is in rw same (omega arith)

  climbs-ascending : (rows : List K) → AllByRecursion (IsOf kind) rows → Ascends (map (bytes_of kind) rows)
      → Climbs key rows
  climbs-ascending [] all up = tt
  climbs-ascending (a ∷ []) all up = (tt, tt)
  climbs-ascending (a ∷ b ∷ rows) all up =
      let more = climbs-ascending (b ∷ rows) all.1 up.1 in
      let first : key a ≤ key b = key-up a b all.0 all.1.0 up.0 in (
        (
          first,
          all-imp (λ (r : K). key b ≤ key r) (λ (r : K). key a ≤ key r) (λ r above. omega (arith, first, above)) rows more.0,
        ),
        more,
      )

  pub ordered-climb : (rows : List K) → AllByRecursion (IsOf kind) rows → Climbs key (ordered_rows kind rows)
  ordered-climb rows known =
      climbs-ascending (ordered_rows kind rows) (all-ordered kind (IsOf kind) rows known)
      (subst Ascends (sym (bytes_ordered kind rows)) (ascending-is (map (bytes_of kind) rows)).ascends)

-- Ordered members climb by their ways.
pub members-climb : (members : List MemberRow) → AllByRecursion (IsOf member_kind) members
    → Climbs member_way (ordered_rows member_kind members)
members-climb members known =
    ordered-climb member_kind member-laws member_way
    (λ a b less. below-less (a.way ∷ a.relation ∷ a.member ∷ []) (b.way ∷ b.relation ∷ b.member ∷ []) (inl less))
    members known
