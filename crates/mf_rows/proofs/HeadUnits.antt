-- The units of a head by their places.
use Rattle.std.proofs.Common.{◌≡◌, ℕ, suc, ◌+◌, ◌-◌, ◌*◌, ◌≤◌, List, refl, ap, sym, ◌∙◌, arith}
use Rattle.std.proofs.Common.{Bool, true, false, [], ◌∷◌, ◌++◌, length, drop, Some, None}
use Rattle.std.proofs.lemmas.List.{drop_all, append-nil}
use Rattle.mf_rows.specs.Units.{Unit16}
use Rattle.mf_rows.specs.Heads.{id_unit, marks_unit, lengths_unit, kept_unit, head_unit, HeadTold, told_by}
use Rattle.mf_rows.specs.Heads.{are_units, head_in}
use Rattle.mf_rows.specs.declared.head.Head.{Head}
use Rattle.mf_rows.specs.declared.head_units.TextLengths.{TextLengths}

module _ (h : Head) (texts : TextLengths) (i : ℕ) (u : Unit16) where
  pub first-unit : i ≡ 0 → u ≡ id_unit h → u ≡ head_unit h texts i
  unfolding head_unit
  first-unit at is = is ∙ ap (head_unit h texts) (sym at)

  pub second-unit : i ≡ 1 → u ≡ marks_unit h → u ≡ head_unit h texts i
  unfolding head_unit
  second-unit at is = is ∙ ap (head_unit h texts) (sym at)

  pub third-unit : i ≡ 2 → u ≡ lengths_unit h texts → u ≡ head_unit h texts i
  unfolding head_unit
  third-unit at is = is ∙ ap (head_unit h texts) (sym at)

  pub later-unit : 3 ≤ i → u ≡ kept_unit h.tags.items (2 * (i - 3) + 1) → u ≡ head_unit h texts i
  unfolding head_unit
  later-unit past is =
      let at : i ≡ suc (suc (suc (i - 3))) = omega (arith, past) in
      is ∙ ap (head_unit h texts) (sym at)

-- two kept tags were put, the second first
pub two-kept : (a b zeros mid new : List ℕ) → length zeros ≡ 16 → drop 8 mid ≡ b ++ drop 16 zeros
    → drop 0 new ≡ a ++ drop 8 mid → new ≡ a ++ b
two-kept a b zeros mid new long first last =
    let none : drop 16 zeros ≡ [] = drop_all 16 zeros (omega (arith, long)) in
    last ∙ ap (λ more. a ++ more) (first ∙ ap (λ more. b ++ more) none ∙ append-nil b)

-- what units tell where they are those of a head, and where they are not
module _ (units : List Unit16) (f s t : Unit16) (m : List Unit16) (h : Head) (texts : TextLengths)
    (is : units ≡ f ∷ s ∷ t ∷ m) (head-is : h ≡ (told_by f s t m).head)
    (texts-are : texts ≡ (told_by f s t m).texts) where
  same-told : ◌≡◌ {A = HeadTold} (record { head = h; texts = texts }) (told_by f s t m)
  same-told = rw (head-is, texts-are) refl

  module _ (b : Bool) (b-is : b ≡ are_units (head_unit h texts) 0 units) where
    test : b ≡ are_units (head_unit (told_by f s t m).head (told_by f s t m).texts) 0 (f ∷ s ∷ t ∷ m)
    test = b-is ∙ ap (are_units (head_unit h texts) 0) is
        ∙ ap (λ (told : HeadTold). are_units (head_unit told.head told.texts) 0 (f ∷ s ∷ t ∷ m)) same-told

    pub head-found : b ≡ true → Some (record { head = h; texts = texts }) ≡ head_in units
    unfolding head_in
    head-found holds = ap Some same-told ∙ sym (ap head_in is ∙ rw (sym test ∙ holds) refl)

    pub head-lost : b ≡ false → None ≡ head_in units
    unfolding head_in
    head-lost fails = sym (ap head_in is ∙ rw (sym test ∙ fails) refl)
