-- The texts of a record are texts of its head.
use Rattle.std.proofs.Common.{◌≡◌, ◌⊎◌, inl, inr, ℕ, ◌+◌, ◌*◌, ◌≤◌, true, false, List, [], ◌∷◌, ◌++◌, length, take}
use Rattle.std.proofs.Common.{drop, Some, refl, sym, ap, ◌∙◌, arith, subst}
use Rattle.std.specs.Prelude.{nat_eq, if◌then◌else◌}
use Rattle.std.proofs.lemmas.Bool.{cases_Bool, eqb-true}
use Rattle.std.proofs.lemmas.List.{length-take, length-drop}
use Rattle.mf_base.specs.Texts.{Text}
use Rattle.mf_base.specs.declared.kept.Kept.{Kept as KeptRead}
use Rattle.mf_rows.specs.Units.{Unit16}
use Rattle.mf_rows.specs.Heads.{HeadTold}
use Rattle.mf_rows.specs.Records.{Record, same_slot, texts_told}
use Rattle.mf_rows.specs.RecordUnits.{AreWide, text_size, lengths_of, kept_size, tag_sizes, slot_sizes, sizes_total}
use Rattle.mf_rows.specs.RecordUnits.{spans_from, are_sizes, bytes_in, is_drawn, record_in, redrawn}
use Rattle.mf_rows.specs.FirstUnits.{IsHead, front_units}
use Rattle.mf_rows.specs.Whole.{sizes_of, with_text, AreTexts}
use Rattle.mf_rows.specs.declared.head.TextSlot.{TextSlot}
use Rattle.mf_rows.specs.declared.head.TextSlot.TheVariants.{Name, House, Reference, Tag}
use Rattle.mf_rows.specs.declared.head_units.TextLengths.{TextLengths}
use Rattle.mf_rows.proofs.Redrawn.{IsSpelled, spelled, count_of, fits, sizes-hold}
use Rattle.mf_rows.proofs.ToldLaws.{wide-drop, wide-bytes, enough}
use Rattle.mf_rows.proofs.ReadAgain.{front-again}

-- texts that spans name have the lengths of the spans
sizes-told : (block : List ℕ) (at : ℕ) (sizes : List (TextSlot × ℕ)) → at + sizes_total sizes ≤ length block
    → sizes_of (texts_told block (spans_from at sizes)) ≡ with_text sizes
sizes-told block at [] within = refl
sizes-told block at (s ∷ sizes) within =
    by_size within (cases_Bool (nat_eq s.1 0)) (sizes-told block at sizes (omega (arith, within)))
    (sizes-told block (at + s.1) sizes (omega (arith, within)))
  where
    by_size : at + (s.1 + sizes_total sizes) ≤ length block → (nat_eq s.1 0 ≡ true) ⊎ (nat_eq s.1 0 ≡ false)
        → sizes_of (texts_told block (spans_from at sizes)) ≡ with_text sizes
        → sizes_of (texts_told block (spans_from (at + s.1) sizes)) ≡ with_text sizes
        → sizes_of (texts_told block (spans_from at (s ∷ sizes))) ≡ with_text (s ∷ sizes)
    by_size all (inl e) same more = rw e same
    by_size all (inr e) same more =
        let long : length (take s.1 (drop at block)) ≡ s.1 =
        omega (arith, all, length-take s.1 (drop at block), length-drop at block) in
        rw e (ap (λ n. (s.0, n) ∷ sizes_of (texts_told block (spans_from (at + s.1) sizes))) long
        ∙ ap (λ more. s ∷ more) more)

-- the length in a slot
size_in : List (TextSlot × ℕ) → TextSlot → ℕ
size_in [] slot = 0
size_in (s ∷ sizes) slot = if same_slot s.0 slot then s.1 else size_in sizes slot

text-size : (texts : List (TextSlot × Text)) (slot : TextSlot) → text_size texts slot ≡ size_in (sizes_of texts) slot
unfolding size_in
text-size [] slot = refl
text-size (t ∷ texts) slot = by_slot (cases_Bool (same_slot t.0 slot)) (text-size texts slot)
  where
    by_slot : (same_slot t.0 slot ≡ true) ⊎ (same_slot t.0 slot ≡ false)
        → text_size texts slot ≡ size_in (sizes_of texts) slot
        → text_size (t ∷ texts) slot ≡ size_in (sizes_of (t ∷ texts)) slot
    by_slot (inl e) more = rw e refl
    by_slot (inr e) more = rw e more

passed : (s : TextSlot × ℕ) (sizes : List (TextSlot × ℕ)) (slot : TextSlot) → same_slot s.0 slot ≡ false
    → size_in (with_text (s ∷ sizes)) slot ≡ size_in (with_text sizes) slot
unfolding size_in
passed s sizes slot other = by_size (cases_Bool (nat_eq s.1 0))
  where
    by_size : (nat_eq s.1 0 ≡ true) ⊎ (nat_eq s.1 0 ≡ false)
        → size_in (with_text (s ∷ sizes)) slot ≡ size_in (with_text sizes) slot
    by_size (inl e) = rw e refl
    by_size (inr e) = rw (e, other) refl

found : (s : TextSlot × ℕ) (sizes : List (TextSlot × ℕ)) (slot : TextSlot) → same_slot s.0 slot ≡ true
    → size_in (with_text sizes) slot ≡ 0 → size_in (with_text (s ∷ sizes)) slot ≡ s.1
unfolding size_in
found s sizes slot same none = by_size (cases_Bool (nat_eq s.1 0))
  where
    by_size : (nat_eq s.1 0 ≡ true) ⊎ (nat_eq s.1 0 ≡ false) → size_in (with_text (s ∷ sizes)) slot ≡ s.1
    by_size (inl e) = rw e (none ∙ sym (eqb-true s.1 0 e))
    by_size (inr e) = rw (e, same) refl

no-tags : (i : ℕ) (tags : List KeptRead) (slot : TextSlot) → ((j : ℕ) → same_slot (Tag j) slot ≡ false)
    → size_in (with_text (tag_sizes i tags)) slot ≡ 0
unfolding size_in
no-tags i [] slot other = refl
no-tags i (k ∷ tags) slot other = passed (Tag i, kept_size k.value) (tag_sizes (i + 1) tags) slot (other i)
    ∙ no-tags (i + 1) tags slot other

-- the lengths that a head tells are those of its texts
module _ (t : HeadTold) (texts : List (TextSlot × Text)) (are : sizes_of texts ≡ with_text (slot_sizes t)) where
  abbrev tags : List (TextSlot × ℕ)
  tags = tag_sizes 0 t.head.tags.items

  abbrev last : List (TextSlot × ℕ)
  last = (Reference, t.texts.reference) ∷ tags

  abbrev more : List (TextSlot × ℕ)
  more = (House, t.texts.house) ∷ last

  size-of : (slot : TextSlot) → text_size texts slot ≡ size_in (with_text (slot_sizes t)) slot
  size-of slot = text-size texts slot ∙ ap (λ sizes. size_in sizes slot) are

  name-of : text_size texts Name ≡ t.texts.name
  name-of = size-of Name ∙ found (Name, t.texts.name) more Name refl (passed (House, t.texts.house) last Name refl
      ∙ passed (Reference, t.texts.reference) tags Name refl ∙ no-tags 0 t.head.tags.items Name (λ j. refl))

  house-of : text_size texts House ≡ t.texts.house
  house-of = size-of House ∙ passed (Name, t.texts.name) more House refl
      ∙ found (House, t.texts.house) last House refl (passed (Reference, t.texts.reference) tags House refl
      ∙ no-tags 0 t.head.tags.items House (λ j. refl))

  reference-of : text_size texts Reference ≡ t.texts.reference
  reference-of = size-of Reference ∙ passed (Name, t.texts.name) more Reference refl
      ∙ passed (House, t.texts.house) last Reference refl
      ∙ found (Reference, t.texts.reference) tags Reference refl (no-tags 0 t.head.tags.items Reference (λ j. refl))

  lengths-are : lengths_of texts ≡ t.texts
  lengths-are = ap (λ n. record {
    name = n;
    house = text_size texts House;
    reference = text_size texts Reference;
  }) name-of
      ∙ ap (λ n. record { name = t.texts.name; house = n; reference = text_size texts Reference }) house-of
      ∙ ap (λ n. record { name = t.texts.name; house = t.texts.house; reference = n }) reference-of

  pub are-texts : are_sizes t ≡ true → AreTexts t.head texts
  are-texts short = record {
    sizes = are ∙ ap (λ (l : TextLengths). with_text (slot_sizes (record { head = t.head; texts = l })))
        (sym lengths-are);
    short = ap (λ (l : TextLengths). are_sizes (record { head = t.head; texts = l })) lengths-are ∙ short;
  }

module _ (units : List Unit16) (r : Record) (wide : AreWide units) (is : record_in units ≡ Some r) where
  abbrev s : IsSpelled units r
  s = spelled units r is

  abbrev block : List ℕ
  block = bytes_in (take (count_of s.t) (drop 10 units))

  texts-within : 0 + sizes_total (slot_sizes s.t) ≤ length block
  texts-within =
      let bytes : length block ≡ 16 * count_of s.t =
      wide-bytes (count_of s.t) (drop 10 units) (wide-drop 10 units wide) (fits units s.t s.ten s.head s.holds) in
      rw bytes (enough (sizes_total (slot_sizes s.t)))

  pub record-texts : AreTexts r.head r.texts
  record-texts = subst (λ (q : Record). AreTexts q.head q.texts) s.same
      (are-texts s.t (texts_told block (spans_from 0 (slot_sizes s.t)))
      (sizes-told block 0 (slot_sizes s.t) texts-within) (sizes-hold units s.t s.ten s.head s.holds))

  pub record-again : (others : List Unit16) → IsHead r.head → is_drawn r.head.kind others ≡ true
      → record_in (front_units r ++ others) ≡ Some (redrawn r others)
  record-again others head drawn = front-again r.head r.texts others head record-texts drawn
