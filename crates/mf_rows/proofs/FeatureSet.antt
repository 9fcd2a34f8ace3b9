-- Number and weight that are set in the head of a record.
use Rattle.std.proofs.Common.{◌≡◌, ℕ, ◌+◌, ◌^◌, ◌≤◌, ◌<◌, List, [], ◌∷◌, length, take, drop, map}
use Rattle.std.proofs.Common.{Some, refl, sym, ap, ◌∙◌, arith, subst}
use Rattle.std.specs.Prelude.{unwrap_or, slice_set}
use Rattle.std.proofs.lemmas.List.{length-drop, length-take, length-set, take_all, drop-drop, drop-take, take-set-le}
use Rattle.std.proofs.lemmas.List.{drop-set, drop-set-add}
use Rattle.mf_rows.specs.Units.{Unit16}
use Rattle.mf_rows.specs.Heads.{HeadTold, head_unit, head_in}
use Rattle.mf_rows.specs.Records.{drawn_parts}
use Rattle.mf_rows.specs.RecordUnits.{AreWide, record_in, last_place}
use Rattle.mf_rows.specs.Told.{head_told, record_told, record_at, units_at, IsTold, IsKept, IsChanged}
use Rattle.mf_rows.specs.Changes.{with_feature}
use Rattle.mf_rows.specs.FirstUnits.{IsHead, AreLengths}
use Rattle.mf_rows.specs.declared.head.Head.{Head}
use Rattle.mf_rows.specs.declared.head_units.TextLengths.{TextLengths}
use Rattle.mf_rows.specs.declared.told.Told.{Told}
use Rattle.mf_rows.specs.declared.told.Kept.{Kept}
use Rattle.mf_rows.proofs.Changed.{own, own-head, own-told, own-long, record-is, behind-holds, texts-are}
use Rattle.mf_rows.proofs.HeadAgain.{head-again, head-only}
use Rattle.mf_rows.proofs.ToldLaws.{told-is, behind-head, wide-drop}

-- a head with other numbers has the same units behind the second
same-later : (h : Head) (t : TextLengths) (n w : ℕ)
    → map (head_unit h t) (2 ∷ 3 ∷ 4 ∷ 5 ∷ 6 ∷ 7 ∷ 8 ∷ 9 ∷ [])
    ≡ map (head_unit (record h { number = n; weight = w }) t) (2 ∷ 3 ∷ 4 ∷ 5 ∷ 6 ∷ 7 ∷ 8 ∷ 9 ∷ [])
unfolding head_unit
same-later h t n w = refl

module _ (units later : List Unit16) (k : Kept) (is : IsKept units k.first k) (end : k.first + k.count ≡ length units)
    (wide : AreWide later) (few : length units < 2 ^ 62) (n w : ℕ)
    (is_head : IsHead (record k.told.head { number = n; weight = w })) (lengths : AreLengths k.told.lengths)
    (a b : Unit16) (first-is : a ≡ head_unit (record k.told.head { number = n; weight = w }) k.told.lengths 0)
    (second-is : b ≡ head_unit (record k.told.head { number = n; weight = w }) k.told.lengths 1)
    (put : later ≡ slice_set (slice_set units k.first a) (k.first + 1) b) where
  abbrev h : Head
  h = record k.told.head { number = n; weight = w }

  abbrev t : HeadTold
  t = record { head = h; texts = k.told.lengths }

  abbrev told : Told
  told = record k.told { head = h }

  abbrev new : Kept
  new = record k { told = told }

  abbrev mine : List Unit16
  mine = own units k is end

  abbrev rest : List Unit16
  rest = drop 10 mine

  abbrev after : List Unit16
  after = a ∷ b ∷ drop 2 mine

  mine-long : 10 ≤ length mine
  mine-long = own-long units k is end

  long : k.first + 10 ≤ length units
  long = omega (arith, mine-long, length-drop k.first units)

  put-long : length later ≡ length units
  put-long = ap length put ∙ length-set (slice_set units k.first a) (k.first + 1) b ∙ length-set units k.first a

  now : drop k.first later ≡ after
  now =
      let one : drop k.first (slice_set units k.first a) ≡ a ∷ drop (k.first + 1) units =
      drop-set units k.first a (omega (arith, long)) in
      let two : slice_set (drop (k.first + 1) units) 0 b ≡ b ∷ drop 1 (drop (k.first + 1) units) =
      drop-set (drop (k.first + 1) units) 0 b (omega (arith, long, length-drop (k.first + 1) units)) in
      let place : k.first + 1 + 1 ≡ k.first + 2 = omega arith in
      ap (drop k.first) put ∙ drop-set-add k.first (slice_set units k.first a) 1 b ∙ ap (λ us. slice_set us 1 b) one
      ∙ ap (λ us. a ∷ us) two ∙ ap (λ us. a ∷ b ∷ us) (drop-drop 1 (k.first + 1) units
      ∙ ap (λ m. drop m units) place ∙ sym (drop-drop 2 k.first units))

  before : take k.first later ≡ take k.first units
  before = ap (take k.first) put ∙ take-set-le k.first (slice_set units k.first a) (k.first + 1) b (omega arith)
      ∙ take-set-le k.first units k.first a (omega arith)

  tail : take 8 (drop 2 mine) ≡ map (head_unit h k.told.lengths) (2 ∷ 3 ∷ 4 ∷ 5 ∷ 6 ∷ 7 ∷ 8 ∷ 9 ∷ [])
  tail = sym (drop-take 2 8 mine)
      ∙ ap (drop 2) (head-only (take 10 mine) (head_told k.told) (omega (arith, mine-long, length-take 10 mine))
      (own-head units k is end))
      ∙ same-later k.told.head k.told.lengths n w

  ten : take 10 after ≡ map (head_unit h k.told.lengths) (0 ∷ 1 ∷ 2 ∷ 3 ∷ 4 ∷ 5 ∷ 6 ∷ 7 ∷ 8 ∷ 9 ∷ [])
  ten = ap (λ u. u ∷ b ∷ take 8 (drop 2 mine)) first-is
      ∙ ap (λ u. head_unit h k.told.lengths 0 ∷ u ∷ take 8 (drop 2 mine)) second-is
      ∙ ap (λ us. head_unit h k.told.lengths 0 ∷ head_unit h k.told.lengths 1 ∷ us) tail

  after-head : head_in (take 10 after) ≡ Some t
  after-head = ap head_in ten ∙ head-again h k.told.lengths is_head lengths

  after-rest : drop 10 after ≡ rest
  after-rest = drop-drop 8 2 mine

  after-long : 10 ≤ length after
  after-long = omega (arith, mine-long, length-drop 2 mine)

  rest-wide : AreWide rest
  rest-wide = subst AreWide (ap (drop 10) now ∙ after-rest)
      (wide-drop 10 (drop k.first later) (wide-drop k.first later wide))

  new-told : IsTold told rest (record_in after)
  new-told =
      let old : IsTold k.told rest (record_in mine) = own-told units k is end in
      subst (IsTold told rest) (behind-head after after-long (take 10 after) rest refl (sym after-rest) t after-head)
      (told-is t rest told rest-wide (omega (arith, few, length-drop 10 mine, length-drop k.first units)) refl refl
      (texts-are units k is end)
      (old.last ∙ ap (λ m. last_place (unwrap_or (drawn_parts k.told.head.kind (drop m rest)) []))
      (texts-are units k is end))
      (behind-holds units k is end))

  after-is : units_at later new ≡ after
  after-is = take_all k.count (drop k.first later) (omega (arith, end, put-long, length-drop k.first later)) ∙ now

  pub feature-changed : IsChanged units k (with_feature n w (record_at units k)) later new
  feature-changed = record {
    first = refl;
    kept = record {
      first = refl;
      head = is.head;
      read = subst (λ us. head_in (take 10 us) ≡ Some t) (sym after-is) after-head;
      within = omega (arith, end, put-long);
      told = subst (λ us. IsTold told (drop 10 us) (record_in us)) (sym after-is)
          (subst (λ us. IsTold told us (record_in after)) (sym after-rest) new-told);
    };
    same = ap (λ us. record_told told (drop 10 us)) after-is ∙ ap (record_told told) after-rest
        ∙ ap (with_feature n w) (sym (record-is units k is end));
    before = before;
    end = omega (arith, end, put-long);
  }
