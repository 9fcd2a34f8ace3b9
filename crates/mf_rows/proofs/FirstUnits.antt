-- The units of a head and its texts, one by one.
use Rattle.std.proofs.Common.{◌≡◌, ◌⊎◌, inl, inr, ℕ, zero, suc, ◌+◌, ◌-◌, ◌*◌, ◌≤◌, ◌<◌, Bool, true, false, List, []}
use Rattle.std.proofs.Common.{◌∷◌, ◌++◌, length, take, drop, set, replicate, Some, None, refl, sym, ap, ◌∙◌}
use Rattle.std.proofs.Common.{arith, subst}
use Rattle.std.specs.Prelude.{find, unwrap_or, slice_get, nat_lt}
use Rattle.std.specs.List.{AllByRecursion}
use Rattle.std.proofs.lemmas.Bool.{cases_Bool, ltb-true, ltb-false}
use Rattle.std.proofs.lemmas.List.{length-take, length-drop, length-append, length-replicate, drop-drop, ext_get_or}
use Rattle.std.proofs.lemmas.List.{get_or-take, get_or-drop, get_or-replicate, get_or-append_right, get_or-set_other}
use Rattle.std.proofs.lemmas.Grind.{get_or-set_at}
use Rattle.std.proofs.Math.ListN.{get_or, get_or-append, get_or-eq_default}
use Rattle.mf_base.specs.Ascending.{cut_rows}
use Rattle.mf_rows.specs.Units.{Unit16}
use Rattle.mf_rows.specs.Heads.{head_unit}
use Rattle.mf_rows.specs.Records.{Record, same_slot, texts_told, LiesIn}
use Rattle.mf_rows.specs.RecordUnits.{text_size, text_bytes, lengths_of, text_units, units_for, front_count}
use Rattle.mf_rows.specs.FirstUnits.{front_units}
use Rattle.mf_rows.specs.declared.head.TextSlot.{TextSlot}
use Rattle.mf_rows.specs.declared.head.TextSpan.{TextSpan}
use Rattle.mf_rows.proofs.TextsTold.{told, text_found, found_lies}

-- ---- the length of a text

-- what holds of all spans holds of one that is found
pub found-all : (P : TextSpan → Type 0) (p : TextSpan → Bool) (spans : List TextSpan) (s : TextSpan)
    → AllByRecursion P spans → find p spans ≡ Some s → P s
found-all P p [] s all found = cc
found-all P p (first ∷ spans) s all found = by_test (cases_Bool (p first)) (found-all P p spans s all.1)
  where
    by_test : (p first ≡ true) ⊎ (p first ≡ false) → (find p spans ≡ Some s → P s) → P s
    by_test (inl e) more =
        let here : Some first ≡ Some s = sym (rw e refl) ∙ found in
        subst P (ap (λ o. unwrap_or o first) here) all.0
    by_test (inr e) more = let there : find p spans ≡ find p (first ∷ spans) = rw e refl in more (there ∙ found)

module _ (block : List ℕ) (spans : List TextSpan) (slot : TextSlot) where
  abbrev is_it : TextSpan → Bool
  is_it s = same_slot s.slot slot

  pub size-found : (s : TextSpan) → AllByRecursion (LiesIn (length block)) spans → find is_it spans ≡ Some s
      → s.len ≡ text_size (texts_told block spans) slot
  size-found s lies found =
      let within : s.start + s.len ≤ length block = found_lies block slot spans s lies found in
      let long : length (take s.len (drop s.start block)) ≡ s.len =
      omega (arith, within, length-take s.len (drop s.start block), length-drop s.start block) in
      sym (ap (λ o. length (unwrap_or o [])) (text_found block slot spans ∙ ap (told block slot) found) ∙ long)

  pub none-found : find is_it spans ≡ None → 0 ≡ text_size (texts_told block spans) slot
  none-found found =
      sym (ap (λ o. length (unwrap_or o [])) (text_found block slot spans ∙ ap (told block slot) found))

-- ---- the bytes of texts

module _ (block more : List ℕ) (start len at : ℕ) (lies : start + len ≤ length block) where
  abbrev text : List ℕ
  text = take len (drop start block)

  long : length text ≡ len
  long = omega (arith, lies, length-take len (drop start block), length-drop start block)

  pub byte-here : at < len → get_or block (start + at) 0 ≡ get_or (text ++ more) at 0
  byte-here below = sym (get_or-append text more 0 at (omega (arith, long, below))
      ∙ get_or-take len (drop start block) at 0 below ∙ get_or-drop start block at 0)

  pub byte-later : len ≤ at → get_or more (at - len) 0 ≡ get_or (text ++ more) at 0
  byte-later past = sym (get_or-append_right text more len at 0 long past)

-- one byte more is as it should be
pub byte-put : (unit : List ℕ) (f : ℕ → ℕ) (i x : ℕ) → length unit ≡ 16 → i < 16
    → ((k : ℕ) → k < i → get_or unit k 0 ≡ f k) → x ≡ f i
    → (k : ℕ) → k < i + 1 → get_or (set unit i x) k 0 ≡ f k
byte-put unit f i x long below same put k few = by_place (cases_Bool (nat_lt k i))
  where
    by_place : (nat_lt k i ≡ true) ⊎ (nat_lt k i ≡ false) → get_or (set unit i x) k 0 ≡ f k
    by_place (inl e) =
        let less : k < i = ltb-true k i e in
        get_or-set_other unit i k x 0 (λ at. omega (arith, less, at)) ∙ same k less
    by_place (inr e) =
        let past : i ≤ k = ltb-false k i e in
        let at : k ≡ i = omega (arith, past, few) in
        get_or-set_at unit i k x 0 at (omega (arith, below, long)) ∙ put ∙ ap f (sym at)

-- zeros are as nothing
zeros-read : (n i : ℕ) → ◌≡◌ {A = ℕ} (get_or (replicate n 0) i 0) 0
zeros-read n i = by_place (cases_Bool (nat_lt i n))
  where
    by_place : (nat_lt i n ≡ true) ⊎ (nat_lt i n ≡ false)
        → ◌≡◌ {A = ℕ} (get_or (replicate n 0) i 0) 0
    by_place (inl e) = get_or-replicate n i 0 0 (ltb-true i n e)
    by_place (inr e) =
        let past : n ≤ i = ltb-false i n e in
        get_or-eq_default (replicate n 0) 0 (omega (arith, past, length-replicate {A = ℕ} n 0))

module _ (bytes : List ℕ) (at : ℕ) where
  abbrev pub target : List ℕ
  target = take 16 (drop at (bytes ++ replicate 16 0))

  pub target-long : at < length bytes → length target ≡ 16
  target-long within = omega (
    arith,
    within,
    length-take 16 (drop at (bytes ++ replicate 16 0)),
    length-drop at (bytes ++ replicate 16 0),
    length-append bytes (replicate 16 0),
    length-replicate {A = ℕ} 16 0,
  )

  padded : (i : ℕ) → get_or (bytes ++ replicate 16 0) i 0 ≡ get_or bytes i 0
  padded i = by_place (cases_Bool (nat_lt i (length bytes)))
    where
      by_place : (nat_lt i (length bytes) ≡ true) ⊎ (nat_lt i (length bytes) ≡ false)
          → get_or (bytes ++ replicate 16 0) i 0 ≡ get_or bytes i 0
      by_place (inl e) = get_or-append bytes (replicate 16 0) 0 i (ltb-true i (length bytes) e)
      by_place (inr e) =
          let past : length bytes ≤ i = ltb-false i (length bytes) e in
          get_or-append_right bytes (replicate 16 0) (length bytes) i 0 refl past ∙ zeros-read 16 (i - length bytes)
          ∙ sym (get_or-eq_default bytes 0 past)

  pub target-at : (i : ℕ) → i < 16 → get_or target i 0 ≡ get_or bytes (at + i) 0
  target-at i below = get_or-take 16 (drop at (bytes ++ replicate 16 0)) i 0 below
      ∙ get_or-drop at (bytes ++ replicate 16 0) i 0 ∙ padded (at + i)

  -- sixteen bytes that are these
  pub target-is : (unit : List ℕ) → at < length bytes → length unit ≡ 16
      → ((i : ℕ) → i < 16 → get_or unit i 0 ≡ get_or bytes (at + i) 0) → unit ≡ target
  target-is unit within wide same = ext_get_or 0 unit target (wide ∙ sym (target-long within))
      (λ i below. let few : i < 16 = omega (arith, below, wide) in same i few ∙ sym (target-at i few))

-- ---- units by their places

front-of : (c f n : ℕ) (xs : List ℕ) → f + c ≤ n → take c (drop f (take n xs)) ≡ take c (drop f xs)
front-of zero f n xs within = refl
front-of (suc c) zero zero xs within = absurd (omega (arith, within))
front-of (suc c) zero (suc n) [] within = refl
front-of (suc c) zero (suc n) (x ∷ xs) within = ap (λ more. x ∷ more) (front-of c zero n xs (omega (arith, within)))
front-of (suc c) (suc f) zero xs within = absurd (omega (arith, within))
front-of (suc c) (suc f) (suc n) [] within = refl
front-of (suc c) (suc f) (suc n) (x ∷ xs) within = front-of (suc c) f n xs (omega (arith, within))

row-at : (n k : ℕ) (bytes : List ℕ) → k < n → slice_get (cut_rows 16 n bytes) k ≡ Some (take 16 (drop (16 * k) bytes))
row-at zero k bytes below = absurd (omega (arith, below))
row-at (suc n) zero bytes below = refl
row-at (suc n) (suc k) bytes below =
    let place : 16 * k + 16 ≡ 16 * suc k = omega arith in
    row-at n k (drop 16 bytes) (omega (arith, below))
    ∙ ap (λ xs. Some (take 16 xs)) (drop-drop (16 * k) 16 bytes ∙ ap (λ m. drop m bytes) (omega arith))

text-unit-at : (bytes : List ℕ) (k : ℕ) → k < units_for (length bytes)
    → slice_get (text_units bytes) k ≡ Some (take 16 (drop (16 * k) (bytes ++ replicate 16 0)))
text-unit-at bytes k below =
    let n : ℕ = units_for (length bytes) in
    row-at n k (take (16 * n) (bytes ++ replicate 16 0)) below
    ∙ ap Some (front-of 16 (16 * k) (16 * n) (bytes ++ replicate 16 0) (omega (arith, below)))

behind-ten : (units : List Unit16) (a b c d e f g h i j : Unit16) (k : ℕ) → 10 ≤ k
    → slice_get ((a ∷ b ∷ c ∷ d ∷ e ∷ f ∷ g ∷ h ∷ i ∷ j ∷ []) ++ units) k ≡ slice_get units (k - 10)
behind-ten units a b c d e f g h i j k past =
    let at : k ≡ suc (suc (suc (suc (suc (suc (suc (suc (suc (suc (k - 10)))))))))) = omega (arith, past) in
    ap (slice_get ((a ∷ b ∷ c ∷ d ∷ e ∷ f ∷ g ∷ h ∷ i ∷ j ∷ []) ++ units)) at

module _ (r : Record) (i : ℕ) (u : Unit16) where
  pub text-unit : 10 ≤ i → i < front_count r
      → u ≡ take 16 (drop (16 * (i - 10)) (text_bytes r.texts ++ replicate 16 0)) → Some u ≡ slice_get (front_units r) i
  text-unit past below is =
      let f : ℕ → Unit16 = head_unit r.head (lengths_of r.texts) in
      ap Some is ∙ sym (behind-ten (text_units (text_bytes r.texts)) (f 0) (f 1) (f 2) (f 3) (f 4) (f 5) (f 6) (f 7)
      (f 8) (f 9) i past ∙ text-unit-at (text_bytes r.texts) (i - 10) (omega (arith, past, below)))
