-- Rows in memory, ordered.
use Rattle.std.proofs.Common.{mul-add, mul-one, suc, zero, suc-add, inl, inr, ◌⊎◌, Some, Option, mul-suc, mul-zero}
use Rattle.std.proofs.Common.{append_assoc, ◌≡◌, ℕ, ◌+◌, ◌*◌, ◌<◌, List, [], ◌∷◌, ◌++◌, length, take, drop, map, get_or}
use Rattle.std.proofs.Common.{true, false, not, refl, sym, ap, ◌∙◌, arith}
use Rattle.std.specs.Prelude.{Vec, option_map, unwrap_or, IsPermutation, IsSorted}
use Rattle.std.specs.Ordering.{nat_cmp}
use Rattle.std.specs.Cmp.Lexicographic.{slice_cmp}
use Rattle.std.proofs.lemmas.List.{map-append, append-nil, length_push, take_more, length-drop, length-append}
use Rattle.std.proofs.lemmas.List.{take-append-drop, nil_from_length}
use Rattle.std.proofs.lemmas.Bool.{cases_Bool}
use Rattle.std.proofs.lemmas.List.Concat.{flat_map-append}
use Rattle.std.proofs.lemmas.List.Sorted.{IsPermutation-map, sum_by-IsPermutation}
use Rattle.mf_base.specs.Ascending.{Bytes, is_below, put_in, Ascends, ascending, cut_rows, joined}
use Rattle.mf_base.proofs.Ordered.{ascending-only, put_in-below, put_in-here}
use Rattle.mf_edge.specs.MemoryStore.{held}

-- rows as bytes
abbrev pub items_of : {Z : Type 0} → List (Vec ℕ Z) → List Bytes
items_of rows = map (λ r. r.items) rows

pub sorted-Ascends : {Z : Type 0} (rows : List (Vec ℕ Z))
    → IsSorted (λ (x y : Vec ℕ Z). slice_cmp nat_cmp x.items y.items) rows → Ascends (items_of rows)
sorted-Ascends [] h = tt
sorted-Ascends (a ∷ []) h = tt
sorted-Ascends (a ∷ b ∷ rows) h = (
  ap not (h 0 a (omega arith) (omega arith)),
  sorted-Ascends (b ∷ rows) (λ k d low high. let e = h (suc k) d (omega arith) (omega (arith, high)) in
      rw (suc-add k 1) at e),
)

pub sorted-is : {Z : Type 0} (rows now : List (Vec ℕ Z)) → IsPermutation rows now
    → IsSorted (λ (x y : Vec ℕ Z). slice_cmp nat_cmp x.items y.items) now → items_of now ≡ ascending (items_of rows)
sorted-is rows now moved up = ascending-only (items_of rows) (items_of now) (record {
  same = λ row. sum_by-IsPermutation _ (items_of rows) (items_of now) (IsPermutation-map (λ r. r.items) rows now moved);
  ascends = sorted-Ascends now up;
})

quotients : (w n k r : ℕ) → w * n ≡ w * k + r → r < w → n ≡ k
quotients w zero zero r e l = refl
quotients w zero (suc k) r e l = let m = mul-suc w k in let z = mul-zero w in absurd (omega (arith, m, z, e, l))
quotients w (suc n) zero r e l = let m = mul-suc w n in let z = mul-zero w in absurd (omega (arith, m, z, e, l))
quotients w (suc n) (suc k) r e l = let m = mul-suc w n in let m' =
    mul-suc w k in ap suc (quotients w n k r (omega (arith, m, m', e)) l)

pub many-step : (width k more rest left all : ℕ) → all ≡ width * k + rest → more ≡ k + 1 → left + width ≡ rest
    → all ≡ width * more + left
many-step width k more rest left all e next back =
    let m : width * (k + 1) ≡ width * k + width = mul-add width k 1 ∙ ap (λ x. width * k + x) (mul-one width) in
    rw next (omega (arith, e, m, back))

pub cut-step : {Z : Type 0} (width : ℕ) (rows : List (Vec ℕ Z)) (v : Vec ℕ Z) (rest bytes : List ℕ)
    → v.items ≡ take width rest
    → ((n : ℕ) → items_of rows ++ cut_rows width n rest ≡ cut_rows width (length rows + n) bytes) → (n : ℕ)
    → items_of (rows ++ v ∷ []) ++ cut_rows width n (drop width rest) ≡ cut_rows width (length (rows ++ v ∷ []) + n)
    bytes
cut-step {Z = Z} width rows v rest bytes is h n =
    let len = length_push rows v in
    let many : length rows + suc n ≡ length (rows ++ v ∷ []) + n = omega (arith, len) in
    let one : items_of (v ∷ []) ≡ take width rest ∷ [] = ap (λ (b : Bytes). b ∷ []) is in
    rw (
      map-append (λ (r : Vec ℕ Z). r.items) rows (v ∷ []),
      one,
      append_assoc (items_of rows) (take width rest ∷ [])
          (cut_rows width n (drop width rest)),
    ) (h (suc n) ∙ ap (λ k. cut_rows width k bytes) many)

pub cut-end : {Z : Type 0} (width : ℕ) (rows : List (Vec ℕ Z)) (rest bytes : List ℕ) → length rest < width
    → length bytes ≡ width * length rows + length rest
    → ((n : ℕ) → items_of rows ++ cut_rows width n rest ≡ cut_rows width (length rows + n) bytes) → (n : ℕ)
    → length bytes ≡ width * n → items_of rows ≡ cut_rows width n bytes
cut-end width rows rest bytes short len h n e =
    let same : n ≡ length rows = quotients width n (length rows) (length rest) (sym e ∙ len) short in
    sym (append-nil (items_of rows)) ∙ h 0 ∙ ap (λ k. cut_rows width k bytes) (omega (arith, same))

take_items : {Z : Type 0} (rows : List (Vec ℕ Z)) (i : ℕ) (v d : Vec ℕ Z) → i < length rows → v ≡ get_or rows i d
    → items_of (take (i + 1) rows) ≡ items_of (take i rows) ++ (v.items ∷ [])
take_items {Z = Z} rows i v d l is =
    rw (take_more rows i d l, map-append (λ (r : Vec ℕ Z). r.items) (take i rows) (get_or rows i d ∷ []), ← is) refl

pub joined-more : {Z : Type 0} (rows : List (Vec ℕ Z)) (i : ℕ) (v d : Vec ℕ Z) (all : List ℕ) → i < length rows
    → v ≡ get_or rows i d → all ≡ joined (items_of (take i rows))
    → all ++ v.items ≡ joined (items_of (take (i + 1) rows))
joined-more rows i v d all l is e =
    rw (
      take_items rows i v d l is,
      flat_map-append (λ (row : Bytes). row) (items_of (take i rows)) (v.items ∷ []),
      append-nil v.items,
      e,
    ) refl

-- rows that were cut make the bytes again
joined-cut : (width n : ℕ) (bytes : List ℕ) → length bytes ≡ width * n → joined (cut_rows width n bytes) ≡ bytes
joined-cut width zero bytes e = sym (nil_from_length bytes (e ∙ mul-zero width))
joined-cut width (suc n) bytes e =
    let m = mul-suc width n in
    let len : length (drop width bytes) ≡ width * n = omega (arith, length-drop width bytes, e, m) in
    ap (λ more. take width bytes ++ more) (joined-cut width n (drop width bytes) len) ∙ take-append-drop width bytes

length-put_in : (row : Bytes) (rows : List Bytes)
    → length (joined (put_in row rows)) ≡ length row + length (joined rows)
length-put_in row [] = length-append row []
length-put_in row (b ∷ rows) = by_order (cases_Bool (is_below b row)) (length-put_in row rows)
  where
    by_order : (is_below b row ≡ true) ⊎ (is_below b row ≡ false)
        → length (joined (put_in row rows)) ≡ length row + length (joined rows)
        → length (joined (put_in row (b ∷ rows))) ≡ length row + length (b ++ joined rows)
    by_order (inl e) later =
        let first = ap (λ (all : List Bytes). length (joined all)) (put_in-below row b rows e) in
        let l = length-append b (joined (put_in row rows)) in let r = length-append b (joined rows) in
        first ∙ l ∙ omega (arith, later, r)
    by_order (inr e) later =
        ap (λ (all : List Bytes). length (joined all)) (put_in-here row b rows e) ∙ length-append row (b ++ joined rows)

length-ascending : (rows : List Bytes) → length (joined (ascending rows)) ≡ length (joined rows)
unfolding ascending
length-ascending [] = refl
length-ascending (row ∷ rows) = length-put_in row (ascending rows) ∙ ap (λ n. length row + n) (length-ascending rows)
    ∙ sym (length-append row (joined rows))

-- an ordered part is as long as it was
pub same_size-ordered : (before after : List (Option (List ℕ))) (part width n : ℕ) (old new : List ℕ)
    → held before part ≡ Some old → held after part ≡ Some new → option_map length (held before part) ≡ Some (width * n)
    → ((n : ℕ) → length old ≡ width * n → new ≡ joined (ascending (cut_rows width n old)))
    → option_map length (held after part) ≡ option_map length (held before part)
same_size-ordered before after part width n old new was now size is =
    let len : length old ≡ width * n = some_is (sym (ap (option_map length) was) ∙ size) in
    let long : length new ≡ length old =
    ap length (is n len) ∙ length-ascending (cut_rows width n old) ∙ ap length (joined-cut width n old len) in
    ap (option_map length) now ∙ ap Some long ∙ sym (ap (option_map length) was)
  where
    some_is : {a b : ℕ} → Some a ≡ Some b → a ≡ b
    some_is e = ap (λ x. unwrap_or x 0) e
