-- Texts at their places, and tags by their entries.
use Rattle.std.proofs.Common.{◌≡◌, ℕ, zero, suc, ◌+◌, ◌-◌, ◌<◌, ◌≤◌, List, [], ◌∷◌, ◌++◌, length, take, drop, refl, sym}
use Rattle.std.proofs.Common.{ap, subst, ◌∙◌, arith, true, false, Bool, Option, Some, None, Result, Ok, Err, cond}
use Rattle.std.proofs.Common.{append_assoc, length-append}
use Rattle.std.specs.Prelude.{nat_le, is_some, slice_range, get_or, unwrap_or, option_and_then, bytes_eq}
use Rattle.std.specs.List.{list_all}
use Rattle.std.proofs.lemmas.Bool.{leb-true, le-leb, ltb-true, and_parts}
use Rattle.std.proofs.lemmas.List.{take_at, drop_at, take-append-drop, take_rest, length-take, length-drop, drop-drop}
use Rattle.std.proofs.lemmas.Option.{slice_get-get_or}
use Rattle.mf_base.specs.Spelling.{IsVarint}
use Rattle.mf_base.specs.NumberReading.{varint_front}
use Rattle.mf_base.specs.Texts.{Text}
use Rattle.mf_base.specs.Tags.{value_of}
use Rattle.mf_base.specs.Entries.{HasText, front_text, text_at, are_texts, entry_text, are_entries, entry_tags}
use Rattle.mf_base.specs.declared.number.VarintFault.{VarintFault}
use Rattle.mf_base.proofs.NumberLemmas.{varint_reads, varint_found}

front_text-ok : (b : List ℕ) (count size : ℕ) → varint_front b ≡ Ok (count, size)
    → front_text b ≡ cond (nat_le (size + count) (length b)) (Some (take count (drop size b))) None
front_text-ok b count size e = rw (e, front_text) refl

front_text-err : (b : List ℕ) (fault : VarintFault) → varint_front b ≡ Err fault → front_text b ≡ None
front_text-err b fault e = rw (e, front_text) refl

not_some : {A : Type 0} (o : Option A) → o ≡ None → is_some o ≡ true → ⊥
not_some None e h = cc
not_some (Some x) e h = cc

if_some : {A : Type 0} (b : Bool) (x : A) → is_some (cond b (Some x) None) ≡ true → b ≡ true
if_some true x h = refl
if_some false x h = cc

-- What is told of a text at a place by the varint there.
pub record IsTextPlace (bytes : List ℕ) (at count size : ℕ) : Type 0 where
  pub text : text_at bytes at ≡ Some (slice_range bytes (at + size) (at + size + count))
  pub some : 0 < size
  pub fits : at + size + count ≤ length bytes

text_place-drop : (bytes : List ℕ) (at count size : ℕ) → is_some (text_at bytes at) ≡ true
    → varint_front (drop at bytes) ≡ Ok (count, size) → IsTextPlace bytes at count size
unfolding text_at
text_place-drop bytes at count size some e =
    let front = varint_found (drop at bytes) count size e in
    let is = front_text-ok (drop at bytes) count size e in
    let fits = if_some (nat_le (size + count) (length (drop at bytes))) (take count (drop size (drop at bytes)))
    (ap is_some (sym is) ∙ some) in
    let room = leb-true (size + count) (length (drop at bytes)) fits in
    let range : slice_range bytes (at + size) (at + size + count) ≡ take count (drop size (drop at bytes)) =
    ap (λ n. take n (drop (at + size) bytes)) (omega arith) ∙ ap (take count) (sym (drop-drop size at bytes)) in
    record {
      text = is ∙ ap (λ b. cond b (Some (take count (drop size (drop at bytes)))) None) fits ∙ ap Some (sym range);
      some = front.some;
      fits = omega (arith, room, front.some, length-drop at bytes);
    }

pub text_place-found : (bytes : List ℕ) (at count size : ℕ) → is_some (text_at bytes at) ≡ true
    → Ok (count, size) ≡ varint_front (take (length bytes - at) (drop at bytes)) → IsTextPlace bytes at count size
text_place-found bytes at count size some e =
    text_place-drop bytes at count size some (sym (e ∙ ap varint_front (take_rest bytes at)))

pub text_place-none : (bytes : List ℕ) (at : ℕ) (fault : VarintFault) → is_some (text_at bytes at) ≡ true
    → Err fault ≡ varint_front (take (length bytes - at) (drop at bytes)) → ⊥
unfolding text_at
text_place-none bytes at fault some e =
    not_some _ (front_text-err (drop at bytes) fault (sym (e ∙ ap varint_front (take_rest bytes at)))) some

pub text_place-below : (bytes : List ℕ) (at : ℕ) → is_some (text_at bytes at) ≡ true → at < length bytes
text_place-below bytes at some = below (varint_front (drop at bytes)) refl
  where
    below : (r : Result (ℕ × ℕ) VarintFault) → varint_front (drop at bytes) ≡ r → at < length bytes
    below (Ok found) e = let p = text_place-drop bytes at found.0 found.1 some e in omega (arith, p.some, p.fits)
    below (Err fault) e =
        absurd (text_place-none bytes at fault some (sym e ∙ ap varint_front (sym (take_rest bytes at))))

-- ---- the relation, and the function

pub text-reads : (bytes : List ℕ) (at : ℕ) (text : Text) → HasText bytes at text → text_at bytes at ≡ Some text
unfolding text_at
text-reads bytes at text (size, rest, spelled, is) =
    let parts : drop at bytes ≡ size ++ (text ++ rest) = is ∙ append_assoc size text rest in
    let front = ap varint_front parts ∙ varint_reads (length text) size (text ++ rest) spelled in
    let room : length size + length text ≤ length (drop at bytes) =
    omega (arith, ap length parts, length-append size (text ++ rest), length-append text rest) in
    let there : take (length text) (drop (length size) (drop at bytes)) ≡ text =
    ap (λ b. take (length text) (drop (length size) b)) parts
    ∙ ap (take (length text)) (drop_at size (text ++ rest) (length size) refl)
    ∙ take_at text rest (length text) refl in
    front_text-ok (drop at bytes) (length text) (length size) front
    ∙ ap (λ b. cond b (Some (take (length text) (drop (length size) (drop at bytes)))) None) (le-leb _ _ room)
    ∙ ap Some there

some_is : {A : Type 0} (b : Bool) (x y : A) → cond b (Some x) None ≡ Some y → (b ≡ true) × (x ≡ y)
some_is true x y e = (refl, cc)
some_is false x y e = cc

pub text-found : (bytes : List ℕ) (at : ℕ) (text : Text) → text_at bytes at ≡ Some text → HasText bytes at text
unfolding text_at
text-found bytes at text e = found (varint_front (drop at bytes)) refl
  where
    found : (r : Result (ℕ × ℕ) VarintFault) → varint_front (drop at bytes) ≡ r → HasText bytes at text
    found (Err fault) f = absurd (not_some _ (front_text-err (drop at bytes) fault f) (ap is_some e))
    found (Ok (count, size)) f =
        let front = varint_found (drop at bytes) count size f in
        let (fits, is) = some_is _ _ _ (sym (front_text-ok (drop at bytes) count size f) ∙ e) in
        let room = leb-true (size + count) (length (drop at bytes)) fits in
        let behind = drop size (drop at bytes) in
        let long : length text ≡ count =
        ap length (sym is) ∙ length-take count behind ∙ omega (arith, room, length-drop size (drop at bytes)) in
        let parts : drop at bytes ≡ take size (drop at bytes) ++ (text ++ drop count behind) =
        sym (take-append-drop size (drop at bytes))
        ∙ ap (λ b. take size (drop at bytes) ++ b) (sym (take-append-drop count behind)
        ∙ ap (λ b. b ++ drop count behind) is) in (
          take size (drop at bytes),
          drop count behind,
          subst (λ n. IsVarint n (take size (drop at bytes))) (sym long)
              front.spelled,
          parts ∙ sym (append_assoc _ text _),
        )

-- ---- entries

all_at : {A : Type 0} (p : A → Bool) (xs : List A) (k : ℕ) (d : A) → list_all p xs ≡ true → k < length xs
    → p (get_or xs k d) ≡ true
all_at p [] k d e h = absurd (omega (arith, h))
all_at p (x ∷ xs) zero d e h = (and_parts _ _ e).0
all_at p (x ∷ xs) (suc k) d e h = all_at p xs k d (and_parts _ _ e).1 (omega (arith, h))

-- the table has a text for each index
pub entry-some : (bytes places : List ℕ) (k : ℕ) → are_texts bytes places ≡ true → k < length places
    → is_some (text_at bytes (get_or places k 0)) ≡ true
entry-some bytes places k e h = all_at (λ at. is_some (text_at bytes at)) places k 0 e h

pub entry-is : (bytes places : List ℕ) (k : ℕ) (text : Text) → k < length places
    → text_at bytes (get_or places k 0) ≡ Some text → text ≡ entry_text bytes places k
unfolding entry_text
entry-is bytes places k text h e =
    sym (ap (λ o. unwrap_or (option_and_then (text_at bytes) o) []) (slice_get-get_or places k 0 h)
    ∙ ap (λ o. unwrap_or o []) e)

-- the first of pairs that are entries
pub first-entry : (count : ℕ) (pairs rest : List (ℕ × ℕ)) (pair : ℕ × ℕ) → are_entries count pairs ≡ true
    → pairs ≡ pair ∷ rest → (pair.0 < count) × (pair.1 < count) × (are_entries count rest ≡ true)
first-entry count pairs rest pair e is =
    let parts = and_parts _ _ (sym (ap (are_entries count) is) ∙ e) in
    let both = and_parts _ _ parts.0 in
    (ltb-true _ _ both.0, ltb-true _ _ both.1, parts.1)

pub value-none : (bytes places key : List ℕ) → value_of key (entry_tags bytes places []) ≡ None
unfolding value_of
value-none bytes places key = refl

-- the first tag has the key
pub value-first : (bytes places key : List ℕ) (pairs rest : List (ℕ × ℕ)) (pair : ℕ × ℕ) → pairs ≡ pair ∷ rest
    → bytes_eq (entry_text bytes places pair.0) key ≡ true
    → value_of key (entry_tags bytes places pairs) ≡ Some (entry_text bytes places pair.1)
unfolding value_of
value-first bytes places key pairs rest pair is same = rw (is, same) refl

-- the first tag has another key
pub value-others : (bytes places key : List ℕ) (pairs rest : List (ℕ × ℕ)) (pair : ℕ × ℕ) → pairs ≡ pair ∷ rest
    → bytes_eq (entry_text bytes places pair.0) key ≡ false
    → value_of key (entry_tags bytes places pairs) ≡ value_of key (entry_tags bytes places rest)
unfolding value_of
value-others bytes places key pairs rest pair is other = rw (is, other) refl
