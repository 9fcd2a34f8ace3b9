-- Fields of a message, one after another, and where their bytes stand.
use Rattle.std.proofs.Common.{◌≡◌, ◌∙◌, ℕ, ◌+◌, ◌-◌, ◌≤◌, List, [], ◌∷◌, ◌++◌, length, take, drop, refl, sym, ap, subst}
use Rattle.std.proofs.Common.{arith, Ok, Some, append_assoc, length-append}
use Rattle.std.specs.Prelude.{slice_range, slice_get}
use Rattle.std.proofs.lemmas.List.{take_at, drop_at, take-append-drop}
use Rattle.osm_model.specs.Reading.{Reading}
use Rattle.osm_model.specs.declared.faults.WireFault.{WireFault}
use Rattle.osm_model.specs.Wire.{Field, len, SpellsValue, field_front, fields}
use Rattle.osm_model.specs.Tables.{bytes_of, once_of}
use Rattle.osm_model.proofs.FieldLaws.{field_found}
use Rattle.osm_model.proofs.MessageLaws.{fields-more}
use Rattle.pbf_wire.proofs.ValueLaws.{bytes-append}
use Rattle.pbf_wire.specs.Lookup.{HasBytes}

-- bytes that stand behind others, at the end of the whole
abbrev pub IsBehind : List ℕ → List ℕ → Type 0
IsBehind whole left = (front : List ℕ) × (whole ≡ front ++ left)

-- the bytes of a field stand before what follows it
pub record HoldsBytes (left bytes rest : List ℕ) : Type 0 where
  pub before : List ℕ
  pub parts : left ≡ before ++ (bytes ++ rest)

len_spelled : (f : Field) (bytes b : List ℕ) → f.value ≡ len bytes → SpellsValue f.value b
    → (size : List ℕ) × (b ≡ size ++ bytes)
len_spelled f bytes b value spelled = let h : SpellsValue (len bytes) b =
    subst (λ v. SpellsValue v b) value spelled in (h.0, h.2)

pub bytes_held : (left bytes : List ℕ) (f : Field) (n : ℕ) → field_front left ≡ Ok (f, n) → f.value ≡ len bytes
    → HoldsBytes left bytes (drop n left)
bytes_held left bytes f n front value =
    let (key, spelled, keyed, valued, whole) = (field_found left f n front).spelled.spelled in
    let (size, is) = len_spelled f bytes spelled value valued in
    let taken : take n left ≡ (key ++ size) ++ bytes = whole ∙ ap (λ b. key ++ b) is
    ∙ sym (append_assoc key size bytes) in
    record {
      before = key ++ size;
      parts = sym (take-append-drop n left) ∙ ap (λ b. b ++ drop n left) taken
          ∙ append_assoc (key ++ size) bytes (drop n left);
    }

-- bytes between others, at their place
pub placed : (x bytes rest whole : List ℕ) (at end : ℕ) → whole ≡ x ++ (bytes ++ rest) → at ≡ length x
    → end ≡ length x + length bytes → slice_range whole at end ≡ bytes
placed x bytes rest whole at end parts from to =
    let dropped : drop at whole ≡ bytes ++ rest = ap (drop at) parts ∙ drop_at x (bytes ++ rest) at (sym from) in
    let count : end - at ≡ length bytes = omega (arith, from, to) in
    ap (λ n. take n (drop at whole)) count ∙ ap (take (length bytes)) dropped ∙ take_at bytes rest (length bytes) refl

-- The bytes of the first field with a number, found at this place.
pub record FoundPlace (message rest : List ℕ) (k size : ℕ) : Type 0 where
  pub found : once_of k (fields message).items
      ≡ Some (slice_range message (length message - length rest - size) (length message - length rest))
  pub fits : length rest + size ≤ length message

pub found_place : (message left rest : List ℕ) (f : Field) (k size n : ℕ)
    → bytes_of k (fields message).items ≡ bytes_of k (fields left).items → IsBehind message left
    → field_front left ≡ Ok (f, n) → rest ≡ drop n left → HasBytes k size f → FoundPlace message rest k size
found_place message left rest f k size n same (front, behind) read is (bytes, count, value, one) =
    let held = bytes_held left bytes f n read value in
    let x = front ++ held.before in
    let parts : message ≡ x ++ (bytes ++ rest) = behind
    ∙ ap (λ b. front ++ b) (held.parts ∙ ap (λ b. held.before ++ (bytes ++ b)) (sym is))
    ∙ sym (append_assoc front held.before (bytes ++ rest)) in
    let long : length message ≡ length x + (length bytes + length rest) = ap length parts
    ∙ length-append x (bytes ++ rest) ∙ ap (λ m. length x + m) (length-append bytes rest) in
    let all : bytes_of k (fields message).items ≡ bytes ∷ bytes_of k (fields (drop n left)).items =
    same ∙ ap (λ (r : Reading Field WireFault). bytes_of k r.items) (fields-more left f n read)
    ∙ bytes-append k (f ∷ []) (fields (drop n left)).items
    ∙ ap (λ bs. bs ++ bytes_of k (fields (drop n left)).items) one in
    let place = placed x bytes rest message (length message - length rest - size) (length message - length rest) parts
    (omega (arith, long, count)) (omega (arith, long, count)) in
    record {
      found = ap (λ bs. slice_get bs 0) all ∙ ap Some (sym place);
      fits = omega (arith, long, count);
    }

-- a field without such bytes
pub others_same : (message left rest : List ℕ) (f : Field) (k n : ℕ)
    → bytes_of k (fields message).items ≡ bytes_of k (fields left).items
    → field_front left ≡ Ok (f, n) → rest ≡ drop n left → bytes_of k (f ∷ []) ≡ []
    → bytes_of k (fields message).items ≡ bytes_of k (fields rest).items
others_same message left rest f k n same read is none =
    same ∙ ap (λ (r : Reading Field WireFault). bytes_of k r.items) (fields-more left f n read)
    ∙ bytes-append k (f ∷ []) (fields (drop n left)).items
    ∙ ap (λ bs. bs ++ bytes_of k (fields (drop n left)).items) none ∙ ap (λ b. bytes_of k (fields b).items) (sym is)

pub still_behind : (message left rest : List ℕ) (n : ℕ) → IsBehind message left → rest ≡ drop n left
    → IsBehind message rest
still_behind message left rest n (front, behind) is = (
  front ++ take n left,
  behind ∙ ap (λ b. front ++ b) (sym (take-append-drop n left))
      ∙ sym (append_assoc front (take n left) (drop n left)) ∙ ap (λ b. (front ++ take n left) ++ b) (sym is),
)
