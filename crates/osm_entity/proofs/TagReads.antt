-- The indices of keys and values, one after another.
use Rattle.std.proofs.Common.{◌≡◌, ◌∙◌, ◌∷◌, ◌==◌, ◌<◌, ◌≤◌, ◌⊎◌, ℕ, suc, List, [], Bool, true, false, cond, Option}
use Rattle.std.proofs.Common.{Some, None, Result, Ok, Err, ap, refl, sym, subst, inl, inr, length, arith}
use Rattle.std.specs.Prelude.{zip, slice_get, ok_or, nat_lt, ◌&&◌}
use Rattle.std.proofs.lemmas.Bool.{cases_eq, cases_lt, eq-eqb, ne_eqb, and_parts, ltb-true, ltb-false, lt-ltb}
use Rattle.std.proofs.lemmas.Option.{slice_get-get_or, slice_get_past}
use Rattle.mf_base.specs.Texts.{Text}
use Rattle.mf_base.specs.Tags.{Tag, Tags}
use Rattle.mf_base.specs.Steps.{◌>>=◌, require, each, fault_of}
use Rattle.osm_model.specs.declared.faults.EntityFault.{EntityFault}
use Rattle.osm_model.specs.declared.faults.EntityFault.TheVariants.{StringIndex, KeyWithoutValue}
use Rattle.osm_model.specs.Objects.{string_at, tag_at, indexed_tags}
use Rattle.osm_entity.specs.TagChecks.{bad_index}

pub string-some : (strings : List Text) (k : ℕ) → k < length strings → (text : Text) × (string_at strings k ≡ Ok text)
string-some strings k less = (_, ap (λ o. ok_or o StringIndex) (slice_get-get_or strings k [] less))

pub string-none : (strings : List Text) (k : ℕ) → length strings ≤ k → string_at strings k ≡ Err StringIndex
string-none strings k past = ap (λ o. ok_or o StringIndex) (slice_get_past strings k past)

-- the fault of keys and values, whether they are as many and then by their tags
abbrev pub faults : Bool → Result Tags EntityFault → Option EntityFault
faults same tags = fault_of (require same KeyWithoutValue >>= λ u. tags)

pub tags-is : (strings : List Text) (keys vals : List ℕ)
    → fault_of (indexed_tags strings keys vals)
    ≡ faults (length keys == length vals) (each (tag_at strings) (zip keys vals))
unfolding indexed_tags
tags-is strings keys vals = refl

same_count : (m n : ℕ) → (suc m == suc n) ≡ (m == n)
same_count m n = elim (cases_eq m n) [
  | inl e ↦ eq-eqb (suc m) (suc n) (omega (arith, e)) ∙ sym (eq-eqb m n e)
  | inr e ↦ ne_eqb (suc m) (suc n) (λ f. e (omega (arith, f))) ∙ sym (ne_eqb m n e)
]

pub tags-none : (strings : List Text) → None ≡ fault_of (indexed_tags strings [] [])
unfolding indexed_tags
tags-none strings = refl

pub tags-left_key : (strings : List Text) (k : ℕ) (keys : List ℕ)
    → Some KeyWithoutValue ≡ fault_of (indexed_tags strings (k ∷ keys) [])
tags-left_key strings k keys =
    sym (tags-is strings (k ∷ keys) []
    ∙ ap (λ b. faults b (Ok [])) (ne_eqb (suc (length keys)) 0 (λ e. omega (arith, e))))

pub tags-left_value : (strings : List Text) (v : ℕ) (vals : List ℕ)
    → Some KeyWithoutValue ≡ fault_of (indexed_tags strings [] (v ∷ vals))
tags-left_value strings v vals =
    sym (tags-is strings [] (v ∷ vals)
    ∙ ap (λ b. faults b (Ok [])) (ne_eqb 0 (suc (length vals)) (λ e. omega (arith, e))))

next_fault : (same : Bool) (tag : Text × Text) (tags : Result Tags EntityFault)
    → faults same (tags >>= λ others. Ok (tag ∷ others)) ≡ faults same tags
next_fault true tag (Ok tags) = refl
next_fault true tag (Err fault) = refl
next_fault false tag tags = refl

-- both indices are those of strings
pub tags-next : (strings : List Text) (k v : ℕ) (keys vals : List ℕ) → k < length strings → v < length strings
    → fault_of (indexed_tags strings (k ∷ keys) (v ∷ vals)) ≡ fault_of (indexed_tags strings keys vals)
tags-next strings k v keys vals key val =
    let (first, is_first) = string-some strings k key in
    let (second, is_second) = string-some strings v val in
    let tag : tag_at strings (k, v) ≡ Ok (first, second) =
    ap (λ r. r >>= λ key. string_at strings v >>= λ value. Ok (key, value)) is_first
    ∙ ap (λ r. r >>= λ value. Ok (first, value)) is_second in
    tags-is strings (k ∷ keys) (v ∷ vals)
    ∙ ap (λ b. faults b (each (tag_at strings) (zip (k ∷ keys) (v ∷ vals)))) (same_count (length keys) (length vals))
    ∙ ap (λ r. faults (length keys == length vals)
    (r >>= λ tag. each (tag_at strings) (zip keys vals) >>= λ others. Ok (tag ∷ others))) tag
    ∙ next_fault (length keys == length vals) (first, second) (each (tag_at strings) (zip keys vals))
    ∙ sym (tags-is strings keys vals)

abbrev no_tag : Result Tag EntityFault
no_tag = Err StringIndex

either_way : (o : Option Text) → (ok_or o StringIndex >>= λ key. no_tag) ≡ no_tag
either_way None = refl
either_way (Some x) = refl

pub bad_tag : (strings : List Text) (k v : ℕ) → (length strings ≤ k) ⊎ (length strings ≤ v)
    → tag_at strings (k, v) ≡ no_tag
bad_tag strings k v (inl key) =
    ap (λ r. r >>= λ key. string_at strings v >>= λ value. Ok (key, value)) (string-none strings k key)
bad_tag strings k v (inr val) =
    ap (λ r. string_at strings k >>= λ key. r >>= λ value. Ok (key, value)) (string-none strings v val)
    ∙ either_way (slice_get strings k)

bad_fault : (same : Bool) → faults same (Err StringIndex) ≡ Some (cond same StringIndex KeyWithoutValue)
bad_fault true = refl
bad_fault false = refl

pub tags-bad : (strings : List Text) (k v : ℕ) (keys vals : List ℕ) → (length strings ≤ k) ⊎ (length strings ≤ v)
    → Some (bad_index keys vals) ≡ fault_of (indexed_tags strings (k ∷ keys) (v ∷ vals))
tags-bad strings k v keys vals bad = sym (
    tags-is strings (k ∷ keys) (v ∷ vals)
    ∙ ap (λ b. faults b (each (tag_at strings) (zip (k ∷ keys) (v ∷ vals)))) (same_count (length keys) (length vals))
    ∙ ap (λ r. faults (length keys == length vals)
    (r >>= λ tag. each (tag_at strings) (zip keys vals) >>= λ others. Ok (tag ∷ others))) (bad_tag strings k v bad)
    ∙ bad_fault (length keys == length vals))

-- ---- the exits of the check

pub told-none : (strings : List Text) (ks vs keys vals : List ℕ)
    → fault_of (indexed_tags strings ks vs) ≡ fault_of (indexed_tags strings keys vals) → keys ≡ [] → vals ≡ []
    → None ≡ fault_of (indexed_tags strings ks vs)
told-none strings ks vs keys vals same e f =
    tags-none strings ∙ ap (λ v. fault_of (indexed_tags strings [] v)) (sym f)
    ∙ ap (λ k. fault_of (indexed_tags strings k vals)) (sym e) ∙ sym same

pub told-left_value : (strings : List Text) (ks vs keys vals rest : List ℕ) (v : ℕ)
    → fault_of (indexed_tags strings ks vs) ≡ fault_of (indexed_tags strings keys vals) → keys ≡ [] → vals ≡ v ∷ rest
    → Some KeyWithoutValue ≡ fault_of (indexed_tags strings ks vs)
told-left_value strings ks vs keys vals rest v same e f =
    tags-left_value strings v rest ∙ ap (λ v. fault_of (indexed_tags strings [] v)) (sym f)
    ∙ ap (λ k. fault_of (indexed_tags strings k vals)) (sym e) ∙ sym same

pub told-left_key : (strings : List Text) (ks vs keys vals rest : List ℕ) (k : ℕ)
    → fault_of (indexed_tags strings ks vs) ≡ fault_of (indexed_tags strings keys vals) → keys ≡ k ∷ rest → vals ≡ []
    → Some KeyWithoutValue ≡ fault_of (indexed_tags strings ks vs)
told-left_key strings ks vs keys vals rest k same e f =
    tags-left_key strings k rest ∙ ap (λ v. fault_of (indexed_tags strings (k ∷ rest) v)) (sym f)
    ∙ ap (λ k. fault_of (indexed_tags strings k vals)) (sym e) ∙ sym same

pub told-next : (strings : List Text) (ks vs keys vals other_keys other_vals : List ℕ) (k v count : ℕ)
    → length strings ≡ count → fault_of (indexed_tags strings ks vs) ≡ fault_of (indexed_tags strings keys vals)
    → keys ≡ k ∷ other_keys → vals ≡ v ∷ other_vals → (nat_lt k count && nat_lt v count) ≡ true
    → fault_of (indexed_tags strings ks vs) ≡ fault_of (indexed_tags strings other_keys other_vals)
told-next strings ks vs keys vals other_keys other_vals k v count many same e f known =
    let parts = and_parts (nat_lt k count) (nat_lt v count) known in
    let key : k < count = ltb-true k count parts.0 in
    let val : v < count = ltb-true v count parts.1 in
    same ∙ ap (λ ns. fault_of (indexed_tags strings ns vals)) e
    ∙ ap (λ ns. fault_of (indexed_tags strings (k ∷ other_keys) ns)) f
    ∙ tags-next strings k v other_keys other_vals (subst (λ n. k < n) (sym many) key)
    (subst (λ n. v < n) (sym many) val)

past_one : (k v count : ℕ) → (nat_lt k count && nat_lt v count) ≡ false → (count ≤ k) ⊎ (count ≤ v)
past_one k v count e = elim (cases_lt k count) [
  | inl less ↦ inr (ltb-false v count (sym (ap (λ b. b && nat_lt v count) (lt-ltb k count less)) ∙ e))
  | inr more ↦ inl more
]

pub told-bad : (strings : List Text) (ks vs keys vals other_keys other_vals : List ℕ) (k v count : ℕ)
    (fault : EntityFault) → length strings ≡ count
    → fault_of (indexed_tags strings ks vs) ≡ fault_of (indexed_tags strings keys vals)
    → keys ≡ k ∷ other_keys → vals ≡ v ∷ other_vals → (nat_lt k count && nat_lt v count) ≡ false
    → fault ≡ bad_index other_keys other_vals → Some fault ≡ fault_of (indexed_tags strings ks vs)
told-bad strings ks vs keys vals other_keys other_vals k v count fault many same e f known is =
    ap Some is ∙ tags-bad strings k v other_keys other_vals
    (subst (λ n. (n ≤ k) ⊎ (n ≤ v)) (sym many) (past_one k v count known))
    ∙ ap (λ ns. fault_of (indexed_tags strings (k ∷ other_keys) ns)) (sym f)
    ∙ ap (λ ns. fault_of (indexed_tags strings ns vals)) (sym e) ∙ sym same
