-- The strings of a block by their places, and the tags of indices of them.
use Rattle.std.proofs.Common.{◌≡◌, ◌∙◌, ◌∷◌, ◌==◌, ◌&&◌, ◌<◌, ℕ, List, [], Bool, true, false}
use Rattle.std.proofs.Common.{None, Result, Ok, Err, ap, refl, sym, subst, inl, inr, length, get_or}
use Rattle.std.specs.Prelude.{zip, ok_or, nat_lt, unwrap_or, option_and_then}
use Rattle.std.proofs.lemmas.Bool.{cases_lt, eqb-true, eq-eqb, and_parts, and_from, lt-ltb, ltb-true}
use Rattle.std.proofs.lemmas.List.{length-map, get_or-map}
use Rattle.std.proofs.lemmas.Option.{slice_get-get_or, none-some}
use Rattle.mf_base.specs.Texts.{Text}
use Rattle.mf_base.specs.Tags.{Tag, Tags}
use Rattle.mf_base.specs.Steps.{◌>>=◌, each, fault_of}
use Rattle.mf_base.specs.Entries.{text_at, entry_text, entry_tags, are_entries}
use Rattle.osm_model.specs.declared.faults.EntityFault.{EntityFault}
use Rattle.osm_model.specs.declared.faults.EntityFault.TheVariants.{StringIndex, KeyWithoutValue}
use Rattle.osm_model.specs.Objects.{string_at, tag_at, indexed_tags}
use Rattle.osm_entity.specs.InBlock.{texts_at}
use Rattle.osm_entity.proofs.TagReads.{tags-is, faults, bad_tag}

pub length-texts : (bytes places : List ℕ) → length (texts_at bytes places) ≡ length places
length-texts bytes places = length-map places (λ at. unwrap_or (text_at bytes at) [])

text_of_entry : (bytes places : List ℕ) (k : ℕ) → k < length places
    → unwrap_or (text_at bytes (get_or places k 0)) [] ≡ entry_text bytes places k
unfolding entry_text
text_of_entry bytes places k less =
    sym (ap (λ o. unwrap_or (option_and_then (text_at bytes) o) []) (slice_get-get_or places k 0 less))

pub text-known : (bytes places : List ℕ) (k : ℕ) → k < length places
    → string_at (texts_at bytes places) k ≡ Ok (entry_text bytes places k)
text-known bytes places k less =
    ap (λ o. ok_or o StringIndex) (slice_get-get_or (texts_at bytes places) k []
    (subst (λ n. k < n) (sym (length-texts bytes places)) less))
    ∙ ap Ok (get_or-map (λ at. unwrap_or (text_at bytes at) []) places k 0 [] less ∙ text_of_entry bytes places k less)

pub tag-known : (bytes places : List ℕ) (pair : ℕ × ℕ) → pair.0 < length places → pair.1 < length places
    → tag_at (texts_at bytes places) pair ≡ Ok (entry_text bytes places pair.0, entry_text bytes places pair.1)
tag-known bytes places pair key val =
    ap (λ r. r >>= λ key. string_at (texts_at bytes places) pair.1 >>= λ value. Ok (key, value))
    (text-known bytes places pair.0 key)
    ∙ ap (λ r. r >>= λ value. Ok (entry_text bytes places pair.0, value)) (text-known bytes places pair.1 val)

-- tags of indices that are all below the number of strings
pub tags-known : (bytes places : List ℕ) (pairs : List (ℕ × ℕ)) → are_entries (length places) pairs ≡ true
    → each (tag_at (texts_at bytes places)) pairs ≡ Ok (entry_tags bytes places pairs)
tags-known bytes places [] e = refl
tags-known bytes places (p ∷ pairs) e =
    let parts = and_parts (nat_lt p.0 (length places) && nat_lt p.1 (length places))
    (are_entries (length places) pairs) e in
    let both = and_parts (nat_lt p.0 (length places)) (nat_lt p.1 (length places)) parts.0 in
    let key : p.0 < length places = ltb-true p.0 (length places) both.0 in
    let val : p.1 < length places = ltb-true p.1 (length places) both.1 in
    ap (λ r. r >>= λ first. each (tag_at (texts_at bytes places)) pairs >>= λ others. Ok (first ∷ others))
    (tag-known bytes places p key val)
    ∙ ap (λ r. r >>= λ others. Ok ((entry_text bytes places p.0, entry_text bytes places p.1) ∷ others))
    (tags-known bytes places pairs parts.1)

-- where no tag has a fault, each index is below the number of strings
no_fault : (strings : List Text) (pairs : List (ℕ × ℕ)) → fault_of (each (tag_at strings) pairs) ≡ None
    → are_entries (length strings) pairs ≡ true
no_fault strings [] e = refl
no_fault strings (p ∷ pairs) e = elim (cases_lt p.0 (length strings)) [
  | inr past ↦ absurd (refused (bad_tag strings p.0 p.1 (inl past)))
  | inl key ↦ elim (cases_lt p.1 (length strings)) [
    | inr past ↦ absurd (refused (bad_tag strings p.0 p.1 (inr past)))
    | inl val ↦ and_from (nat_lt p.0 (length strings) && nat_lt p.1 (length strings))
        (are_entries (length strings) pairs)
        (and_from (nat_lt p.0 (length strings)) (nat_lt p.1 (length strings)) (lt-ltb p.0 (length strings) key)
        (lt-ltb p.1 (length strings) val))
        (no_fault strings pairs (later (tag_at strings p) (each (tag_at strings) pairs) e))
  ]
]
  where
    refused : tag_at strings p ≡ Err StringIndex → ⊥
    refused bad = none-some StringIndex (sym e
        ∙ ap (λ r. fault_of (r >>= λ first. each (tag_at strings) pairs >>= λ others. Ok (first ∷ others))) bad)

    later : (tag : Result Tag EntityFault) (tags : Result Tags EntityFault)
        → fault_of (tag >>= λ first. tags >>= λ others. Ok (first ∷ others)) ≡ None → fault_of tags ≡ None
    later (Ok tag) (Ok tags) f = refl
    later (Ok tag) (Err fault) f = f
    later (Err fault) tags f = absurd (none-some fault (sym f))

-- What is known of lists of indices without a fault.
pub record HasNoFault (strings : List Text) (keys vals : List ℕ) : Type 0 where
  pub as_many : length keys ≡ length vals
  pub entries : are_entries (length strings) (zip keys vals) ≡ true

pub tags-sound : (strings : List Text) (keys vals : List ℕ) → None ≡ fault_of (indexed_tags strings keys vals)
    → HasNoFault strings keys vals
tags-sound strings keys vals e = go (length keys == length vals) refl
  where
    told : faults (length keys == length vals) (each (tag_at strings) (zip keys vals)) ≡ None
    told = sym (tags-is strings keys vals) ∙ sym e

    go : (same : Bool) → (length keys == length vals) ≡ same → HasNoFault strings keys vals
    go true same = record {
      as_many = eqb-true (length keys) (length vals) same;
      entries = no_fault strings (zip keys vals)
          (step (each (tag_at strings) (zip keys vals))
          (ap (λ b. faults b (each (tag_at strings) (zip keys vals))) (sym same) ∙ told));
    }
      where
        step : (tags : Result Tags EntityFault) → faults true tags ≡ None → fault_of tags ≡ None
        step (Ok tags) f = refl
        step (Err fault) f = f
    go false same = absurd (none-some KeyWithoutValue
        (sym told ∙ ap (λ b. faults b (each (tag_at strings) (zip keys vals))) same))

-- lists of indices without a fault are these tags
pub tags-are : (bytes places keys vals : List ℕ) → length keys ≡ length vals
    → are_entries (length places) (zip keys vals) ≡ true
    → indexed_tags (texts_at bytes places) keys vals ≡ Ok (entry_tags bytes places (zip keys vals))
unfolding indexed_tags
tags-are bytes places keys vals many told =
    rw (eq-eqb (length keys) (length vals) many) (tags-known bytes places (zip keys vals) told)
