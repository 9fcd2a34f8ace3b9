-- Words read as options, from the front.
use Rattle.std.proofs.Common.{◌≡◌, ◌⊎◌, ℕ, zero, suc, ◌+◌, ◌<◌, ◌≤◌, List, [], ◌∷◌, length, drop, map, filter, refl}
use Rattle.std.proofs.Common.{sym, ap, ◌∙◌, arith, inl, inr, true, false, not, ◌&&◌, ◌||◌, Bool, Option, Some, None}
use Rattle.std.proofs.Common.{option_map, add-one, true≢false}
use Rattle.std.specs.Prelude.{◌==◌, bytes_eq, is_some, is_none, if◌then◌else◌, slice_get, nat_eq, nat_le}
use Rattle.std.specs.Prelude.{option_and_then}
use Rattle.std.specs.List.{slice_split, onto_first, list_all}
use Rattle.std.proofs.lemmas.Option.{none-some, same_Some, cond_some}
use Rattle.std.proofs.Math.Seq.{drop-nil}
use Rattle.std.proofs.lemmas.List.{length-drop, drop-drop}
use Rattle.std.proofs.Math.Bool.{or-false}
use Rattle.mf_base.proofs.StepLaws.{map_none}
use Rattle.std.proofs.lemmas.Bool.{cases_Bool, cases_eq, eq-eqb, ne_eqb, le-leb, and_right}
use lib.Pointwise.{bytes_decides}
use Rattle.mf_base.specs.Texts.{Text, begins, is_among, cut}
use Rattle.mf_base.specs.Words.{Given, dashes, dash, and_then_options, in_one_word, options_of, given_value}
use Rattle.mf_base.specs.Words.{kept_options, keep_names, is_value, are_distinct, words_keep, names_in, word_of}

-- What the first words tell.

pub front-one : (word : Text) (words : List Text) (option : Text × Text) → in_one_word word ≡ Some option
    → options_of (word ∷ words) ≡ and_then_options option (options_of words)
unfolding options_of
front-one word [] option e = rw (e, options_of) refl
front-one word (value ∷ words) option e = rw (e, options_of) refl

pub front-two : (word value : Text) (words : List Text) → in_one_word word ≡ None → begins dashes word ≡ true
    → begins dash value ≡ false
    → options_of (word ∷ value ∷ words) ≡ and_then_options (drop 2 word, value) (options_of words)
unfolding options_of
front-two word value words e dashed plain = rw (e, options_of) (rw (dashed, plain) refl)

pub front-broken : (word value : Text) (words : List Text) → in_one_word word ≡ None
    → (begins dashes word && not (begins dash value)) ≡ false → options_of (word ∷ value ∷ words) ≡ None
unfolding options_of
front-broken word value words e broken = rw (e, options_of) (rw broken refl)

pub front-last : (word : Text) → in_one_word word ≡ None
    → options_of (word ∷ []) ≡ (if bytes_eq word dashes then Some [] else None)
unfolding options_of
front-last word e = rw (e, options_of) refl

pub front-none : options_of [] ≡ Some []
unfolding options_of
front-none = refl

-- Two words, by what stands behind the dashes of the first.

pub dashed-two : (word value : Text) (words : List Text) (name : Text) → in_one_word word ≡ None
    → Some name ≡ (if begins dashes word then Some (drop 2 word) else None) → begins dash value ≡ false
    → options_of (word ∷ value ∷ words) ≡ and_then_options (name, value) (options_of words)
dashed-two word value words name e behind plain =
    let kept = cond_some (begins dashes word) (drop 2 word) name (sym behind) in
    rw (← kept.1) (front-two word value words e kept.0 plain)

pub dash-broken : (word value : Text) (words : List Text) → in_one_word word ≡ None → begins dash value ≡ true
    → options_of (word ∷ value ∷ words) ≡ None
dash-broken word value words e dashed =
    front-broken word value words e (rw dashed (and_right (begins dashes word) false refl))

pub dashed-broken : (word value : Text) (words : List Text) → in_one_word word ≡ None
    → None ≡ (if begins dashes word then Some (drop 2 word) else None) → options_of (word ∷ value ∷ words) ≡ None
dashed-broken word value words e behind = elim (cases_Bool (begins dashes word)) [
  | inl dashed ↦ absurd (none-some (drop 2 word) (rw dashed at behind))
  | inr bare ↦ front-broken word value words e (rw bare refl)
]

-- The words at a place.

word-suc : (words : List Text) (at : ℕ) (word : Text) → Some word ≡ slice_get words at
    → drop at words ≡ word ∷ drop (suc at) words
word-suc [] at word e = absurd (none-some word (sym e))
word-suc (w ∷ words) zero word e = ap (λ (x : Text). x ∷ words) (same_Some w word (sym e))
word-suc (w ∷ words) (suc at) word e = word-suc words at word e

pub word-here : (words : List Text) (at : ℕ) (word : Text) → Some word ≡ slice_get words at
    → drop at words ≡ word ∷ drop (at + 1) words
word-here words at word e = rw add-one (word-suc words at word e)

pub word-none : (words : List Text) (at : ℕ) → None ≡ slice_get words at → drop at words ≡ []
word-none [] at e = drop-nil at
word-none (w ∷ words) zero e = absurd (none-some w e)
word-none (w ∷ words) (suc at) e = word-none words at e

pub front-here : (words : List Text) (at : ℕ) (word : Text) (option : Text × Text) → Some word ≡ slice_get words at
    → Some option ≡ in_one_word word
    → (1 ≤ length (drop at words))
    × (options_of (drop at words) ≡ and_then_options option (options_of (drop 1 (drop at words))))
front-here words at word option here found =
    rw (word-here words at word here) (omega arith, front-one word (drop (at + 1) words) option (sym found))

-- Names between commas.

split-same : (byte b : ℕ) (text : Text) → byte ≡ b
    → slice_split (nat_eq byte) (b ∷ text) ≡ [] ∷ slice_split (nat_eq byte) text
split-same byte b text same = rw (eq-eqb byte b same) refl

split-other : (byte b : ℕ) (text : Text) → (byte ≡ b → ⊥)
    → slice_split (nat_eq byte) (b ∷ text) ≡ onto_first b (slice_split (nat_eq byte) text)
split-other byte b text other = rw (ne_eqb byte b other) refl

cut-other : (byte b : ℕ) (text : Text) → (byte ≡ b → ⊥)
    → cut byte (b ∷ text) ≡ option_map {U = Text × Text} (λ (p : Text × Text). (b ∷ p.0, p.1)) (cut byte text)
cut-other byte b text other = rw (ne_eqb b byte (λ e. other (sym e))) refl

cut-same : (byte b : ℕ) (text : Text) → byte ≡ b → cut byte (b ∷ text) ≡ Some ([], text)
cut-same byte b text same = rw (eq-eqb b byte (sym same)) refl

-- what is cut off is the first piece
pub pieces-first : (byte : ℕ) (text first more : Text) → cut byte text ≡ Some (first, more)
    → slice_split (nat_eq byte) text ≡ first ∷ slice_split (nat_eq byte) more
pieces-first byte [] first more e = absurd (none-some (first, more) e)
pieces-first byte (b ∷ text) first more e = by_byte (cases_eq byte b) (λ f m. pieces-first byte text f m)
  where
    by_cut : (o : Option (Text × Text)) → cut byte text ≡ o
        → option_map {U = Text × Text} (λ (p : Text × Text). (b ∷ p.0, p.1)) o ≡ Some (first, more) → (byte ≡ b → ⊥)
        → ((f m : Text) → cut byte text ≡ Some (f, m)
        → slice_split (nat_eq byte) text ≡ f ∷ slice_split (nat_eq byte) m)
        → slice_split (nat_eq byte) (b ∷ text) ≡ first ∷ slice_split (nat_eq byte) more
    by_cut None is found other later = absurd (none-some (first, more) found)
    by_cut (Some p) is found other later =
        let both = same_Some (b ∷ p.0, p.1) (first, more) found in
        let ones : b ∷ p.0 ≡ first = ap (λ (x : Text × Text). x.0) both in
        let others : p.1 ≡ more = ap (λ (x : Text × Text). x.1) both in
        rw (← ones, ← others) (split-other byte b text other ∙ ap (onto_first b) (later p.0 p.1 is))

    by_byte : (byte ≡ b) ⊎ (byte ≡ b → ⊥)
        → ((f m : Text) → cut byte text ≡ Some (f, m)
        → slice_split (nat_eq byte) text ≡ f ∷ slice_split (nat_eq byte) m)
        → slice_split (nat_eq byte) (b ∷ text) ≡ first ∷ slice_split (nat_eq byte) more
    by_byte (inl same) later =
        let both = same_Some ([], text) (first, more) (sym (cut-same byte b text same) ∙ e) in
        let ones : [] ≡ first = ap (λ (x : Text × Text). x.0) both in
        let others : text ≡ more = ap (λ (x : Text × Text). x.1) both in
        rw (← ones, ← others) (split-same byte b text same)
    by_byte (inr other) later = by_cut (cut byte text) refl (sym (cut-other byte b text other) ∙ e) other later

-- a text without the byte is the only piece
pub pieces-last : (byte : ℕ) (text : Text) → cut byte text ≡ None → slice_split (nat_eq byte) text ≡ text ∷ []
pieces-last byte [] e = refl
pieces-last byte (b ∷ text) e = by_byte (cases_eq byte b) (pieces-last byte text)
  where
    by_byte : (byte ≡ b) ⊎ (byte ≡ b → ⊥) → (cut byte text ≡ None → slice_split (nat_eq byte) text ≡ text ∷ [])
        → slice_split (nat_eq byte) (b ∷ text) ≡ (b ∷ text) ∷ []
    by_byte (inl same) later = absurd (none-some ([], text) (sym e ∙ cut-same byte b text same))
    by_byte (inr other) later = split-other byte b text other
        ∙ ap (onto_first b)
        (later (map_none (λ (p : Text × Text). (b ∷ p.0, p.1)) (cut byte text) (sym (cut-other byte b text other) ∙ e)))

-- names that are not empty
abbrev pub some_of : List Text → List Text
some_of texts = filter (λ name. nat_le 1 (length name)) texts

empty-not : (texts : List Text) → is_among (some_of texts) [] ≡ false
empty-not [] = refl
empty-not ([] ∷ texts) = empty-not texts
empty-not ((b ∷ text) ∷ texts) = rw (le-leb 1 (suc (length text)) (omega arith)) (empty-not texts)

pub names-empty : (names name : Text) → length name ≡ 0 → is_among (names_in names) name ≡ false
names-empty names [] none = empty-not (slice_split (nat_eq 44) names)
names-empty names (b ∷ name) none = absurd (omega (arith, none))

first-kept : (first name : Text) (texts : List Text) → 1 ≤ length name
    → is_among (some_of (first ∷ texts)) name ≡ (bytes_eq name first || is_among (some_of texts) name)
first-kept [] [] texts some = absurd (omega (arith, some))
first-kept [] (b ∷ name) texts some = refl
first-kept (f ∷ first) name texts some = rw (le-leb 1 (suc (length first)) (omega arith)) refl

pub names-first : (names name first more : Text) → 1 ≤ length name → Some (first, more) ≡ cut 44 names
    → is_among (names_in names) name ≡ (bytes_eq name first || is_among (names_in more) name)
names-first names name first more some e =
    rw (pieces-first 44 names first more (sym e)) (first-kept first name (slice_split (nat_eq 44) more) some)

pub names-last : (names name : Text) → 1 ≤ length name → None ≡ cut 44 names
    → is_among (names_in names) name ≡ bytes_eq name names
names-last names name some e =
    rw (pieces-last 44 names (sym e)) (first-kept names name [] some ∙ or-false (bytes_eq name names))

pub cut-shorter : (byte : ℕ) (text first more : Text) → cut byte text ≡ Some (first, more) → length more < length text
cut-shorter byte [] first more e = absurd (none-some (first, more) e)
cut-shorter byte (b ∷ text) first more e = by_byte (cases_eq byte b) (λ f m. cut-shorter byte text f m)
  where
    by_cut : (o : Option (Text × Text)) → cut byte text ≡ o
        → option_map {U = Text × Text} (λ (p : Text × Text). (b ∷ p.0, p.1)) o ≡ Some (first, more)
        → ((f m : Text) → cut byte text ≡ Some (f, m) → length m < length text) → length more < suc (length text)
    by_cut None is found later = absurd (none-some (first, more) found)
    by_cut (Some p) is found later =
        let others : p.1 ≡ more = ap (λ (x : Text × Text). x.1) (same_Some (b ∷ p.0, p.1) (first, more) found) in
        let less = later p.0 p.1 is in
        rw (← others) (omega (arith, less))

    by_byte : (byte ≡ b) ⊎ (byte ≡ b → ⊥) → ((f m : Text) → cut byte text ≡ Some (f, m) → length m < length text)
        → length more < suc (length text)
    by_byte (inl same) later =
        let others : text ≡ more =
        ap (λ (x : Text × Text). x.1) (same_Some ([], text) (first, more) (sym (cut-same byte b text same) ∙ e)) in
        rw (← others) (omega arith)
    by_byte (inr other) later = by_cut (cut byte text) refl (sym (cut-other byte b text other) ∙ e) later

-- Looking for a name.

eq_swapped : (a b : Text) (t : Bool) → t ≡ bytes_eq a b → bytes_eq b a ≡ t
eq_swapped a b true e = (bytes_decides b a).1 (sym ((bytes_decides a b).0 (sym e)))
eq_swapped a b false e = by_test (cases_Bool (bytes_eq b a))
  where
    by_test : (bytes_eq b a ≡ true) ⊎ (bytes_eq b a ≡ false) → bytes_eq b a ≡ false
    by_test (inl same) = absurd (true≢false (sym ((bytes_decides a b).1 (sym ((bytes_decides b a).0 same))) ∙ sym e))
    by_test (inr other) = other

some_name : (b : ℕ) (name : Text) (empty : Bool) → empty ≡ (length (b ∷ name) == 0) → empty ≡ false
some_name b name empty is = is ∙ ne_eqb (suc (length name)) 0 (λ e. omega (arith, e))

pub name-found : (rest name first more : Text) (empty : Bool) → empty ≡ (length name == 0)
    → cut 44 rest ≡ Some (first, more) → true ≡ bytes_eq first name → not empty ≡ is_among (names_in rest) name
name-found rest [] first more empty is e same = rw (is, names-empty rest [] refl) refl
name-found rest (b ∷ name) first more empty is e same =
    rw (
      some_name b name empty is,
      names-first rest (b ∷ name) first more (omega arith) (sym e),
      eq_swapped first (b ∷ name) true same,
    ) refl

pub name-next : (rest name first more : Text) → cut 44 rest ≡ Some (first, more) → false ≡ bytes_eq first name
    → is_among (names_in rest) name ≡ is_among (names_in more) name
name-next rest [] first more e other = rw (names-empty rest [] refl, names-empty more [] refl) refl
name-next rest (b ∷ name) first more e other =
    rw (names-first rest (b ∷ name) first more (omega arith) (sym e), eq_swapped first (b ∷ name) false other) refl

pub name-last : (rest name : Text) (empty : Bool) → empty ≡ (length name == 0) → None ≡ cut 44 rest
    → true ≡ bytes_eq rest name → not empty ≡ is_among (names_in rest) name
name-last rest [] empty is e same = rw (is, names-empty rest [] refl) refl
name-last rest (b ∷ name) empty is e same =
    rw (some_name b name empty is, names-last rest (b ∷ name) (omega arith) e, eq_swapped rest (b ∷ name) true same)
    refl

pub name-not : (rest name : Text) → None ≡ cut 44 rest → false ≡ bytes_eq rest name
    → false ≡ is_among (names_in rest) name
name-not rest [] e other = sym (names-empty rest [] refl)
name-not rest (b ∷ name) e other =
    rw (names-last rest (b ∷ name) (omega arith) e, eq_swapped rest (b ∷ name) false other) refl

-- Options one after another.

-- the options from a place on are those after it and the one that stands there
pub options-next : (words : List Text) (at size : ℕ) (option : Text × Text)
    → options_of (drop at words) ≡ and_then_options option (options_of (drop size (drop at words)))
    → options_of (drop at words) ≡ and_then_options option (options_of (drop (at + size) words))
options-next words at size option e =
    e ∙ ap (λ (w : List Text). and_then_options option (options_of w)) (drop-drop size at words)

-- some options, of which the first is known
pub then-options : (option : Text × Text) (more : Option Given) (options : Given)
    → and_then_options option more ≡ Some options → (rest : Given) × (more ≡ Some rest) × (option ∷ rest ≡ options)
then-options option None options e = absurd (none-some options e)
then-options option (Some rest) options e = (rest, refl, same_Some (option ∷ rest) options e)

-- what was passed over has no option of the name
pub record HasPassed (words : List Text) (name : Text) (from at : ℕ) : Type 0 where
  pub within : at ≤ length words
  pub same : (options : Given) → options_of (drop from words) ≡ Some options
      → (more : Given) × (options_of (drop at words) ≡ Some more) × (given_value name options ≡ given_value name more)

pub passed-none : (words : List Text) (name : Text) (from : ℕ) → from ≤ length words → HasPassed words name from from
passed-none words name from within = record { within = within; same = λ options e. (options, e, refl) }

given-other : (name given value : Text) (rest : Given) → bytes_eq given name ≡ false
    → given_value name ((given, value) ∷ rest) ≡ given_value name rest
given-other name given value rest other = rw other refl

given-same : (name given value : Text) (rest : Given) → bytes_eq given name ≡ true
    → given_value name ((given, value) ∷ rest) ≡ Some value
given-same name given value rest same = rw same refl

pub passed-more : (words : List Text) (name given value : Text) (from at size : ℕ) → HasPassed words name from at
    → size ≤ length (drop at words)
    → options_of (drop at words) ≡ and_then_options (given, value) (options_of (drop size (drop at words)))
    → bytes_eq given name ≡ false → HasPassed words name from (at + size)
passed-more words name given value from at size so_far short front other = record {
  within = omega (arith, so_far.within, short, length-drop at words);
  same = λ options e.
      let before = so_far.same options e in
      let next = then-options (given, value) (options_of (drop (at + size) words)) before.0
      (sym (options-next words at size (given, value) front) ∙ before.1) in
      (next.0, next.1, before.2 ∙ (ap (given_value name) (sym next.2) ∙ given-other name given value next.0 other));
}

pub passed-found : (words : List Text) (name given value : Text) (from at size : ℕ) → HasPassed words name from at
    → options_of (drop at words) ≡ and_then_options (given, value) (options_of (drop size (drop at words)))
    → bytes_eq given name ≡ true → (options : Given) → options_of (drop from words) ≡ Some options
    → Some value ≡ given_value name options
passed-found words name given value from at size so_far front same options e =
    let before = so_far.same options e in
    let next = then-options (given, value) (options_of (drop size (drop at words))) before.0 (sym front ∙ before.1) in
    sym (before.2 ∙ (ap (given_value name) (sym next.2) ∙ given-same name given value next.0 same))

pub passed-end : (words : List Text) (name : Text) (from at : ℕ) → HasPassed words name from at
    → options_of (drop at words) ≡ Some [] → (options : Given) → options_of (drop from words) ≡ Some options
    → None ≡ given_value name options
passed-end words name from at so_far end options e =
    let before = so_far.same options e in
    let nothing : [] ≡ before.0 = same_Some [] before.0 (sym end ∙ before.1) in
    sym (before.2 ∙ ap (given_value name) (sym nothing))

pub passed-broken : (words : List Text) (name : Text) (from at : ℕ) → HasPassed words name from at
    → options_of (drop at words) ≡ None → (options : Given) → options_of (drop from words) ≡ Some options
    → None ≡ given_value name options
passed-broken words name from at so_far broken options e =
    let before = so_far.same options e in
    absurd (none-some before.0 (sym broken ∙ before.1))

-- The rules, option by option.

given-none : (name : Text) (options : Given)
    → is_none (given_value name options) ≡ not (is_among (map (λ (o : Text × Text). o.0) options) name)
given-none name [] = refl
given-none name (option ∷ options) = by_test (cases_Bool (bytes_eq option.0 name)) (given-none name options)
  where
    by_test : (bytes_eq option.0 name ≡ true) ⊎ (bytes_eq option.0 name ≡ false)
        → is_none (given_value name options) ≡ not (is_among (map (λ (o : Text × Text). o.0) options) name)
        → is_none (given_value name (option ∷ options))
        ≡ not (is_among (map (λ (o : Text × Text). o.0) (option ∷ options)) name)
    by_test (inl same) later = rw (same, eq_swapped option.0 name true (sym same)) refl
    by_test (inr other) later = rw (other, eq_swapped option.0 name false (sym other)) later

rearranged : (a b c d : Bool) → ((a && b) && (c && d)) ≡ ((a && c) && (b && d))
rearranged true true c d = refl
rearranged true false true d = refl
rearranged true false false d = refl
rearranged false b c d = refl

keep-first : (names : List Text) (name value : Text) (options : Given)
    → keep_names names ((name, value) ∷ options)
    ≡ ((is_among names name && is_value value && is_none (given_value name options)) && keep_names names options)
keep-first names name value options =
    rw (given-none name options)
    (rearranged (is_among names name && is_value value)
    (list_all (λ (o : Text × Text). is_among names o.0 && is_value o.1) options)
    (not (is_among (map (λ (o : Text × Text). o.0) options) name)) (are_distinct options))

pub keep-next : (names : List Text) (name value : Text) (more : Option Given) (right : Bool)
    → ((os : Given) → more ≡ Some os → right ≡ (is_among names name && is_value value && is_none (given_value name os)))
    → right ≡ true → kept_options names (and_then_options (name, value) more) ≡ kept_options names more
keep-next names name value None right told good = refl
keep-next names name value (Some os) right told good =
    keep-first names name value os ∙ rw (sym (told os refl) ∙ good) refl

pub keep-wrong : (names : List Text) (name value : Text) (more : Option Given) (right : Bool)
    → ((os : Given) → more ≡ Some os → right ≡ (is_among names name && is_value value && is_none (given_value name os)))
    → right ≡ false → kept_options names (and_then_options (name, value) more) ≡ false
keep-wrong names name value None right told bad = refl
keep-wrong names name value (Some os) right told bad =
    keep-first names name value os ∙ rw (sym (told os refl) ∙ bad) refl

-- The value of an option, where the words are options.
pub value-of : (words : List Text) (name : Text) (r : Option Text) → is_some (options_of words) ≡ true
    → ((options : Given) → options_of words ≡ Some options → r ≡ given_value name options) → r ≡ word_of words name
unfolding word_of
value-of words name r some told = by_options (options_of words) refl some
  where
    by_options : (o : Option Given) → options_of words ≡ o → is_some o ≡ true → r ≡ option_and_then (given_value name) o
    by_options None e some = absurd (true≢false (sym some))
    by_options (Some options) e some = told options e

-- the words are kept as far as the front tells
pub keep-start : (names words : List Text) → words_keep names words ≡ kept_options names (options_of words)
unfolding words_keep
keep-start names words = refl

-- The same of the words from a place on.

pub keep-more : (names words : List Text) (name value : Text) (at size : ℕ) (right : Bool)
    → options_of (drop at words) ≡ and_then_options (name, value) (options_of (drop size (drop at words)))
    → ((os : Given) → options_of (drop (at + size) words) ≡ Some os
    → right ≡ (is_among names name && is_value value && is_none (given_value name os)))
    → right ≡ true → kept_options names (options_of (drop at words))
    ≡ kept_options names (options_of (drop (at + size) words))
keep-more names words name value at size right front told good =
    ap (kept_options names) (options-next words at size (name, value) front)
    ∙ keep-next names name value (options_of (drop (at + size) words)) right told good

pub keep-not : (names words : List Text) (name value : Text) (at size : ℕ) (right : Bool)
    → options_of (drop at words) ≡ and_then_options (name, value) (options_of (drop size (drop at words)))
    → ((os : Given) → options_of (drop (at + size) words) ≡ Some os
    → right ≡ (is_among names name && is_value value && is_none (given_value name os)))
    → right ≡ false → kept_options names (options_of (drop at words)) ≡ false
keep-not names words name value at size right front told bad =
    ap (kept_options names) (options-next words at size (name, value) front)
    ∙ keep-wrong names name value (options_of (drop (at + size) words)) right told bad
