-- What right words tell.
use Rattle.std.proofs.Common.{◌≡◌, ◌⊎◌, List, inl, inr, true, false, Bool, Option, Some, None, sym, refl, ◌∙◌}
use Rattle.std.proofs.Common.{true≢false, ◌∷◌, ◌≤◌, length}
use Rattle.std.proofs.lemmas.Bool.{cases_Bool, leb-true}
use Rattle.std.proofs.lemmas.Option.{none-some, same_Some}
use Rattle.std.specs.Prelude.{is_some, find, nat_le, drop, option_map}
use Rattle.std.specs.Option.{IsSome}
use Rattle.mf_base.specs.Texts.{Text}
use Rattle.mf_base.specs.Words.{Given, options_of, kept_options, words_keep}
use Rattle.job_words.specs.declared.usage_word.UsageWord.{UsageWord}
use Rattle.job_words.specs.declared.usage_word.UsageWord.TheVariants as which
use Rattle.job_words.specs.OptionTable.{options, option_names}
use Rattle.job_words.specs.Usage.{value_of, has_one_mapping, refuses, breaks, usage}

-- ---- words that keep the rules are options

kept-some : (names : List Text) (o : Option Given) → kept_options names o ≡ true → is_some o ≡ true
kept-some names None kept = absurd (true≢false (sym kept))
kept-some names (Some given) kept = refl

pub are-options : (names words : List Text) → true ≡ words_keep names words → is_some (options_of words) ≡ true
unfolding words_keep
are-options names words kept = kept-some names (options_of words) (sym kept)

-- ---- the order of the rules

pub usage-words : (words : List Text) → false ≡ words_keep option_names words → Some which.Words ≡ usage words
unfolding usage
usage-words words broken = rw (← broken) refl

pub usage-options : (words : List Text) (found : Option UsageWord) → true ≡ words_keep option_names words
    → found ≡ find (breaks words) options → found ≡ usage words
unfolding usage
usage-options words found kept is = rw (← kept) is

-- ---- one mapping

kept-words : (words : List Text) → usage words ≡ None → words_keep option_names words ≡ true
unfolding usage
kept-words words right = by_test (words_keep option_names words) refl
  where
    by_test : (kept : Bool) → words_keep option_names words ≡ kept → kept ≡ true
    by_test true e = refl
    by_test false e = absurd (none-some which.Words (sym right ∙ rw e refl))

none-broken : (words : List Text) → usage words ≡ None → find (breaks words) options ≡ None
unfolding usage
none-broken words right = rw (kept-words words right) at right

first-keeps : {A : Type 0} (p : A → Bool) (a : A) (more : List A) → find p (a ∷ more) ≡ None → p a ≡ false
first-keeps p a more none = by_test (p a) refl
  where
    by_test : (b : Bool) → p a ≡ b → p a ≡ false
    by_test true e = absurd (none-some a (sym none ∙ rw e refl))
    by_test false e = e

mapping-keeps : (words : List Text) → usage words ≡ None → breaks words which.Mapping ≡ false
mapping-keeps words right = first-keeps (breaks words) which.Mapping (drop 1 options) (none-broken words right)

one-mapping : (words : List Text) → usage words ≡ None → has_one_mapping words ≡ true
one-mapping words right = by_test (has_one_mapping words) refl
  where
    by_test : (one : Bool) → has_one_mapping words ≡ one → one ≡ true
    by_test true e = refl
    by_test false e = absurd (true≢false (rw e at (mapping-keeps words right)))

right-path : (words : List Text) → usage words ≡ None → refuses which.Mapping (value_of words which.Mapping) ≡ false
right-path words right = rw (one-mapping words right) at (mapping-keeps words right)

-- With `--poi` there is no `--mapping`.
pub poi-alone : (words : List Text) (word : Text) → usage words ≡ None → value_of words which.Poi ≡ Some word
    → value_of words which.Mapping ≡ None
poi-alone words word right poi = by_value (value_of words which.Mapping) refl
  where
    by_value : (o : Option Text) → value_of words which.Mapping ≡ o → o ≡ None
    by_value None e = refl
    by_value (Some name) e = absurd (true≢false (sym (rw (e, poi) at (one-mapping words right))))

-- Without `--poi` there is `--mapping`.
pub file-named : (words : List Text) → usage words ≡ None → value_of words which.Poi ≡ None
    → (name : Text) × (value_of words which.Mapping ≡ Some name) × (length name ≤ 4095)
file-named words right none = by_value (value_of words which.Mapping) refl
  where
    short : (name : Text) → refuses which.Mapping (Some name) ≡ false → length name ≤ 4095
    short name kept = by_length (cases_Bool (nat_le (length name) 4095))
      where
        by_length : (nat_le (length name) 4095 ≡ true) ⊎ (nat_le (length name) 4095 ≡ false) → length name ≤ 4095
        by_length (inl is) = leb-true (length name) 4095 is
        by_length (inr long) = absurd (true≢false (rw long at kept))

    by_value : (o : Option Text) → value_of words which.Mapping ≡ o
        → (name : Text) × (o ≡ Some name) × (length name ≤ 4095)
    by_value None e = absurd (true≢false (sym (rw (e, none) at (one-mapping words right))))
    by_value (Some name) e = (name, refl, short name (rw e at (right-path words right)))

-- ---- an option that is given

pub is-there : {A B : Type 0} (f : A → B) (o : Option A) (v : B) → option_map f o ≡ Some v → IsSome o
is-there f None v e = absurd (none-some v e)
is-there f (Some x) v e = search

pub is-value : {A B : Type 0} (f : A → B) (o : Option A) (x : A) (v : B) → o ≡ Some x → option_map f o ≡ Some v
    → f x ≡ v
is-value f o x v is e = same_Some (f x) v (sym (rw is refl) ∙ e)
