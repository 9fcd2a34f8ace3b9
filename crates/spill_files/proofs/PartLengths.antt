-- The lengths of parts by their numbers.
use Rattle.std.proofs.Common.{◌≡◌, ◌≢◌, ℕ, zero, suc, ◌+◌, ◌<◌, List, [], ◌∷◌, ◌++◌, length, set, refl, ap}
use Rattle.std.proofs.Common.{Option, Some, None, cond, arith}
use Rattle.std.specs.Prelude.{is_some, IsSome}
use Rattle.std.proofs.lemmas.List.{get_or-set_same, get_or-set_other}
use Rattle.std.proofs.lemmas.List.Sums.{sum_by-set, sum_by-append}
use Rattle.spill_files.specs.FolderStore.{length_in, part_count, IsMadeIn, IsGoneFrom, IsSetIn}

pub within : (lengths : List (Option ℕ)) (part : ℕ) → IsSome (length_in lengths part) → part < length lengths
within [] part some = cc
within (p ∷ lengths) zero some = omega arith
within (p ∷ lengths) (suc part) some = omega (arith, within lengths part some)

counted : (p : Option ℕ) → IsSome p → ◌≡◌ {A = ℕ} (cond (is_some p) 1 0) 1
counted (Some b) some = refl
counted None some = cc

not_counted : (p : Option ℕ) → p ≡ None → ◌≡◌ {A = ℕ} (cond (is_some p) 1 0) 0
not_counted p none = rw none refl

recount : (lengths : List (Option ℕ)) (part : ℕ) (now : Option ℕ) → part < length lengths
    → part_count (set lengths part now) + cond (is_some (length_in lengths part)) 1 0
    ≡ part_count lengths + cond (is_some now) 1 0
recount lengths part now within = sum_by-set (λ p. cond (is_some p) 1 0) lengths part now None within

pub set_in : (lengths : List (Option ℕ)) (part size : ℕ) → IsSome (length_in lengths part)
    → IsSetIn part size lengths (set lengths part (Some size))
set_in lengths part size some =
    let in_list = within lengths part some in
    let many = recount lengths part (Some size) in_list in
    record {
      now = get_or-set_same lengths part (Some size) None in_list;
      count = omega (arith, many, counted (length_in lengths part) some);
      others = λ q differs. get_or-set_other lengths part q (Some size) None differs;
    }

pub gone_from : (lengths : List (Option ℕ)) (part : ℕ) → IsSome (length_in lengths part)
    → IsGoneFrom part lengths (set lengths part None)
gone_from lengths part some =
    let in_list = within lengths part some in
    let many = recount lengths part None in_list in
    record {
      gone = get_or-set_same lengths part None None in_list;
      count = omega (arith, many, counted (length_in lengths part) some);
      others = λ q differs. get_or-set_other lengths part q None None differs;
    }

pub made_in : (lengths : List (Option ℕ)) (part : ℕ) → length_in lengths part ≡ None → part < length lengths
    → IsMadeIn part lengths (set lengths part (Some 0))
made_in lengths part none in_list =
    let many = recount lengths part (Some 0) in_list in
    record {
      fresh = none;
      empty = get_or-set_same lengths part (Some 0) None in_list;
      count = omega (arith, many, not_counted (length_in lengths part) none);
      others = λ q differs. get_or-set_other lengths part q (Some 0) None differs;
    }

pub made_behind : (lengths : List (Option ℕ)) (part : ℕ) → length_in lengths part ≡ None → part ≡ length lengths
    → IsMadeIn part lengths (lengths ++ Some 0 ∷ [])
made_behind lengths part none last = rw last (record {
  fresh = rw (← last) none;
  empty = at_end lengths (Some 0);
  count = sum_by-append (λ p. cond (is_some p) 1 0) lengths (Some 0 ∷ []);
  others = before lengths (Some 0);
})
  where
    at_end : (lengths : List (Option ℕ)) (p : Option ℕ) → length_in (lengths ++ p ∷ []) (length lengths) ≡ p
    at_end [] p = refl
    at_end (first ∷ lengths) p = at_end lengths p

    before : (lengths : List (Option ℕ)) (p : Option ℕ) (q : ℕ) → q ≢ length lengths
        → length_in (lengths ++ p ∷ []) q ≡ length_in lengths q
    before [] p zero differs = absurd (differs refl)
    before [] p (suc q) differs = refl
    before (first ∷ lengths) p zero differs = refl
    before (first ∷ lengths) p (suc q) differs = before lengths p q (λ e. differs (ap suc e))

pub ruleset kept_lengths = (within, set_in, gone_from, made_in, made_behind)
