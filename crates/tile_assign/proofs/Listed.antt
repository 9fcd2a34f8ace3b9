-- Intervals that are read one after another.
use Rattle.std.proofs.Common.{◌≡◌, ◌⊎◌, ℕ, suc, ◌≤◌, ◌<◌, List, [], ◌∷◌, ◌++◌, length, get_or, refl, sym, ap, ◌∙◌}
use Rattle.std.proofs.Common.{inl, inr, true, false, Bool, Option, Some, None, arith, length-append, append_assoc}
use Rattle.std.specs.Prelude.{nat_le, nat_eq, option_map, option_and_then, ◌&&◌, ◌==◌, zip, drop}
use Rattle.std.specs.List.{slice_split, list_all}
use Rattle.std.proofs.lemmas.Bool.{lt-leb, leb-true, and_parts, and_right}
use Rattle.std.proofs.lemmas.Option.{none-some, same_Some, cond_some}
use Rattle.mf_base.specs.declared.tile.Interval.{Interval}
use Rattle.mf_base.specs.Texts.{Text, cut}
use Rattle.mf_base.specs.PlaceWords.{comma}
use Rattle.mf_base.specs.Ranges.{within_numbers}
use Rattle.mf_base.specs.Numbers.{digits_up_to, number_in, zoom_number}
use Rattle.mf_base.proofs.WordReading.{pieces-first, pieces-last}
use Rattle.map_model.specs.Intervals.{are_intervals}
use Rattle.map_model.specs.IntervalWords.{read_interval, read_each_text, kept_intervals, read_intervals}
use Rattle.tile_assign.specs.ListedIntervals.{told_intervals}

-- intervals before those of a text
abbrev pub before : List Interval → Option (List Interval) → Option (List Interval)
before all more = option_map (λ (is : List Interval). all ++ is) more

-- these were read of the front of a text, and the rest is left
pub record HasRead (text rest : Text) (all : List Interval) : Type 0 where
  pub few : length all ≤ 8
  pub same : told_intervals text ≡ before all (told_intervals rest)

nothing_before : (o : Option (List Interval)) → o ≡ before [] o
nothing_before None = refl
nothing_before (Some is) = refl

pub read-none : (text : Text) → HasRead text text []
read-none text = record { few = omega arith; same = nothing_before (told_intervals text) }

one_more : (all : List Interval) (i : Interval) (o : Option (List Interval))
    → before all (option_map (λ (is : List Interval). i ∷ is) o) ≡ before (all ++ i ∷ []) o
one_more all i None = refl
one_more all i (Some is) = ap (λ (x : List Interval). Some x) (sym (append_assoc all (i ∷ []) is))

told-first : (rest first more : Text) (i : Interval) → cut comma rest ≡ Some (first, more)
    → read_interval first ≡ Some i
    → told_intervals rest ≡ option_map (λ (is : List Interval). i ∷ is) (told_intervals more)
told-first rest first more i parts is = rw (pieces-first comma rest first more parts, is) refl

pub read-more : (text rest first more : Text) (all : List Interval) (i : Interval) → HasRead text rest all
    → Some (first, more) ≡ cut comma rest → read_interval first ≡ Some i → length (all ++ i ∷ []) ≤ 8
    → HasRead text more (all ++ i ∷ [])
read-more text rest first more all i so_far parts is few = record {
  few = few;
  same = so_far.same
      ∙ (ap (before all) (told-first rest first more i (sym parts) is) ∙ one_more all i (told_intervals more));
}

pub read-last : (text rest : Text) (all : List Interval) (i : Interval) → HasRead text rest all
    → None ≡ cut comma rest → read_interval rest ≡ Some i → told_intervals text ≡ Some (all ++ i ∷ [])
read-last text rest all i so_far last is = so_far.same ∙ rw (pieces-last comma rest (sym last), is) refl

-- ---- what is refused

-- the first text of some
some_first : (rest : Text) → (first : Text) × (more : List Text) × (slice_split (nat_eq comma) rest ≡ first ∷ more)
some_first rest = by_cut (cut comma rest) refl
  where
    by_cut : (o : Option (Text × Text)) → cut comma rest ≡ o
        → (first : Text) × (more : List Text) × (slice_split (nat_eq comma) rest ≡ first ∷ more)
    by_cut None is = (rest, [], pieces-last comma rest is)
    by_cut (Some p) is = (p.0, slice_split (nat_eq comma) p.1, pieces-first comma rest p.0 p.1 is)

then-some : (first : Text) (more : List Text) (is : List Interval)
    → read_each_text read_interval (first ∷ more) ≡ Some is → 1 ≤ length is
then-some first more is e = by_first (read_interval first) refl
  where
    by_more : (i : Interval) (o : Option (List Interval)) → option_map (λ (is : List Interval). i ∷ is) o ≡ Some is
        → 1 ≤ length is
    by_more i None e = absurd (none-some is e)
    by_more i (Some others) e = omega (arith, ap (λ (x : List Interval). length x) (same_Some (i ∷ others) is e))

    by_first : (o : Option Interval) → read_interval first ≡ o → 1 ≤ length is
    by_first None none = absurd (none-some is (rw none at e))
    by_first (Some i) some = by_more i (read_each_text read_interval more) (rw some at e)

not_all : (rest : Text) (is : List Interval) → told_intervals rest ≡ Some is → 1 ≤ length is
not_all rest is e = let pieces = some_first rest in then-some pieces.0 pieces.1 is (rw pieces.2 at e)

before-some : (all : List Interval) (o : Option (List Interval)) (found : List Interval) → before all o ≡ Some found
    → (is : List Interval) × (o ≡ Some is) × (all ++ is ≡ found)
before-some all None found e = absurd (none-some found e)
before-some all (Some is) found e = (is, refl, same_Some (all ++ is) found e)

-- no room for one more
full : (text rest : Text) (all : List Interval) → HasRead text rest all → length all ≡ 8 → (found : List Interval)
    → told_intervals text ≡ Some found → 8 < length found
full text rest all so_far eight found e =
    let parts = before-some all (told_intervals rest) found (sym so_far.same ∙ e) in
    let some = not_all rest parts.0 parts.1 in
    omega (arith, eight, some, ap (λ (x : List Interval). length x) parts.2, length-append all parts.0)

-- no interval
none : (text rest : Text) (all : List Interval) → HasRead text rest all → told_intervals rest ≡ None
    → (found : List Interval) → told_intervals text ≡ Some found → 8 < length found
none text rest all so_far nothing found e = absurd (none-some found (sym (so_far.same ∙ ap (before all) nothing) ∙ e))

first-none : (rest first more : Text) → cut comma rest ≡ Some (first, more) → read_interval first ≡ None
    → told_intervals rest ≡ None
first-none rest first more parts nothing = rw (pieces-first comma rest first more parts, nothing) refl

last-none : (rest : Text) → cut comma rest ≡ None → read_interval rest ≡ None → told_intervals rest ≡ None
last-none rest last nothing = rw (pieces-last comma rest last, nothing) refl

pub refused-more : (text rest first more : Text) (all : List Interval) → HasRead text rest all
    → Some (first, more) ≡ cut comma rest → (read_interval first ≡ None) ⊎ (length all ≡ 8)
    → (found : List Interval) → told_intervals text ≡ Some found → 8 < length found
refused-more text rest first more all so_far parts (inl nothing) =
    none text rest all so_far (first-none rest first more (sym parts) nothing)
refused-more text rest first more all so_far parts (inr eight) = full text rest all so_far eight

pub refused-last : (text rest : Text) (all : List Interval) → HasRead text rest all → None ≡ cut comma rest
    → (read_interval rest ≡ None) ⊎ (length all ≡ 8)
    → (found : List Interval) → told_intervals text ≡ Some found → 8 < length found
refused-last text rest all so_far last (inl nothing) = none text rest all so_far (last-none rest (sym last) nothing)
refused-last text rest all so_far last (inr eight) = full text rest all so_far eight

-- ---- whether they are those of a map

many : (all : List Interval) → 8 < length all → are_intervals all ≡ false
many all over = rw (lt-leb (length all) 8 over, and_right (nat_le 1 (length all)) false refl) refl

pub refused-list : (text : Text) → ((found : List Interval) → told_intervals text ≡ Some found → 8 < length found)
    → None ≡ read_intervals text
unfolding read_intervals
refused-list text over = by_told (told_intervals text) refl
  where
    by_told : (o : Option (List Interval)) → told_intervals text ≡ o → None ≡ option_and_then kept_intervals o
    by_told None is = refl
    by_told (Some found) is = rw (many found (over found is)) refl

pub kept-list : (text : Text) (all : List Interval) → told_intervals text ≡ Some all → are_intervals all ≡ true
    → Some all ≡ read_intervals text
unfolding read_intervals
kept-list text all is good = rw (is, good) refl

pub wrong-list : (text : Text) (all : List Interval) → told_intervals text ≡ Some all → are_intervals all ≡ false
    → None ≡ read_intervals text
unfolding read_intervals
wrong-list text all is bad = rw (is, bad) refl

-- ---- one after another

-- whether an interval goes on from another
abbrev pub goes_on : Interval × Interval → Bool
goes_on at = at.1.min == suc at.0.max

pub follow-short : (all : List Interval) → length all < 2 → true ≡ list_all goes_on (zip all (drop 1 all))
follow-short [] short = refl
follow-short (a ∷ []) short = refl
follow-short (a ∷ b ∷ all) short = absurd (omega (arith, short))

pub follow-more : (all : List Interval) (first second : Interval) → 2 ≤ length all → first ≡ get_or all 0 first
    → second ≡ get_or all 1 second
    → list_all goes_on (zip all (drop 1 all))
    ≡ ((second.min == suc first.max) && list_all goes_on (zip (drop 1 all) (drop 1 (drop 1 all))))
follow-more [] first second some one two = absurd (omega (arith, some))
follow-more (a ∷ []) first second some one two = absurd (omega (arith, some))
follow-more (a ∷ b ∷ all) first second some one two = rw (one, two) refl

-- a zoom level fits a byte
within-most : (o : Option ℕ) (n : ℕ) → option_and_then (within_numbers 0 21) o ≡ Some n → n ≤ 21
within-most None n e = absurd (none-some n e)
within-most (Some m) n e =
    let kept = cond_some (nat_le 0 m && nat_le m 21) m n e in
    let bound = leb-true m 21 (and_parts (nat_le 0 m) (nat_le m 21) kept.0).1 in
    omega (arith, bound, kept.1)

pub level-most : (text : Text) (n : ℕ) → Some n ≡ zoom_number text → n ≤ 21
unfolding number_in
level-most text n e = within-most (digits_up_to 20 text) n (sym e)
