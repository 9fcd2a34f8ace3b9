-- The intervals with their sub-files, one after another.
use Rattle.std.proofs.Common.{◌≡◌, ℕ, zero, suc, ◌+◌, ◌<◌, ◌≤◌, List, [], ◌∷◌, ◌++◌, length, take, map, get_or}
use Rattle.std.proofs.Common.{refl, sym, ap, ◌∙◌, arith}
use Rattle.std.proofs.Common.{append_assoc, append-nil}
use Rattle.std.specs.Prelude.{flat_map, zip}
use Rattle.mf_base.specs.Buffer.{Buffer, AppendsTo}
use Rattle.mf_base.specs.declared.tile.Interval.{Interval}
use Rattle.map_model.specs.Header.{interval_bytes}
use Rattle.map_header.specs.declared.sub_file.SubFile.{SubFile}
use Rattle.map_header.specs.Shown.{sub_file_of}
use Rattle.map_header.proofs.Putting.{appends-both, appends-same, appends-none}

-- the bytes of the first i intervals
abbrev pub intervals_to : List Interval → List SubFile → ℕ → List ℕ
intervals_to intervals subs i = flat_map interval_bytes (take i (zip intervals (map sub_file_of subs)))

pub intervals-none : (b : Buffer) (intervals : List Interval) (subs : List SubFile)
    → AppendsTo b b (intervals_to intervals subs 0)
intervals-none b intervals subs = appends-none b

one_more : (xs : List Interval) (ys : List SubFile) (i : ℕ) (x : Interval) (y : SubFile) → i < length xs → i < length ys
    → intervals_to xs ys (i + 1) ≡ intervals_to xs ys i ++ interval_bytes (get_or xs i x, sub_file_of (get_or ys i y))
one_more [] ys i x y lt lt' = absurd (omega (arith, lt))
one_more (a ∷ xs) [] i x y lt lt' = absurd (omega (arith, lt'))
one_more (a ∷ xs) (b ∷ ys) zero x y lt lt' = append-nil (interval_bytes (a, sub_file_of b))
one_more (a ∷ xs) (b ∷ ys) (suc i) x y lt lt' =
    let rest = one_more xs ys i x y (omega (arith, lt)) (omega (arith, lt')) in
    ap (λ (j : ℕ). intervals_to (a ∷ xs) (b ∷ ys) j) {x = suc i + 1} {y = suc (i + 1)} (omega arith)
    ∙ ap (λ (l : List ℕ). interval_bytes (a, sub_file_of b) ++ l) rest
    ∙ sym (append_assoc (interval_bytes (a, sub_file_of b)) (intervals_to xs ys i)
    (interval_bytes (get_or xs i x, sub_file_of (get_or ys i y))))

pub intervals-more : (first now next : Buffer) (xs : List Interval) (ys : List SubFile) (i : ℕ) (x : Interval)
    (y : SubFile)
    → i < length xs → i < length ys → AppendsTo first now (intervals_to xs ys i)
    → AppendsTo now next (interval_bytes (get_or xs i x, sub_file_of (get_or ys i y)))
    → AppendsTo first next (intervals_to xs ys (i + 1))
intervals-more first now next xs ys i x y lt lt' before puts =
    appends-same first next _ _ (sym (one_more xs ys i x y lt lt')) (appends-both first now next _ _ before puts)

pub intervals-all : (first now : Buffer) (xs : List Interval) (ys : List SubFile) (i : ℕ) → length xs ≤ i
    → AppendsTo first now (intervals_to xs ys i)
    → AppendsTo first now (flat_map interval_bytes (zip xs (map sub_file_of ys)))
intervals-all first now xs ys i all puts = appends-same first now _ _ (whole xs ys i all) puts
  where
    whole : (xs : List Interval) (ys : List SubFile) (i : ℕ) → length xs ≤ i
        → intervals_to xs ys i ≡ flat_map interval_bytes (zip xs (map sub_file_of ys))
    whole [] ys zero le = refl
    whole [] ys (suc i) le = refl
    whole (x ∷ xs) [] zero le = refl
    whole (x ∷ xs) [] (suc i) le = refl
    whole (x ∷ xs) (y ∷ ys) zero le = absurd (omega (arith, le))
    whole (x ∷ xs) (y ∷ ys) (suc i) le =
        ap (λ (l : List ℕ). interval_bytes (x, sub_file_of y) ++ l) (whole xs ys i (omega (arith, le)))
