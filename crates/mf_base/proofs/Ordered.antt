-- Rows have one ordered list, and it is `ascending`.
use Rattle.std.proofs.Common.{◌≡◌, ◌⊎◌, ℕ, ◌+◌, ◌<◌, List, [], ◌∷◌, true, false, cond, not, refl, sym, ap, ◌∙◌, subst}
use Rattle.std.proofs.Common.{inl, inr, arith, IsTrue, true≢false, Ordering, Less, Equal, Greater, is_lt}
use Rattle.std.specs.Prelude.{bytes_eq}
use Rattle.std.specs.Ordering.{ordering_reverse}
use Rattle.std.specs.Cmp.Lexicographic.{nat_list_cmp_total}
use Rattle.std.proofs.lemmas.Map.Lookups.{exact_bytes}
use Rattle.std.proofs.lemmas.Bool.{cases_Bool}
use Rattle.std.proofs.lemmas.List.Sums.{sum_by-cons}
use lib.Pointwise.{bytes_decides}
use Rattle.mf_base.specs.Ascending.{Bytes, byte_order, is_below, times, Ascends, IsAscendingOf, put_in, ascending}

AtMost : Bytes → Bytes → Type 0
AtMost a b = IsTrue (not (is_below b a))

is_less : (r : Ordering) → is_lt r ≡ true → r ≡ Less
is_less Less e = refl
is_less Equal e = absurd (true≢false (sym e))
is_less Greater e = absurd (true≢false (sym e))

reversed : (a b : Bytes) → byte_order a b ≡ Less → byte_order b a ≡ Greater
reversed a b e = nat_list_cmp_total.antisymm b a ∙ ap ordering_reverse e

-- a smaller row is not above
below-AtMost : (a b : Bytes) → is_below a b ≡ true → AtMost a b
unfolding AtMost
below-AtMost a b e = ap (λ r. not (is_lt r)) (reversed a b (is_less (byte_order a b) e))

AtMost-trans : (a b c : Bytes) → AtMost a b → AtMost b c → AtMost a c
unfolding AtMost
AtMost-trans a b c ab bc = by_third (byte_order c a) refl
  where
    by_second : byte_order c a ≡ Less → (r : Ordering) → byte_order b a ≡ r → IsTrue (not (is_lt r))
        → IsTrue (not (is_lt (byte_order c a)))
    by_second less Less e h = absurd (true≢false (sym h))
    by_second less Equal e h =
        let same : byte_order b c ≡ Greater = nat_list_cmp_total.congr b a c e ∙ reversed c a less in
        let back : byte_order c b ≡ Less = nat_list_cmp_total.antisymm c b ∙ ap ordering_reverse same in
        absurd (true≢false (sym (ap (λ r. not (is_lt r)) (sym back) ∙ bc)))
    by_second less Greater e h =
        let up : byte_order a b ≡ Less = nat_list_cmp_total.antisymm a b ∙ ap ordering_reverse e in
        absurd (true≢false (sym (ap (λ r. not (is_lt r)) (sym (nat_list_cmp_total.trans c a b less up)) ∙ bc)))

    by_third : (r : Ordering) → byte_order c a ≡ r → IsTrue (not (is_lt (byte_order c a)))
    by_third Less e = by_second e (byte_order b a) refl ab
    by_third Equal e = ap (λ r. not (is_lt r)) e
    by_third Greater e = ap (λ r. not (is_lt r)) e

AtMost-both : (a b : Bytes) → AtMost a b → AtMost b a → a ≡ b
unfolding AtMost
AtMost-both a b ab ba = by_order (byte_order a b) refl ba
  where
    by_order : (r : Ordering) → byte_order a b ≡ r → IsTrue (not (is_lt r)) → a ≡ b
    by_order Less e h = absurd (true≢false (sym h))
    by_order Equal e h = exact_bytes a b e
    by_order Greater e h =
        let back : byte_order b a ≡ Less = nat_list_cmp_total.antisymm b a ∙ ap ordering_reverse e in
        absurd (true≢false (sym (ap (λ r. not (is_lt r)) (sym back) ∙ ab)))

-- How often a row stands.

one : Bytes → Bytes → ℕ
one x row = cond (bytes_eq x row) 1 0

times-cons : (x row : Bytes) (rows : List Bytes) → times x (row ∷ rows) ≡ one x row + times x rows
unfolding one
times-cons x row rows = sum_by-cons (λ y. cond (bytes_eq x y) 1 0) row rows

one-same : (x : Bytes) → one x x ≡ 1
unfolding one
one-same x = ap (λ b. cond b 1 0) ((bytes_decides x x).1 refl)

one-cases : (x row : Bytes) → (x ≡ row) ⊎ (one x row ≡ 0)
unfolding one
one-cases x row =
    elim (cases_Bool (bytes_eq x row)) [
      | inl same ↦ inl ((bytes_decides x row).0 same)
      | inr apart ↦ inr (ap (λ b. cond b 1 0) apart)
    ]

-- the first of an ascending list is at most each other
first-least : (a : Bytes) (rows : List Bytes) → Ascends (a ∷ rows) → (x : Bytes) → 0 < times x rows → AtMost a x
unfolding AtMost
first-least a [] h x some = absurd (omega arith)
first-least a (b ∷ rows) h x some = by_place (one-cases x b) (first-least b rows h.1 x)
  where
    by_place : (x ≡ b) ⊎ (one x b ≡ 0) → (0 < times x rows → AtMost b x) → AtMost a x
    by_place (inl same) later = subst (λ y. IsTrue (not (is_below y a))) (sym same) h.0
    by_place (inr apart) later = let counted =
        times-cons x b rows in AtMost-trans a b x h.0 (later (omega (arith, counted, apart, some)))

tail-ascends : (a : Bytes) (rows : List Bytes) → Ascends (a ∷ rows) → Ascends rows
tail-ascends a [] h = tt
tail-ascends a (b ∷ rows) h = h.1

pub ascends-only : (xs ys : List Bytes) → Ascends xs → Ascends ys → ((row : Bytes) → times row xs ≡ times row ys)
    → xs ≡ ys
ascends-only [] [] ax ay same = refl
ascends-only [] (b ∷ ys) ax ay same = let s = same b in let c = times-cons b b ys in let o =
    one-same b in absurd (omega (arith, s, c, o))
ascends-only (a ∷ xs) [] ax ay same = let s = same a in let c = times-cons a a xs in let o =
    one-same a in absurd (omega (arith, s, c, o))
ascends-only (a ∷ xs) (b ∷ ys) ax ay same =
    let first = heads (one-cases b a) (one-cases a b) in
    ap (λ row. row ∷ xs) first
    ∙ ap (λ (rows : List Bytes). b ∷ rows) (ascends-only xs ys (tail-ascends a xs ax) (tail-ascends b ys ay)
    (tails first))
  where
    heads : (b ≡ a) ⊎ (one b a ≡ 0) → (a ≡ b) ⊎ (one a b ≡ 0) → a ≡ b
    heads (inl e) other = sym e
    heads (inr no_b) (inl e) = e
    heads (inr no_b) (inr no_a) =
        let sb = same b in let sa = same a in
        let ba = times-cons b a xs in let bb = times-cons b b ys in let ob = one-same b in
        let aa = times-cons a a xs in let ab = times-cons a b ys in let oa = one-same a in
        AtMost-both a b (first-least a xs ax b (omega (arith, sb, ba, bb, ob, no_b)))
        (first-least b ys ay a (omega (arith, sa, aa, ab, oa, no_a)))

    tails : a ≡ b → (row : Bytes) → times row xs ≡ times row ys
    tails e row =
        let s = same row in let cx = times-cons row a xs in let cy =
        times-cons row b ys in let o : one row a ≡ one row b = ap (one row) e in
        omega (arith, s, cx, cy, o)

-- `ascending` is one.

pub put_in-below : (row first : Bytes) (rows : List Bytes) → is_below first row ≡ true
    → put_in row (first ∷ rows) ≡ first ∷ put_in row rows
put_in-below row first rows e = rw e refl

pub put_in-here : (row first : Bytes) (rows : List Bytes) → is_below first row ≡ false
    → put_in row (first ∷ rows) ≡ row ∷ first ∷ rows
put_in-here row first rows e = rw e refl

not_below : (a b : Bytes) → is_below b a ≡ false → AtMost a b
unfolding AtMost
not_below a b e = ap not e

AtMost-is : (a b : Bytes) → AtMost a b → IsTrue (not (is_below b a))
unfolding AtMost
AtMost-is a b h = h

front-ascends : (a row : Bytes) (rows : List Bytes) → AtMost a row → Ascends (a ∷ rows) → Ascends (a ∷ put_in row rows)
front-ascends a row [] le h = (AtMost-is a row le, tt)
front-ascends a row (b ∷ rows) le h =
    by_order (cases_Bool (is_below b row)) (λ e. front-ascends b row rows (below-AtMost b row e) h.1)
  where
    by_order : (is_below b row ≡ true) ⊎ (is_below b row ≡ false)
        → (is_below b row ≡ true → Ascends (b ∷ put_in row rows)) → Ascends (a ∷ put_in row (b ∷ rows))
    by_order (inl e) later =
        subst (λ (all : List Bytes). Ascends (a ∷ all)) (sym (put_in-below row b rows e)) (h.0, later e)
    by_order (inr e) later =
        subst (λ (all : List Bytes). Ascends (a ∷ all)) (sym (put_in-here row b rows e)) (
          AtMost-is a row le,
          (AtMost-is row b (not_below row b e), h.1),
        )

put_in-ascends : (row : Bytes) (rows : List Bytes) → Ascends rows → Ascends (put_in row rows)
put_in-ascends row [] h = tt
put_in-ascends row (b ∷ rows) h = by_order (cases_Bool (is_below b row))
  where
    by_order : (is_below b row ≡ true) ⊎ (is_below b row ≡ false) → Ascends (put_in row (b ∷ rows))
    by_order (inl e) =
        subst Ascends (sym (put_in-below row b rows e)) (front-ascends b row rows (below-AtMost b row e) h)
    by_order (inr e) = subst Ascends (sym (put_in-here row b rows e)) (AtMost-is row b (not_below row b e), h)

times-put_in : (x row : Bytes) (rows : List Bytes) → times x (put_in row rows) ≡ one x row + times x rows
times-put_in x row [] = times-cons x row []
times-put_in x row (b ∷ rows) = by_order (cases_Bool (is_below b row)) (times-put_in x row rows)
  where
    by_order : (is_below b row ≡ true) ⊎ (is_below b row ≡ false) → times x (put_in row rows) ≡ one x row + times x rows
        → times x (put_in row (b ∷ rows)) ≡ one x row + times x (b ∷ rows)
    by_order (inl e) later = let l = times-cons x b (put_in row rows) in let r =
        times-cons x b rows in ap (times x) (put_in-below row b rows e) ∙ l ∙ omega (arith, later, r)
    by_order (inr e) later = ap (times x) (put_in-here row b rows e) ∙ times-cons x row (b ∷ rows)

pub ascending-is : (rows : List Bytes) → IsAscendingOf rows (ascending rows)
unfolding ascending
ascending-is [] = record { same = λ row. refl; ascends = tt }
ascending-is (row ∷ rows) =
    let rest = ascending-is rows in record {
      same = λ x. (let s = rest.same x in let c = times-cons x row rows in times-put_in x row (ascending rows)
          ∙ omega (arith, s, c));
      ascends = put_in-ascends row (ascending rows) rest.ascends;
    }

pub ascending-only : (rows ordered : List Bytes) → IsAscendingOf rows ordered → ordered ≡ ascending rows
ascending-only rows ordered h = let mine = ascending-is rows in
    ascends-only ordered (ascending rows) h.ascends mine.ascends (λ row. h.same row ∙ sym (mine.same row))
