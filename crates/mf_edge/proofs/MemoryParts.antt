-- Parts in memory, as lists of bytes.
use Rattle.std.proofs.Common.{◌≡◌, ◌≢◌, ℕ, zero, suc, ◌+◌, ◌<◌, List, [], ◌∷◌, ◌++◌, length, set, refl, sym, ap, ◌∙◌}
use Rattle.std.proofs.Common.{Option, Some, None, get_or, cond, arith}
use Rattle.std.specs.Prelude.{Vec, option_map, is_some, IsSome, unwrap_or, count_by}
use Rattle.std.proofs.Math.ListN.{get_or-map}
use Rattle.std.proofs.lemmas.List.{get_or_default, get_or-set_same, get_or-set_other, map-set, map-append, length-map}
use Rattle.std.proofs.lemmas.List.Sums.{sum_by-cons, sum_by-set, sum_by-append}
use Rattle.mf_edge.specs.MemoryStore.{bytes_in, held, held_count, IsMadeIn, IsGoneFrom, IsSetIn}

pub held-in : {Z : Type 0} (parts : List (Option (Vec ℕ Z))) (q : ℕ)
    → held (bytes_in parts) q ≡ option_map (λ v. v.items) (get_or parts q None)
held-in parts q = get_or-map (option_map (λ v. v.items)) parts q None

pub count-in : {Z : Type 0} (parts : List (Option (Vec ℕ Z))) → held_count (bytes_in parts) ≡ count_by is_some parts
count-in [] = refl
count-in (part ∷ parts) =
    sum_by-cons (λ p. cond (is_some p) 1 0) (option_map (λ v. v.items) part) (bytes_in parts)
    ∙ ap (λ n. n + held_count (bytes_in parts)) (same part)
    ∙ ap (λ n. cond (is_some part) 1 0 + n) (count-in parts)
    ∙ sym (sum_by-cons (λ p. cond (is_some p) 1 0) part parts)
  where
    same : {Z : Type 0} (part : Option (Vec ℕ Z))
        → ◌≡◌ {A = ℕ} (cond (is_some (option_map (λ v. v.items) part)) 1 0) (cond (is_some part) 1 0)
    same (Some v) = refl
    same None = refl

pub ruleset parts_in = (held-in, count-in)

-- ---- parts that are written

within : (parts : List (Option (List ℕ))) (part : ℕ) → IsSome (held parts part) → part < length parts
within [] part some = cc
within (p ∷ parts) zero some = omega arith
within (p ∷ parts) (suc part) some = omega (arith, within parts part some)

counted : (p : Option (List ℕ)) → IsSome p → ◌≡◌ {A = ℕ} (cond (is_some p) 1 0) 1
counted (Some b) some = refl
counted None some = cc

pub unwrapped : (p : Option (List ℕ)) → IsSome p → p ≡ Some (unwrap_or p [])
unwrapped (Some b) some = refl
unwrapped None some = cc

not_counted : (p : Option (List ℕ)) → p ≡ None → ◌≡◌ {A = ℕ} (cond (is_some p) 1 0) 0
not_counted p none = rw none refl

recount : (parts : List (Option (List ℕ))) (part : ℕ) (now : Option (List ℕ)) → part < length parts
    → held_count (set parts part now) + cond (is_some (held parts part)) 1 0 ≡ held_count parts + cond (is_some now) 1 0
recount parts part now within = sum_by-set (λ p. cond (is_some p) 1 0) parts part now None within

pub set_in : (parts : List (Option (List ℕ))) (part : ℕ) (bytes : List ℕ) → IsSome (held parts part)
    → IsSetIn part bytes parts (set parts part (Some bytes))
set_in parts part bytes some =
    let in_list = within parts part some in
    let many = recount parts part (Some bytes) in_list in
    record {
      now = get_or-set_same parts part (Some bytes) None in_list;
      count = omega (arith, many, counted (held parts part) some);
      others = λ q differs. get_or-set_other parts part q (Some bytes) None differs;
    }

pub gone_from : (parts : List (Option (List ℕ))) (part : ℕ) → IsSome (held parts part)
    → IsGoneFrom part parts (set parts part None)
gone_from parts part some =
    let in_list = within parts part some in
    let many = recount parts part None in_list in
    record {
      gone = get_or-set_same parts part None None in_list;
      count = omega (arith, many, counted (held parts part) some);
      others = λ q differs. get_or-set_other parts part q None None differs;
    }

pub made_in : (parts : List (Option (List ℕ))) (part : ℕ) → held parts part ≡ None → part < length parts
    → IsMadeIn part parts (set parts part (Some []))
made_in parts part none in_list =
    let many = recount parts part (Some []) in_list in
    record {
      fresh = none;
      empty = get_or-set_same parts part (Some []) None in_list;
      count = omega (arith, many, not_counted (held parts part) none);
      others = λ q differs. get_or-set_other parts part q (Some []) None differs;
    }

pub made_behind : (parts : List (Option (List ℕ))) (part : ℕ) → held parts part ≡ None → part ≡ length parts
    → IsMadeIn part parts (parts ++ Some [] ∷ [])
made_behind parts part none last = rw last (record {
  fresh = rw (← last) none;
  empty = at_end parts (Some []);
  count = sum_by-append (λ p. cond (is_some p) 1 0) parts (Some [] ∷ []);
  others = before parts (Some []);
})
  where
    at_end : (parts : List (Option (List ℕ))) (p : Option (List ℕ)) → held (parts ++ p ∷ []) (length parts) ≡ p
    at_end [] p = refl
    at_end (first ∷ parts) p = at_end parts p

    before : (parts : List (Option (List ℕ))) (p : Option (List ℕ)) (q : ℕ) → q ≢ length parts
        → held (parts ++ p ∷ []) q ≡ held parts q
    before [] p zero differs = absurd (differs refl)
    before [] p (suc q) differs = refl
    before (first ∷ parts) p zero differs = refl
    before (first ∷ parts) p (suc q) differs = before parts p q (λ e. differs (ap suc e))

-- ---- the same of parts in memory

module _ {Z : Type 0} (before : List (Option (List ℕ))) (parts : List (Option (Vec ℕ Z)))
    (seen : before ≡ bytes_in parts) (part : ℕ) where
  written : (now : Option (Vec ℕ Z)) → bytes_in (set parts part now) ≡ set before part (option_map (λ v. v.items) now)
  written now = map-set (option_map (λ v. v.items)) parts part now
      ∙ ap (λ all. set all part (option_map (λ v. v.items) now)) (sym seen)

  pub set_of : (now : Option (Vec ℕ Z)) (bytes : List ℕ) → option_map (λ v. v.items) now ≡ Some bytes
      → IsSome (held before part) → IsSetIn part bytes before (bytes_in (set parts part now))
  set_of now bytes is some = rw (written now, is) (set_in before part bytes some)

  pub gone_of : IsSome (held before part) → IsGoneFrom part before (bytes_in (set parts part None))
  gone_of some = rw (written None) (gone_from before part some)

  pub made_of : (v : Vec ℕ Z) → v.items ≡ [] → held before part ≡ None → part < length parts
      → IsMadeIn part before (bytes_in (set parts part (Some v)))
  made_of v empty none in_list =
      rw (written (Some v), empty)
      (made_in before part none (rw (seen, length-map parts (option_map (λ (v : Vec ℕ Z). v.items))) in_list))

  pub pushed_of : (v : Vec ℕ Z) → v.items ≡ [] → held before part ≡ None → part ≡ length parts
      → IsMadeIn part before (bytes_in (parts ++ Some v ∷ []))
  pushed_of v empty none last =
      let more : bytes_in (parts ++ Some v ∷ []) ≡ before ++ Some v.items ∷ [] =
      map-append (option_map (λ v. v.items)) parts (Some v ∷ [])
      ∙ ap (λ all. all ++ Some v.items ∷ []) (sym seen) in
      rw (more, empty)
      (made_behind before part none (last ∙ sym (length-map parts (option_map (λ (v : Vec ℕ Z). v.items)))
      ∙ ap length (sym seen)))

  -- the bytes of a part that is read
  pub part_of : (was : Option (Vec ℕ Z)) → was ≡ get_or parts part was → IsSome (held before part)
      → option_map (λ v. v.items) was ≡ held before part
  part_of was is some =
      let in_list : part < length parts =
      rw (← length-map parts (option_map (λ (v : Vec ℕ Z). v.items)), ← seen) (within before part some) in
      ap (option_map (λ v. v.items)) (is ∙ get_or_default parts part was None in_list) ∙ sym (held-in parts part)
      ∙ ap (λ all. held all part) (sym seen)
