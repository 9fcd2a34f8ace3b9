-- The keys and values of dense nodes, pair by pair.
use Rattle.std.proofs.Common.{◌≡◌, ◌∙◌, ◌∷◌, ◌++◌, ◌&&◌, ◌<◌, ◌≤◌, ℕ, zero, suc, List, [], true}
use Rattle.std.proofs.Common.{Some, Result, Ok, Err, ap, refl, sym, subst, inl, length, arith, drop}
use Rattle.std.proofs.Common.{append_assoc, nat_lt, ◌⊎◌}
use Rattle.std.proofs.lemmas.Bool.{and_parts, ltb-true}
use Rattle.std.proofs.lemmas.List.{drop_at}
use Rattle.mf_base.specs.Texts.{Text}
use Rattle.mf_base.specs.Tags.{Tag, Tags}
use Rattle.mf_base.specs.Steps.{◌>>=◌, each}
use Rattle.mf_base.specs.Packed.{are_varints, packed_numbers}
use Rattle.mf_base.specs.Entries.{are_entries}
use Rattle.mf_base.proofs.NumberLemmas.{varint_reads}
use Rattle.mf_base.proofs.PackedFront.{numbers-first, whole-first}
use Rattle.osm_model.specs.declared.faults.EntityFault.{EntityFault}
use Rattle.osm_model.specs.declared.faults.EntityFault.TheVariants as faults
use Rattle.osm_model.specs.Wire.{IsPacked}
use Rattle.osm_model.specs.Objects.{string_at, tag_at, TagRun, RunEnd, by_zero, behind_key, with_list, empty_run}
use Rattle.osm_model.specs.Objects.{before_run}
use Rattle.osm_model.specs.Objects.{tag_runs, next_run, other_runs, run_tags, end_of_run}
use Rattle.osm_model.proofs.PackedLaws.{packed_found}
use Rattle.osm_entity.proofs.TagReads.{string-some, string-none, bad_tag}

-- ---- lists of varints in two parts

-- Whole varints in front of others.
pub record InFront (a ns b : List ℕ) : Type 0 where
  pub numbers : packed_numbers (a ++ b) ≡ ns ++ packed_numbers b
  pub whole : are_varints (a ++ b) ≡ are_varints b

in_front : (a ns b : List ℕ) → IsPacked a ns → InFront a ns b
in_front a [] b e = subst (λ x. InFront x [] b) (sym e) (record { numbers = refl; whole = refl })
in_front a (n ∷ ns) b (front, rest, v, more, is) =
    let others = in_front rest ns b more in
    let all = front ++ (rest ++ b) in
    let reads = varint_reads n front (rest ++ b) v in
    let behind : drop (length front) all ≡ rest ++ b = drop_at front (rest ++ b) (length front) refl in
    let parts : a ++ b ≡ all = ap (λ x. x ++ b) is ∙ append_assoc front rest b in
    record {
      numbers = ap packed_numbers parts ∙ numbers-first all n (length front) reads
          ∙ ap (λ x. n ∷ packed_numbers x) behind ∙ ap (λ xs. n ∷ xs) others.numbers;
      whole = ap are_varints parts ∙ whole-first all n (length front) reads ∙ ap are_varints behind ∙ others.whole;
    }

-- one number more behind whole varints, and so on
pub more-numbers : (a b : List ℕ) → are_varints a ≡ true
    → packed_numbers (a ++ b) ≡ packed_numbers a ++ packed_numbers b
more-numbers a b e = (in_front a (packed_numbers a) b (packed_found a e)).numbers

pub more-whole : (a b : List ℕ) → are_varints a ≡ true → are_varints b ≡ true → are_varints (a ++ b) ≡ true
more-whole a b e f = (in_front a (packed_numbers a) b (packed_found a e)).whole ∙ f

-- ---- the first run, step by step

R : List ℕ → TagRun
R ns = next_run (Some (tag_runs ns))

tag_runs-nil : tag_runs [] ≡ []
unfolding tag_runs
tag_runs-nil = refl

tag_runs-zero : (rest : List ℕ) → tag_runs (0 ∷ rest) ≡ empty_run by_zero ∷ tag_runs rest
unfolding tag_runs
tag_runs-zero rest = refl

tag_runs-pair : (k v : ℕ) (rest : List ℕ) → 0 < k → tag_runs (k ∷ v ∷ rest) ≡ before_run (k, v) (tag_runs rest)
unfolding tag_runs
tag_runs-pair zero v rest above = absurd (omega (arith, above))
tag_runs-pair (suc k) v rest above = refl

tag_runs-key : (k : ℕ) → 0 < k → tag_runs (k ∷ []) ≡ empty_run (behind_key k) ∷ []
unfolding tag_runs
tag_runs-key zero above = absurd (omega (arith, above))
tag_runs-key (suc k) above = refl

-- a run with one pair more in front
abbrev pub with_pair : ℕ × ℕ → TagRun → TagRun
with_pair pair run = record { pairs = pair ∷ run.pairs; ends = run.ends }

first-before : (pair : ℕ × ℕ) (runs : List TagRun)
    → next_run (Some (before_run pair runs)) ≡ with_pair pair (next_run (Some runs))
first-before pair [] = refl
first-before pair (run ∷ runs) = refl

others-before : (pair : ℕ × ℕ) (runs : List TagRun)
    → other_runs (Some (before_run pair runs)) ≡ other_runs (Some runs)
others-before pair [] = refl
others-before pair (run ∷ runs) = refl

-- a pair in front of numbers
pub run-pair : (ns rest : List ℕ) (k v : ℕ) → 0 < k → ns ≡ k ∷ v ∷ rest
    → next_run (Some (tag_runs ns)) ≡ with_pair (k, v) (next_run (Some (tag_runs rest)))
run-pair ns rest k v above e =
    ap (λ x. next_run (Some (tag_runs x))) e ∙ ap (λ x. next_run (Some x)) (tag_runs-pair k v rest above)
    ∙ first-before (k, v) (tag_runs rest)

pub others-pair : (ns rest : List ℕ) (k v : ℕ) → 0 < k → ns ≡ k ∷ v ∷ rest
    → other_runs (Some (tag_runs ns)) ≡ other_runs (Some (tag_runs rest))
others-pair ns rest k v above e =
    ap (λ x. other_runs (Some (tag_runs x))) e ∙ ap (λ x. other_runs (Some x)) (tag_runs-pair k v rest above)
    ∙ others-before (k, v) (tag_runs rest)

pub run-zero : (ns rest : List ℕ) → ns ≡ 0 ∷ rest → next_run (Some (tag_runs ns)) ≡ empty_run by_zero
run-zero ns rest e = ap (λ x. next_run (Some (tag_runs x))) e ∙ ap (λ x. next_run (Some x)) (tag_runs-zero rest)

pub others-zero : (ns rest : List ℕ) → ns ≡ 0 ∷ rest → other_runs (Some (tag_runs ns)) ≡ Some (tag_runs rest)
others-zero ns rest e = ap (λ x. other_runs (Some (tag_runs x))) e ∙ ap (λ x. other_runs (Some x)) (tag_runs-zero rest)

-- ---- faults of the pair in front

told-run : (strings : List Text) (run : TagRun)
    → run_tags strings run ≡ (each (tag_at strings) run.pairs >>= λ tags. end_of_run strings run.ends tags)
unfolding run_tags
told-run strings run = refl

abbrev told : List Text → List (ℕ × ℕ) → RunEnd → Result Tags EntityFault
told strings pairs ends = each (tag_at strings) pairs >>= λ tags. end_of_run strings ends tags

-- no number is left
pub fault-none : (strings : List Text) (ns : List ℕ) → ns ≡ []
    → run_tags strings (next_run (Some (tag_runs ns))) ≡ Err faults.Columns
fault-none strings ns e =
    ap (λ x. run_tags strings (next_run (Some (tag_runs x)))) e
    ∙ ap (λ x. run_tags strings (next_run (Some x))) tag_runs-nil ∙ told-run strings (empty_run with_list)

last-key : (strings : List Text) (ns : List ℕ) (k : ℕ) → 0 < k → ns ≡ k ∷ []
    → run_tags strings (next_run (Some (tag_runs ns))) ≡ (string_at strings k >>= λ key. Err faults.KeyWithoutValue)
last-key strings ns k above e =
    ap (λ x. run_tags strings (next_run (Some (tag_runs x)))) e
    ∙ ap (λ x. run_tags strings (next_run (Some x))) (tag_runs-key k above)
    ∙ told-run strings (empty_run (behind_key k))

-- a key is the last number
pub fault-key : (strings : List Text) (ns : List ℕ) (k : ℕ) → 0 < k → ns ≡ k ∷ [] → k < length strings
    → run_tags strings (next_run (Some (tag_runs ns))) ≡ Err faults.KeyWithoutValue
fault-key strings ns k above e known =
    last-key strings ns k above e
    ∙ ap (λ r. r >>= λ key. Err faults.KeyWithoutValue) (string-some strings k known).1

-- the pair in front has no tag
pub fault-pair : (strings : List Text) (ns rest : List ℕ) (k v : ℕ) → 0 < k → ns ≡ k ∷ v ∷ rest
    → (length strings ≤ k) ⊎ (length strings ≤ v)
    → run_tags strings (next_run (Some (tag_runs ns))) ≡ Err faults.StringIndex
fault-pair strings ns rest k v above e bad =
    ap (run_tags strings) (run-pair ns rest k v above e)
    ∙ told-run strings (with_pair (k, v) (next_run (Some (tag_runs rest))))
    ∙ ap (λ r. (r >>= λ first. each (tag_at strings) (next_run (Some (tag_runs rest))).pairs >>= λ others.
    Ok (first ∷ others)) >>= λ tags. end_of_run strings (next_run (Some (tag_runs rest))).ends tags)
    (bad_tag strings k v bad)

-- the key in front is none
pub fault-bad_key : (strings : List Text) (ns rest : List ℕ) (k : ℕ) → 0 < k → ns ≡ k ∷ rest → length strings ≤ k
    → run_tags strings (next_run (Some (tag_runs ns))) ≡ Err faults.StringIndex
fault-bad_key strings ns [] k above e past =
    last-key strings ns k above e
    ∙ ap (λ r. r >>= λ key. Err faults.KeyWithoutValue) (string-none strings k past)
fault-bad_key strings ns (v ∷ rest) k above e past = fault-pair strings ns rest k v above e (inl past)

-- ---- pairs that have tags, in front

each-append : (strings : List Text) (ps qs : List (ℕ × ℕ)) (ts : Tags) → each (tag_at strings) ps ≡ Ok ts
    → each (tag_at strings) (ps ++ qs) ≡ (each (tag_at strings) qs >>= λ us. Ok (ts ++ us))
each-append strings [] qs ts e =
    sym (ap (λ xs. each (tag_at strings) qs >>= λ us. Ok (xs ++ us)) (none ts e)
    ∙ whole (each (tag_at strings) qs))
  where
    none : (ts : Tags) → ◌≡◌ {A = Result Tags EntityFault} (Ok []) (Ok ts) → ts ≡ []
    none ts e = cc

    whole : (r : Result Tags EntityFault) → (r >>= λ us. Ok ([] ++ us)) ≡ r
    whole (Ok us) = refl
    whole (Err f) = refl
each-append strings (p ∷ ps) qs ts e =
    go (λ os are. each-append strings ps qs os are) (tag_at strings p) refl (each (tag_at strings) ps) refl e
  where
    go : ((os : Tags) → each (tag_at strings) ps ≡ Ok os
        → each (tag_at strings) (ps ++ qs) ≡ (each (tag_at strings) qs >>= λ us. Ok (os ++ us)))
        → (tag : Result Tag EntityFault) → tag_at strings p ≡ tag → (others : Result Tags EntityFault)
        → each (tag_at strings) ps ≡ others → (tag >>= λ first. others >>= λ os. Ok (first ∷ os)) ≡ Ok ts
        → (tag_at strings p >>= λ first. each (tag_at strings) (ps ++ qs) >>= λ os. Ok (first ∷ os))
        ≡ (each (tag_at strings) qs >>= λ us. Ok (ts ++ us))
    go later (Ok tag) is (Ok os) are f =
        ap (λ r. r >>= λ first. each (tag_at strings) (ps ++ qs) >>= λ os. Ok (first ∷ os)) is
        ∙ ap (λ r. r >>= λ os. Ok (tag ∷ os)) (later os are)
        ∙ joined (each (tag_at strings) qs)
        ∙ ap (λ xs. each (tag_at strings) qs >>= λ us. Ok (xs ++ us)) (ok_are (tag ∷ os) ts f)
      where
        ok_are : (x y : Tags) → ◌≡◌ {A = Result Tags EntityFault} (Ok x) (Ok y) → x ≡ y
        ok_are x y e = cc

        joined : (r : Result Tags EntityFault)
            → ((r >>= λ us. Ok (os ++ us)) >>= λ us. Ok (tag ∷ us)) ≡ (r >>= λ us. Ok ((tag ∷ os) ++ us))
        joined (Ok us) = refl
        joined (Err fault) = refl
    go later (Ok tag) is (Err fault) are f = absurd (no_ok fault ts f)
      where
        no_ok : (f : EntityFault) (x : Tags) → ◌≡◌ {A = Result Tags EntityFault} (Err f) (Ok x) → ⊥
        no_ok f x e = cc
    go later (Err fault) is others are f = absurd (no_ok fault ts f)
      where
        no_ok : (f : EntityFault) (x : Tags) → ◌≡◌ {A = Result Tags EntityFault} (Err f) (Ok x) → ⊥
        no_ok f x e = cc

-- pairs of indices that are known have tags
pub known-tags : (strings : List Text) (pairs : List (ℕ × ℕ)) → are_entries (length strings) pairs ≡ true
    → (tags : Tags) × (each (tag_at strings) pairs ≡ Ok tags)
known-tags strings [] e = ([], refl)
known-tags strings (p ∷ pairs) e =
    let parts = and_parts (nat_lt p.0 (length strings) && nat_lt p.1 (length strings))
    (are_entries (length strings) pairs) e in
    let both = and_parts (nat_lt p.0 (length strings)) (nat_lt p.1 (length strings)) parts.0 in
    let (key, is_key) = string-some strings p.0 (ltb-true p.0 (length strings) both.0) in
    let (val, is_val) = string-some strings p.1 (ltb-true p.1 (length strings) both.1) in
    let (others, are) = known-tags strings pairs parts.1 in (
      (key, val) ∷ others,
      ap (λ r. (r >>= λ key. string_at strings p.1 >>= λ value. Ok (key, value)) >>= λ first.
          each (tag_at strings) pairs >>= λ others. Ok (first ∷ others)) is_key
          ∙ ap (λ r. (r >>= λ value. Ok (key, value)) >>= λ first.
          each (tag_at strings) pairs >>= λ others. Ok (first ∷ others)) is_val
          ∙ ap (λ r. r >>= λ others. Ok ((key, val) ∷ others)) are,
    )

end-fault : (strings : List Text) (ends : RunEnd) (us ts : Tags) (fault : EntityFault)
    → end_of_run strings ends us ≡ Err fault → end_of_run strings ends ts ≡ Err fault
end-fault strings by_zero us ts fault e = absurd (no_err us fault e)
  where
    no_err : (x : Tags) (f : EntityFault) → ◌≡◌ {A = Result Tags EntityFault} (Ok x) (Err f) → ⊥
    no_err x f e = cc
end-fault strings (behind_key k) us ts fault e = e
end-fault strings with_list us ts fault e = e

-- the fault of a run stays, whatever pairs that have tags stand in front
pub fault-behind : (strings : List Text) (ps qs : List (ℕ × ℕ)) (ends : RunEnd) (fault : EntityFault)
    → are_entries (length strings) ps ≡ true
    → run_tags strings (record { pairs = qs; ends = ends }) ≡ Err fault
    → run_tags strings (record { pairs = ps ++ qs; ends = ends }) ≡ Err fault
fault-behind strings ps qs ends fault known e =
    let (ts, are) = known-tags strings ps known in
    told-run strings (record { pairs = ps ++ qs; ends = ends })
    ∙ ap (λ r. r >>= λ tags. end_of_run strings ends tags) (each-append strings ps qs ts are)
    ∙ go ts (each (tag_at strings) qs) (sym (told-run strings (record { pairs = qs; ends = ends })) ∙ e)
  where
    go : (ts : Tags) (r : Result Tags EntityFault) → (r >>= λ tags. end_of_run strings ends tags) ≡ Err fault
        → ((r >>= λ us. Ok (ts ++ us)) >>= λ tags. end_of_run strings ends tags) ≡ Err fault
    go ts (Ok us) f = end-fault strings ends us (ts ++ us) fault f
    go ts (Err g) f = f
