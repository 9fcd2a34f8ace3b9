-- What several calls leave of a store, and what an answer tells by two clauses.
use Rattle.std.proofs.Common.{ℕ, refl, sym, subst, Result, Ok, Err}
use Rattle.std.specs.Prelude.{IfOk, OnOk}
use Rattle.mf_edge.specs.Spill.{SpillState, SameParts, TouchesOnly}

-- where only faults were counted, no part was touched
pub touched_none : (part : ℕ) (a b : SpillState) → SameParts a b → TouchesOnly part a b
touched_none part a b same = subst (TouchesOnly part a) (sym same) (again b.faults)
  where
    again : (n : ℕ) → TouchesOnly part a (record a { faults = n })
    again n = record {
      same = record { name = refl; started = refl; tells = refl };
      count = refl;
      others = record { size = λ q apart. refl; bytes = λ q apart. refl };
    }

-- an answer by which two things are known
pub both_known : {T E : Type 0} (r : Result T E) (P R : T → Type 0) (Q : Type 0) → ((x : T) → P x → Q → R x)
    → IfOk r P → OnOk r Q → IfOk r R
both_known (Ok x) P R Q then h k = then x h k
both_known (Err e) P R Q then h k = h
