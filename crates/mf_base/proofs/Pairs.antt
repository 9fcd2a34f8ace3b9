-- Each two elements of a list, by recursion on it.
use Rattle.std.proofs.Common.{suc, List, [], ◌∷◌, arith}
use Rattle.std.specs.Prelude.{⊤, AllPairs}
use Rattle.std.specs.List.{AllByRecursion}
use Rattle.std.proofs.lemmas.List.Elements.{All-from_recursion, recursion_from_All}
use Rattle.std.proofs.lemmas.List.Kept.{AllPairs-cons}

-- it holds of each element and each later one
abbrev pub EachPair : {A : Type 0} → (A → A → Type 0) → List A → Type 0
EachPair Holds [] = ⊤
EachPair Holds (x ∷ xs) = AllByRecursion (Holds x) xs × EachPair Holds xs

pub each_pair : {A : Type 0} (Holds : A → A → Type 0) (xs : List A) → AllPairs Holds xs → EachPair Holds xs
each_pair Holds [] pairs = tt
each_pair Holds (x ∷ xs) pairs = (
  recursion_from_All (Holds x) xs (λ k d within. pairs 0 (suc k) d (omega arith) (omega (arith, within))),
  each_pair Holds xs (λ i j d less within. pairs (suc i) (suc j) d (omega (arith, less)) (omega (arith, within))),
)

pub all_pairs : {A : Type 0} (Holds : A → A → Type 0) (xs : List A) → EachPair Holds xs → AllPairs Holds xs
all_pairs Holds [] h = λ i j d less within. absurd (omega (arith, within))
all_pairs Holds (x ∷ xs) h = AllPairs-cons Holds x xs (All-from_recursion (Holds x) xs h.0) (all_pairs Holds xs h.1)
