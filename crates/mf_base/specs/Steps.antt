-- Steps in order, each with an answer or a fault, up to the first fault. What is read, checked or refused in an order
-- is said with these words.
use Rattle.std.specs.Prelude.{Bool, true, false, List, [], ◌∷◌, Option, Some, None, Result, Ok, Err}

infixl 10 ◌>>=◌
-- one step and then the next, which may use its answer; the first that fails tells the fault
abbrev pub ◌>>=◌ : {A B F : Type 0} → Result A F → (A → Result B F) → Result B F
(Ok x) >>= next = next x
(Err fault) >>= next = Err fault

-- a step that fails with this fault unless the test holds
abbrev pub require : {F : Type 0} → Bool → F → Result (Unit {0}) F
require true fault = Ok tt
require false fault = Err fault

-- a step that fails where there is a fault
abbrev pub refuse : {F : Type 0} → Option F → Result (Unit {0}) F
refuse None = Ok tt
refuse (Some fault) = Err fault

-- a step whose fault is told as one of another kind
abbrev pub told_as : {A F G : Type 0} → (F → G) → Result A F → Result A G
told_as tell (Ok x) = Ok x
told_as tell (Err fault) = Err (tell fault)

-- one step for each item, in order
abbrev pub each : {A B F : Type 0} → (A → Result B F) → List A → Result (List B) F
each step [] = Ok []
each step (x ∷ xs) = do
  first ← step x
  others ← each step xs
  Ok (first ∷ others)

-- the fault of a step, if it has one
abbrev pub fault_of : {A F : Type 0} → Result A F → Option F
fault_of (Ok x) = None
fault_of (Err fault) = Some fault

-- the answer of a step, if it has one
abbrev pub answer_of : {A F : Type 0} → Result A F → Option A
answer_of (Ok x) = Some x
answer_of (Err fault) = None
