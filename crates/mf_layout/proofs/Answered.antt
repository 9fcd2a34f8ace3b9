-- What is said of an answer.
use Rattle.std.proofs.Common.{Result, Ok, Err}
use Rattle.std.specs.Prelude.{OnErr}

-- what holds, holds on a failure
pub on_err : {T E A : Type 0} (answer : Result T E) → A → OnErr answer A
on_err (Ok _) a = tt
on_err (Err _) a = a
