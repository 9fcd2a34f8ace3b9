use Rattle.std.proofs.Common.{◌∙◌, arith}
use Rattle.spill_parts.specs.Join.{from_key}
use Rattle.row_runs.proofs.KeyRuns.{from_later, after_later}
use Rattle.row_runs.proofs.laws.later_keys.Goals as goal

pub returns-clause-sought : goal.returns-clause-sought
returns-clause-sought g c key k later rows le = from_later key k later le rows

pub returns-clause-given : goal.returns-clause-given
returns-clause-given g c key k later rows less = after_later key k later less rows

pub returns-clause-both : goal.returns-clause-both
returns-clause-both g c key k later rows less =
    after_later key k later less (from_key key k rows) ∙ from_later key k later (omega (arith, less)) rows
