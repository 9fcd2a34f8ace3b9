use Rattle.std.proofs.Common.{◌≡◌, ◌++◌, take}
use Rattle.spill_parts.proofs.told.Told.with_all.Given as goal

abbrev pub invariant-loop-row : goal.invariant-loop-row
invariant-loop-row g l = l.told.rows ≡ l.self.rows ++ take l.row-index l.more
