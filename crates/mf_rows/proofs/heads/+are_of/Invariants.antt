use Rattle.std.proofs.Common.{length}
use Rattle.mf_rows.proofs.heads.+are_of.Given as goal

abbrev pub decreases-are_of : goal.decreases-are_of
decreases-are_of l = length l.units.now
