use Rattle.std.proofs.Common.{length}
use Rattle.mf_rows.proofs.first_units.+byte_at.Given as goal

abbrev pub decreases-byte_at : goal.decreases-byte_at
decreases-byte_at l = length l.spans.now
