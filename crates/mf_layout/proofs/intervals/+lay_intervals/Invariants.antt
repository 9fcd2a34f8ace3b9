use Rattle.std.proofs.Common.{length}
use Rattle.mf_layout.proofs.intervals.+lay_intervals.Given as goal

abbrev pub decreases-lay_intervals : goal.decreases-lay_intervals
decreases-lay_intervals g l = length l.intervals.now
