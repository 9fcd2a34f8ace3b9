use Rattle.std.proofs.Common.{length}
use Rattle.mf_rows.proofs.head.+tags_known.Given as goal

abbrev pub decreases-tags_known : goal.decreases-tags_known
decreases-tags_known l = length l.tags.now
