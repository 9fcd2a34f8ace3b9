use Rattle.std.proofs.Common.{length}
use Rattle.tile_assign.proofs.interval_words.+follow.Given as goal

abbrev pub decreases-follow : goal.decreases-follow
decreases-follow l = length l.all.now
