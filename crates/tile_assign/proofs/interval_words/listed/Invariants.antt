use Rattle.std.proofs.Common.{length}
use Rattle.tile_assign.proofs.Listed.{HasRead}
use Rattle.tile_assign.proofs.interval_words.listed.Given as goal

abbrev pub invariant-loop-first : goal.invariant-loop-first
invariant-loop-first l = HasRead l.text l.rest l.all.items

abbrev pub decreases-loop-first : goal.decreases-loop-first
decreases-loop-first l = length l.rest
