use Rattle.std.proofs.Common.{length, ◌-◌}
use Rattle.tile_body.proofs.Admitted.{all-so_far}
use Rattle.tile_body.proofs.spelled.are_kept.Given as goal

-- all are such where those that are left are
abbrev pub invariant-loop-at : goal.invariant-loop-at
invariant-loop-at l = all-so_far l.view.texts l.view.head.tags.items l.at

abbrev pub decreases-loop-at : goal.decreases-loop-at
decreases-loop-at l = length l.view.head.tags.items - l.at
