use Rattle.std.proofs.Common.{◌≡◌, ◌+◌, ◌≤◌, length}
use Rattle.feature_model.specs.Blocks.{inner_before}
use Rattle.mf_rows.specs.RecordUnits.{parts_count}
use Rattle.way_delta.specs.Rings.{behind_outer}
use Rattle.way_delta.proofs.counts.pass_inner.Given as goal

-- the inner rings that were passed and those that are left are all up to the next outer one
abbrev pub invariant-loop-inner : goal.invariant-loop-inner
invariant-loop-inner l =
    (l.inner + length (inner_before l.rings) ≡ length (inner_before l.fn.rings))
    × (behind_outer l.rings ≡ behind_outer l.fn.rings) × (l.inner + parts_count l.rings ≤ parts_count l.fn.rings)

abbrev pub decreases-loop-inner : goal.decreases-loop-inner
decreases-loop-inner l = length l.rings
