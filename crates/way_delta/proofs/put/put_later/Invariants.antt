use Rattle.std.proofs.Common.{length}
use Rattle.way_delta.specs.Rings.{ring_told, later_bytes}
use Rattle.way_delta.proofs.Walked.{PutsPlaces}
use Rattle.way_delta.proofs.put.put_later.Given as goal

-- what is still to be put completes the places
abbrev pub invariant-loop-place : goal.invariant-loop-place
invariant-loop-place l =
    PutsPlaces l.out l.fn.out l.double l.before l.last l.points (later_bytes l.double l.fn.first (ring_told l.fn.points))

abbrev pub decreases-loop-place : goal.decreases-loop-place
decreases-loop-place l = length l.points
