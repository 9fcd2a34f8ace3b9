use Rattle.std.proofs.Common.{◌≡◌, ◌+◌, ◌-◌, ◌<◌, ◌≤◌, ◌^◌}
use Rattle.mf_edge.specs.Stream.{IsWalk, at}
use Rattle.osm_model.specs.declared.limits.TheConstants.{FRAME_LIMIT, OFFSET_LIMIT}
use Rattle.osm_model.specs.Frames.{PassesOver}
use Rattle.pbf_frame.specs.FrameReading.{HasTaken}
use Rattle.pbf_frame.proofs.frames.next_blob.Given as goal

-- blobs were passed over
abbrev pub invariant-loop-frame : goal.invariant-loop-frame
invariant-loop-frame g l =
    let old = at g.S.Source.state l.fn.src in
    let new = at g.S.Source.state l.src in
    HasTaken (PassesOver old.offset) old new
    × (new.source.faults ≡ old.source.faults)
    × IsWalk 0 old new
    × (l.block.capacity ≡ l.fn.block.capacity)
    × (old.offset < OFFSET_LIMIT → new.offset < OFFSET_LIMIT + FRAME_LIMIT)
    × (OFFSET_LIMIT ≤ old.offset → new.offset ≡ old.offset)

abbrev pub decreases-loop-frame : goal.decreases-loop-frame
decreases-loop-frame g l = 2 ^ 64 - (at g.S.Source.state l.src).offset
