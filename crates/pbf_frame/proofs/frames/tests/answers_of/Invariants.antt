use Rattle.std.proofs.Common.{◌≡◌, ◌-◌, ◌<◌, ◌^◌}
use Rattle.pbf_frame.proofs.frames.tests.answers_of.Given as goal

-- the next blob may be read
abbrev pub invariant-loop : goal.invariant-loop
invariant-loop g l = (l.block.capacity ≡ l.fn.block.capacity) × (l.stream.offset < 2 ^ 63 - 1)
