-- Steps over a stream, one after another.
use Rattle.std.proofs.Common.{ℕ, ◌+◌, ◌-◌, ◌∙◌, arith}
use Rattle.mf_edge.specs.Stream.{StreamState, IsStep, IsWalk}

pub step-then : (m n : ℕ) (old mid new : StreamState) → IsStep m old mid → IsStep n mid new → IsStep (m + n) old new
step-then m n old mid new first second = record {
  same_reference = second.same_reference ∙ first.same_reference;
  rises = omega (arith, first.rises, second.rises);
  far = omega (arith, first.far, second.far);
  reads = omega (arith, first.reads, second.reads);
  counts = omega (arith, first.counts, second.counts);
}

-- so many bytes are those of each part
pub walk-then : (more : ℕ) (old mid new : StreamState) → IsWalk 0 old mid → IsWalk more mid new → IsWalk more old new
walk-then more old mid new first second =
    let both = step-then (mid.offset - old.offset + 0) (new.offset - mid.offset + more) old mid new first second in
    record {
      same_reference = both.same_reference;
      rises = both.rises;
      far = omega (arith, both.rises);
      reads = omega (arith, both.reads, first.rises, second.rises);
      counts = both.counts;
    }
