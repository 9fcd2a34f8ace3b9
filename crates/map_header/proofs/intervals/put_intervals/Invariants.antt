use Rattle.std.proofs.Common.{◌+◌, ◌*◌, ◌≤◌, length}
use Rattle.mf_base.specs.Buffer.{AppendsTo}
use Rattle.map_header.proofs.EachInterval.{intervals_to}
use Rattle.map_header.proofs.intervals.put_intervals.Given as goal

abbrev pub invariant-loop-i : goal.invariant-loop-i
invariant-loop-i l = record {
  put : AppendsTo l.fn.out l.out (intervals_to l.intervals l.subs l.i);
  most : length l.out.bytes ≤ length l.fn.out.bytes + 19 * l.i;
}
