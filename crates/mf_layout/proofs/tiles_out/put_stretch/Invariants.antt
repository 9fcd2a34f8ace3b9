use Rattle.std.proofs.Common.{◌≡◌, ◌+◌, ◌-◌, ◌≤◌, true, length}
use Rattle.mf_edge.specs.Device.{Gained}
use Rattle.mf_edge.specs.Spill.{stretch}
use Rattle.mf_layout.proofs.tiles_out.put_stretch.Given as goal

abbrev pub invariant-loop-at : goal.invariant-loop-at
invariant-loop-at g l =
    let old = g.K.Sink.state l.fn.out in
    let new = g.K.Sink.state l.out in
    let store = g.P.Spill.state l.fn.spill in
    record {
      from : l.from ≤ l.at;
      to : l.at ≤ l.to;
      room : length l.piece ≡ 65536;
      put : store.tells ≡ true → Gained old (stretch store l.part.part l.from (l.at - l.from)) new;
      steps : l.steps ≡ l.fn.steps + (l.at - l.from);
      same_output : new.faults ≡ old.faults;
      same : g.P.Spill.state l.spill ≡ store;
    }

abbrev pub decreases-loop-at : goal.decreases-loop-at
decreases-loop-at g l = l.to - l.at
