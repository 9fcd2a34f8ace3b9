use Rattle.std.proofs.Common.{◌≡◌, ◌+◌, ◌-◌, ◌*◌, ◌≤◌, true, ◌++◌, length, take, drop}
use Rattle.mf_rows.specs.Kinds.{index_kind}
use Rattle.spill_parts.specs.Parts.{IsReading}
use Rattle.mf_layout.specs.SubFiles.{entries_told, tiles_size}
use Rattle.mf_layout.proofs.Pending.{IsPutOf}
use Rattle.mf_layout.proofs.index_out.put_index.Given as goal

abbrev pub invariant-loop-left : goal.invariant-loop-left
invariant-loop-left g l =
    let old = g.K.Sink.state l.fn.out in
    let new = g.K.Sink.state l.out in
    let store = g.P.Spill.state l.fn.spill in
    record {
      few : l.left ≤ l.size.tiles;
      rest : l.rows.left ≡ drop (l.size.tiles - l.left) l.fn.rows.left;
      some : l.left ≤ length l.rows.left;
      offset : l.offset ≤ l.size.bytes;
      fits : store.tells ≡ true → l.offset + tiles_size (take l.left l.rows.left) ≤ l.size.bytes;
      put : store.tells ≡ true
          → IsPutOf old.taken (entries_told (5 * l.size.tiles) (take l.size.tiles l.fn.rows.left)) new.taken
          (l.buffer.bytes ++ entries_told l.offset (take l.left l.rows.left));
      capacity : l.buffer.capacity ≡ l.fn.buffer.capacity;
      reading : IsReading index_kind l.rows l.page store;
      source : l.rows.source ≡ l.fn.rows.source;
      steps : l.steps + 18 * l.fn.rows.loaded ≡ l.fn.steps + 18 * l.rows.loaded;
      same_room : l.page.room ≡ l.fn.page.room;
      same_output : new.faults ≡ old.faults;
      same : g.P.Spill.state l.spill ≡ store;
    }

abbrev pub decreases-loop-left : goal.decreases-loop-left
decreases-loop-left g l = l.left
