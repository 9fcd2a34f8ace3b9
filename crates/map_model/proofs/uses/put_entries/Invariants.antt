use Rattle.std.proofs.Common.{length, ◌-◌}
use Rattle.map_model.proofs.Using.{EntriesPut}
use Rattle.map_model.proofs.uses.put_entries.Given as goal

abbrev pub invariant-loop-i : goal.invariant-loop-i
invariant-loop-i g l =
    EntriesPut l.first l.tiles (g.E.EntryTaker.taken l.fn.out) (g.E.EntryTaker.taken l.out) l.offset l.i

abbrev pub decreases-loop-i : goal.decreases-loop-i
decreases-loop-i g l = length l.tiles - l.i
