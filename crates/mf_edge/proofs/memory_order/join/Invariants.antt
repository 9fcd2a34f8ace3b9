use Rattle.std.proofs.Common.{◌≡◌, take}
use Rattle.mf_base.specs.Ascending.{joined}
use Rattle.mf_edge.proofs.OrderedInMemory.{items_of}
use Rattle.mf_edge.proofs.memory_order.join.Given as goal

abbrev pub invariant-loop-row : goal.invariant-loop-row
invariant-loop-row l = l.all.items ≡ joined (items_of (take l.row-index l.rows))
