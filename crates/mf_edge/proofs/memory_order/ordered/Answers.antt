use Rattle.std.proofs.Common.{rules, ◌∙◌, ap, ◌≡◌}
use Rattle.mf_base.specs.Ascending.{joined, ascending}
use Rattle.mf_edge.proofs.OrderedInMemory.{items_of, sorted-is}
use Rattle.mf_edge.proofs.memory_order.ordered.Goals as goal

pub returns : goal.returns
returns c =
    let joins : c.in_ok-all.all.items ≡ joined (items_of c.sort.new.self.items) = search rules in
    let sorted : items_of c.sort.new.self.items ≡ ascending (items_of c.in_ok-rows.rows.items) =
    sorted-is c.in_ok-rows.rows.items c.sort.new.self.items c.sort.ensures.permutation c.in_ok-sort.ensures.sorted
    in
    record { ordered = λ n e. joins ∙ ap joined (sorted ∙ ap ascending (c.in_ok-rows.ensures n e)) }
