use Rattle.std.proofs.Common.{rules, leb, sym, subst}
use Rattle.std.proofs.lemmas.List.Sorted.{IsPartitionPoint-from_clause}
use Rattle.mercator_rows.specs.Edges.{AreEdges}
use Rattle.mercator_rows.proofs.Found.{edges-parted, reach-found}
use Rattle.mercator_rows.proofs.rows.Rows.reach.Goals as goal

pub returns : goal.returns
returns c =
    let edges : AreEdges c.deref.result.now = subst AreEdges (sym c.deref.ensures.value) c.self.invariant in
    let point = IsPartitionPoint-from_clause (λ e. leb c.args.distance e) _ _ c.partition_point.ensures.partitioned
    (edges-parted _ c.args.distance edges) (λ a r q k. search rules) in
    reach-found c.deref.result.now c.args.distance c.partition_point.result edges c.partition_point.ensures.bound point
