use Rattle.std.proofs.Common.{◌≡◌, ◌∙◌, ℕ, ap, sym, arith}
use Rattle.std.specs.Prelude.{min}
use Rattle.map_model.specs.Mercator.{north_lat}
use Rattle.mercator_rows.proofs.Corners.{first_edge, next_edge, pushed}
use Rattle.mercator_rows.proofs.rows.Rows.new.Goals as goal

pub loop-k-init : goal.loop-k-init
loop-k-init c = record {
  count = c.in_ok-edges.ensures.len;
  room = c.in_ok-edges.ensures.capacity;
  each = λ j lt. absurd (omega (arith, lt));
  next = first_edge;
}

pub loop-k-preserved : goal.loop-k-preserved
loop-k-preserved c =
    let edge : c.min-edge.result ≡ north_lat c.loop-k.k =
    c.min-edge.ensures ∙ ap (λ (n : ℕ). min c.loop-k.edge n) c.latitude.ensures ∙ c.loop-k.invariant.next in
    record {
      count = omega (arith, c.push_reserved.ensures.len, c.loop-k.invariant.count);
      room = omega (arith, c.push_reserved.ensures.capacity, c.loop-k.invariant.room);
      each = rw c.push_reserved.ensures.items (pushed north_lat c.loop-k.edges.items c.min-edge.result c.loop-k.k
          (sym c.loop-k.edges.ok.0 ∙ c.loop-k.invariant.count) c.loop-k.invariant.each edge);
      next = rw edge (next_edge c.loop-k.k);
    }
