use Rattle.std.proofs.Common.{◌≡◌, ◌∙◌, sym, ap, length}
use Rattle.mf_rows.specs.RowKinds.{IsOf}
use Rattle.spill_parts.specs.Parts.{ordered_rows}
use Rattle.spill_parts.proofs.Ordered.{length-ordered, all-ordered}
use Rattle.spill_parts.proofs.part.Part.set_in_order.Goals as goal

pub invariant_of-self : goal.invariant_of-self
invariant_of-self g c =
    let kind = g.K.RowKind.kind in let rows = c.self.inside.told.rows in
    let is : c.in_order-self-inside.result.rows ≡ ordered_rows kind rows = c.in_order-self-inside.ensures in
    let len : length c.in_order-self-inside.result.rows ≡ length rows = ap length is ∙ length-ordered kind rows in
    record {
      counted = c.self.invariant.counted ∙ sym len;
      known = rw is (all-ordered kind (IsOf g.K.RowKind.kind) rows c.self.invariant.known);
      small = rw len c.self.invariant.small;
    }
