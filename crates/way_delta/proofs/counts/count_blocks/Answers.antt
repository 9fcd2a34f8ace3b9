use Rattle.std.proofs.Common.{◌≡◌, ◌⊎◌, ◌∙◌, ap, sym, subst, length, arith}
use Rattle.mf_base.specs.declared.kind.EntityKind.{EntityKind}
use Rattle.mf_rows.specs.declared.head.Head.{Head}
use Rattle.mf_rows.specs.RecordUnits.{parts_count}
use Rattle.way_delta.specs.Rings.{block_count, counts_size}
use Rattle.way_delta.proofs.Rings.{node-size, node-bytes, no-node, told-count, told-size, told-bytes}
use Rattle.way_delta.proofs.Rings.{counts-and_places}
use Rattle.way_delta.proofs.counts.count_blocks.Goals as goal

pub returns-in-Node-clause-size : goal.returns-in-Node-clause-size
returns-in-Node-clause-size c corner double =
    let is = ap (λ (h : Head). h.kind) (sym c.head.ensures) ∙ c.in-Node.is in
    let size = node-size corner double c.args.view.now is in
    let bytes = ap length (node-bytes corner double c.args.view.now is) in
    omega (arith, size, bytes)

pub returns-in-Way : goal.returns-in-Way
returns-in-Way c =
    let r = c.args.view.now in
    let way = no-node r.head.kind (subst (λ (h : Head). (h.kind ≡ EntityKind.Way) ⊎ (h.kind ≡ EntityKind.Relation))
    c.head.ensures c.in-Way.is) in
    let size = c.count_rings.ensures.size ∙ ap counts_size c.rings.ensures in
    record {
      blocks = c.count_rings.ensures.blocks ∙ ap block_count c.rings.ensures ∙ told-count r way;
      size = λ corner double.
          let all = counts-and_places corner double r.parts in
          let places = told-size corner double r way c.requires.feature in
          let bytes = ap length (told-bytes corner double r way c.requires.feature) in
          omega (arith, size, all, places, bytes);
      most = let most = c.count_rings.ensures.most in let same = ap parts_count c.rings.ensures in
          omega (arith, most, same);
    }
