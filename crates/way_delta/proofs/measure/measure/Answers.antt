use Rattle.std.proofs.Common.{◌≡◌, ◌⊎◌, ◌∙◌, ap, sym, subst, true, false, arith}
use Rattle.mf_base.specs.declared.kind.EntityKind.{EntityKind}
use Rattle.mf_rows.specs.declared.head.Head.{Head}
use Rattle.mf_rows.specs.RecordUnits.{parts_count}
use Rattle.way_delta.specs.Rings.{rings_size}
use Rattle.way_delta.proofs.Rings.{node-size, no-node, told-size}
use Rattle.way_delta.proofs.measure.measure.Goals as goal

pub returns-in-Node-clause-single : goal.returns-in-Node-clause-single
returns-in-Node-clause-single c =
    node-size c.args.corner false c.args.view.now (ap (λ (h : Head). h.kind) (sym c.head.ensures) ∙ c.in-Node.is)

pub returns-in-Node-clause-double : goal.returns-in-Node-clause-double
returns-in-Node-clause-double c =
    node-size c.args.corner true c.args.view.now (ap (λ (h : Head). h.kind) (sym c.head.ensures) ∙ c.in-Node.is)

pub returns-in-Way : goal.returns-in-Way
returns-in-Way c =
    let r = c.args.view.now in
    let way = no-node r.head.kind (subst (λ (h : Head). (h.kind ≡ EntityKind.Way) ⊎ (h.kind ≡ EntityKind.Relation))
    c.head.ensures c.in-Way.is) in
    let same = ap parts_count c.rings.ensures in
    let one = c.measure_rings.ensures.most.0 in
    let two = c.measure_rings.ensures.most.1 in
    record {
      single = c.measure_rings.ensures.single ∙ ap (rings_size c.args.corner false) c.rings.ensures
          ∙ told-size c.args.corner false r way c.requires.feature;
      double = c.measure_rings.ensures.double ∙ ap (rings_size c.args.corner true) c.rings.ensures
          ∙ told-size c.args.corner true r way c.requires.feature;
      most = (omega (arith, one, same), omega (arith, two, same));
    }
