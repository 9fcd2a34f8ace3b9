use Rattle.std.proofs.Common.{◌≡◌, ◌⊎◌, ◌<◌, ◌^◌, ◌+◌, ◌∙◌, ap, sym, subst, length}
use Rattle.mf_base.specs.Buffer.{HasRoom, AppendsTo}
use Rattle.mf_base.specs.declared.kind.EntityKind.{EntityKind}
use Rattle.mf_rows.specs.declared.head.Head.{Head}
use Rattle.mf_rows.specs.RecordUnits.{parts_count}
use Rattle.std.specs.Prelude.{drop}
use Rattle.way_delta.specs.Rings.{behind_outer, parts_bytes}
use Rattle.way_delta.proofs.Rings.{node-bytes, no-node, told-bytes, behind-first, are_rings-of}
use Rattle.way_delta.proofs.Writing.{puts-nothing}
use Rattle.way_delta.proofs.put.put_blocks.Goals as goal

pub put_rings-requires : goal.put_rings-requires
put_rings-requires c =
    let r = c.args.view.now in
    let way = no-node r.head.kind (subst (λ (h : Head). (h.kind ≡ EntityKind.Way) ⊎ (h.kind ≡ EntityKind.Relation))
    c.head.ensures c.in-Way.is) in
    record {
      few = subst (λ parts. parts_count parts < 2 ^ 32) (sym c.rings.ensures) c.requires.few;
      ahead = c.next.ensures.rest ∙ ap (drop 1) c.rings-ahead.ensures
          ∙ behind-first r.parts (are_rings-of r way c.requires.feature) ∙ ap behind_outer (sym c.rings.ensures);
      room = subst (λ bytes. HasRoom c.args.out.now (length bytes + 10))
          (sym (ap (parts_bytes c.args.corner c.args.double) c.rings.ensures
          ∙ told-bytes c.args.corner c.args.double r way c.requires.feature)) c.requires.room;
    }

pub returns-in-Node : goal.returns-in-Node
returns-in-Node c = record {
  appends = puts-nothing _ _ (node-bytes c.args.corner c.args.double c.args.view.now
      (ap (λ (h : Head). h.kind) (sym c.head.ensures) ∙ c.in-Node.is));
}

pub returns-in-Way : goal.returns-in-Way
returns-in-Way c =
    let r = c.args.view.now in
    let way = no-node r.head.kind (subst (λ (h : Head). (h.kind ≡ EntityKind.Way) ⊎ (h.kind ≡ EntityKind.Relation))
    c.head.ensures c.in-Way.is) in
    record {
      appends = subst (AppendsTo c.args.out.now c.put_rings.new.out)
          (ap (parts_bytes c.args.corner c.args.double) c.rings.ensures
          ∙ told-bytes c.args.corner c.args.double r way c.requires.feature) c.put_rings.ensures.appends;
    }
