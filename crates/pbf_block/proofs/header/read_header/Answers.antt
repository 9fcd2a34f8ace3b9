use Rattle.std.proofs.Common.{◌≡◌, ◌∙◌, refl, sym, ap, rules, Err}
use Rattle.osm_model.specs.Blocks.{box_where}
use Rattle.pbf_block.proofs.BlockReads.{header-refused, header-no_box, header-known, header-unknown}
use Rattle.pbf_block.proofs.header.read_header.Goals as goal

pub bytes-requires : goal.bytes-requires
bytes-requires c = (c.in-Ok.ensures.found 1 0 refl).within

pub returns-in_err-rect-in-Ok : goal.returns-in_err-rect-in-Ok
returns-in_err-rect-in-Ok c =
    let e : c.from_residual.result ≡ Err c.in_err-rect-in-Ok.field-0.0 = search rules in
    let where_is = c.read_bbox.ensures ∙ ap box_where (c.bytes.ensures ∙ (c.in-Ok.ensures.found 1 0 refl).bytes) in
    e ∙ header-no_box c.args.bytes.now _ _ c.in-Ok.ensures.message (sym (c.in_err-rect-in-Ok.was {u = tt}) ∙ where_is)

pub returns-in-Err : goal.returns-in-Err
returns-in-Err c = header-refused c.args.bytes.now _ c.in-Err.ensures.message

pub returns-then-knows_features : goal.returns-then-knows_features
returns-then-knows_features c =
    let where_is = c.read_bbox.ensures ∙ ap box_where (c.bytes.ensures ∙ (c.in-Ok.ensures.found 1 0 refl).bytes) in
    header-known c.args.bytes.now _ _ c.in-Ok.ensures.message (sym (c.in_ok-rect-in-Ok.was {u = tt})
    ∙ where_is) (c.if-knows_features.ensures {u = tt})

pub returns-else-knows_features : goal.returns-else-knows_features
returns-else-knows_features c =
    let where_is = c.read_bbox.ensures ∙ ap box_where (c.bytes.ensures ∙ (c.in-Ok.ensures.found 1 0 refl).bytes) in
    header-unknown c.args.bytes.now _ c.in_ok-rect-in-Ok.rect c.in-Ok.ensures.message
    (sym (c.in_ok-rect-in-Ok.was {u = tt}) ∙ where_is) (c.if-knows_features.ensures {u = tt})
