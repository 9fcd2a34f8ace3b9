use Rattle.std.proofs.Common.{◌≡◌, ◌∙◌, sym, rules, Err}
use Rattle.mf_base.specs.declared.kind.EntityKind.TheVariants as kinds
use Rattle.pbf_block.specs.Head.{head_told}
use Rattle.osm_entity.proofs.NodeReads.{checked_ok, front-far, front-is}
use Rattle.osm_entity.proofs.PlaceReads.{place_read}
use Rattle.osm_entity.proofs.node.check_node.Goals as goal

pub returns-in_err-place : goal.returns-in_err-place
returns-in_err-place c before behind =
    let e : c.from_residual-in_err-place.result ≡ Err c.in_err-place.field-0.0 = search rules in
    let checked = checked_ok before kinds.Node c.args.id c.check.result c.in_ok-id.id (search rules)
    (c.check.ensures before behind) (c.in_ok-id.was {u = tt}) in
    e ∙ front-far before (head_told c.args.head) c.args.id c.args.lat c.args.lon c.in_err-place.field-0.0 checked.0
    (sym (place_read (head_told c.args.head) c.args.lat c.args.lon c.place_at.result (search rules)
    (search rules) c.place_at.ensures) ∙ c.in_err-place.was {u = tt})

pub returns : goal.returns
returns c before behind =
    let checked = checked_ok before kinds.Node c.args.id c.check.result c.in_ok-id.id (search rules)
    (c.check.ensures before behind) (c.in_ok-id.was {u = tt}) in
    front-is before (head_told c.args.head) c.args.id c.args.lat c.args.lon c.in_ok-id.id c.in_ok-place.place checked.0
    checked.1 (sym (place_read (head_told c.args.head) c.args.lat c.args.lon c.place_at.result (search rules)
    (search rules) c.place_at.ensures) ∙ c.in_ok-place.was {u = tt})
