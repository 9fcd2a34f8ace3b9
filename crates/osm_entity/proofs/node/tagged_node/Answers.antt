use Rattle.std.proofs.Common.{◌≡◌, ◌∙◌, sym, ap, rules, Err}
use Rattle.mf_base.specs.Packed.{packed_numbers}
use Rattle.mf_base.specs.TagCursor.{all_tags}
use Rattle.osm_model.specs.Objects.{indexed_tags}
use Rattle.osm_entity.specs.Answers.{answer_as}
use Rattle.osm_entity.specs.InBlock.{block_shown}
use Rattle.osm_entity.specs.Node.{node_told}
use Rattle.osm_entity.proofs.NodeReads.{front_err, tagged-no_tags, tagged-is, front_read}
use Rattle.osm_entity.proofs.node.tagged_node.Goals as goal

pub returns-in_err-id-clause-told : goal.returns-in_err-id-clause-told
returns-in_err-id-clause-told c before behind =
    let e : c.from_residual.result ≡ Err c.in_err-id.field-0.0 = search rules in
    let b = block_shown c.args.in_block in
    let front = front_read before b.head c.args.id c.args.lat c.args.lon c.check_node.result (search rules)
    (search rules) (search rules) (c.check_node.ensures before behind) in
    ap (answer_as node_told) e
    ∙ front_err before b c.args.id c.args.lat c.args.lon c.in_err-id.field-0.0
    (indexed_tags b.strings (packed_numbers c.args.keys.now) (packed_numbers c.args.vals.now))
    (sym front ∙ c.in_err-id.was {u = tt})

pub returns-in_err-tags-clause-told : goal.returns-in_err-tags-clause-told
returns-in_err-tags-clause-told c before behind =
    let e : c.from_residual-in_err-tags.result ≡ Err c.in_err-tags.field-0.0 = search rules in
    let b = block_shown c.args.in_block in
    let front = front_read before b.head c.args.id c.args.lat c.args.lon c.check_node.result (search rules)
    (search rules) (search rules) (c.check_node.ensures before behind) in
    ap (answer_as node_told) e
    ∙ tagged-no_tags before b c.args.id c.args.lat c.args.lon c.in_ok-id.id c.in_ok-id.place
    c.in_err-tags.field-0.0
    (indexed_tags b.strings (packed_numbers c.args.keys.now) (packed_numbers c.args.vals.now))
    (sym front ∙ c.in_ok-id.was {u = tt})
    (ap (answer_as all_tags) (sym (c.in_err-tags.was {u = tt})) ∙ c.read_tags.ensures.told)

pub returns-clause-told : goal.returns-clause-told
returns-clause-told c before behind =
    let b = block_shown c.args.in_block in
    let front = front_read before b.head c.args.id c.args.lat c.args.lon c.check_node.result (search rules)
    (search rules) (search rules) (c.check_node.ensures before behind) in
    tagged-is before b c.args.id c.args.lat c.args.lon c.in_ok-id.id c.in_ok-id.place (all_tags c.in_ok-tags.tags) _
    (indexed_tags b.strings (packed_numbers c.args.keys.now) (packed_numbers c.args.vals.now))
    (sym front ∙ c.in_ok-id.was {u = tt})
    (ap (answer_as all_tags) (sym (c.in_ok-tags.was {u = tt})) ∙ c.read_tags.ensures.told) c.new.ensures.shown
