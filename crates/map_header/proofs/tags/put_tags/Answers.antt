use Rattle.std.proofs.Common.{◌∙◌, arith}
use Rattle.map_model.specs.Header.{tag_list_bytes}
use Rattle.map_header.specs.Shown.{tags_in}
use Rattle.map_header.proofs.Putting.{grown}
use Rattle.map_header.proofs.TagStrings.{tags_put-none, tags_put-more, tags_put-room, tags_put-all}
use Rattle.map_header.proofs.tags.put_tags.Goals as goal

pub loop-index-init : goal.loop-index-init
loop-index-init g c =
    tags_put-none c.args.out.now c.put_be.new.out
    (tags_in c.args.list (g.T.TagSource.names c.args.tags.now)) c.from.result
    (c.from.ensures ∙ c.tag_count-count.ensures.count) c.put_be.ensures.appends

pub put_tag-requires-clause-room : goal.put_tag-requires-clause-room
put_tag-requires-clause-room g c =
    tags_put-room c.args.out.now c.loop-index.out
    (tags_in c.args.list (g.T.TagSource.names c.args.tags.now)) c.loop-index.index
    (omega (arith, c.loop-index-test.true, c.tag_count-count.ensures.count)) c.loop-index.invariant c.requires.room

pub loop-index-preserved : goal.loop-index-preserved
loop-index-preserved g c =
    tags_put-more c.args.out.now c.loop-index.out c.put_tag.new.out
    (tags_in c.args.list (g.T.TagSource.names c.args.tags.now))
    c.loop-index.index
    (omega (arith, c.loop-index-test.true, c.tag_count-count.ensures.count)) c.loop-index.invariant
    c.put_tag.ensures

pub returns-clause-appends : goal.returns-clause-appends
returns-clause-appends g c =
    tags_put-all c.args.out.now c.loop-index.out
    (tags_in c.args.list (g.T.TagSource.names c.args.tags.now)) c.loop-index.index
    (omega (arith, c.loop-index-test.false, c.tag_count-count.ensures.count)) c.loop-index.invariant

pub returns-clause-most : goal.returns-clause-most
returns-clause-most g c =
    let tags = tags_in c.args.list (g.T.TagSource.names c.args.tags.now) in
    let puts = tags_put-all c.args.out.now c.loop-index.out tags c.loop-index.index
    (omega (arith, c.loop-index-test.false, c.tag_count-count.ensures.count)) c.loop-index.invariant in
    omega (arith, grown c.args.out.now c.loop-index.out (tag_list_bytes tags) puts)
