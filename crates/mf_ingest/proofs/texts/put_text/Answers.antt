use Rattle.std.proofs.Common.{rules, ap, ◌∙◌, inl, inr}
use Rattle.mf_base.specs.TagCursor.{all_tags, block_of}
use Rattle.mf_rows.specs.Records.{texts_told}
use Rattle.mf_ingest.proofs.Spans.{put-none, put-absent, put-text}
use Rattle.mf_ingest.proofs.texts.put_text.Goals as goal
use Rattle.mf_ingest.proofs.texts.put_text.Goals.{else-len-ge1-via-then-len-ge1+else-len-le1020, else-len-ge1-via-else-len-ge1}

pub returns-then-len-le1020-clause-put : goal.returns-then-len-le1020-clause-put
returns-then-len-le1020-clause-put c = ap (texts_told (block_of c.args.tags)) c.push.ensures.items
    ∙ put-text (block_of c.args.tags) c.args.spans.now.items c.args.slot c.args.key.now (all_tags c.args.tags)
    c.in-Some.start c.in-Some.len c.in-Some.ensures.value c.in-Some.ensures.within (search rules) (search rules)

pub returns-else-len-ge1-clause-put : goal.returns-else-len-ge1-clause-put
returns-else-len-ge1-clause-put c =
    put-absent (block_of c.args.tags) c.args.spans.now.items c.args.slot c.args.key.now (all_tags c.args.tags)
    c.in-Some.start c.in-Some.len c.in-Some.ensures.value c.in-Some.ensures.within
    (elim c.else-len-ge1.branch [
      | else-len-ge1-via-then-len-ge1+else-len-le1020 w ↦ inr (search rules)
      | else-len-ge1-via-else-len-ge1 w ↦ inl (search rules)
    ])

pub returns-in_default-clause-put : goal.returns-in_default-clause-put
returns-in_default-clause-put c =
    put-none (block_of c.args.tags) c.args.spans.now.items c.args.slot c.args.key.now (all_tags c.args.tags)
    (search rules)
