use Rattle.std.proofs.Common.{arith}
use Rattle.map_header.specs.Shown.{tags_in}
use Rattle.map_header.proofs.TagStrings.{tags_sized-all}
use Rattle.map_header.proofs.tags.tags_size.Goals as goal

pub returns-clause-size : goal.returns-clause-size
returns-clause-size g c =
    tags_sized-all (tags_in c.args.list (g.T.TagSource.names c.args.tags.now)) c.loop-index.index c.loop-index.size
    (omega (arith, c.loop-index-test.false, c.tag_count-count.ensures.count)) c.loop-index.invariant
