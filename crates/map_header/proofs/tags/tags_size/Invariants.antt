use Rattle.map_header.specs.Shown.{tags_in}
use Rattle.map_header.proofs.TagStrings.{TagsSized}
use Rattle.map_header.proofs.tags.tags_size.Given as goal

abbrev pub invariant-loop-index : goal.invariant-loop-index
invariant-loop-index g l = TagsSized (tags_in l.list (g.T.TagSource.names l.tags)) l.index l.size
