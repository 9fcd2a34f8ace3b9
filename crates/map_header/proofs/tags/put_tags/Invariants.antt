use Rattle.map_header.specs.Shown.{tags_in}
use Rattle.map_header.proofs.TagStrings.{TagsPut}
use Rattle.map_header.proofs.tags.put_tags.Given as goal

abbrev pub invariant-loop-index : goal.invariant-loop-index
invariant-loop-index g l = TagsPut l.fn.out l.out (tags_in l.list (g.T.TagSource.names l.tags)) l.index
