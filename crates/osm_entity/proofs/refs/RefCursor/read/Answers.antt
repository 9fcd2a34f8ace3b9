use Rattle.std.proofs.Common.{◌∙◌, sym}
use Rattle.osm_entity.proofs.SignedSums.{refs-wide, refs-narrow}
use Rattle.osm_entity.proofs.refs.RefCursor.read.Goals as goal

pub returns-then-not-are_in_range : goal.returns-then-not-are_in_range
returns-then-not-are_in_range c =
    refs-wide c.args.differences.now (sym c.are_in_range.ensures ∙ c.if-not-are_in_range.true)

pub returns : goal.returns
returns c = refs-narrow c.args.differences.now (sym c.are_in_range.ensures ∙ c.if-not-are_in_range.false)
