use Rattle.std.proofs.Common.{◌∙◌}
use Rattle.tag_mapping.proofs.Joined.{there-text}
use Rattle.tag_mapping.proofs.entries.Entries.has_text.Goals as goal

pub returns : goal.returns
returns c e whole plain = c.is_some.ensures
    ∙ (c.get_index_of.ensures.found
    ∙ there-text c.self.inside.found.entries c.args.self.now c.args.text.now e c.self.invariant c.self.view_is whole
    plain)
