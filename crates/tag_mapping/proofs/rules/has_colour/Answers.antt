use Rattle.std.proofs.Common.{codes}
use Rattle.std.proofs.lemmas.Str.Pattern.{contains_text}
use Rattle.tag_mapping.proofs.Colour.{has-text}
use Rattle.tag_mapping.proofs.rules.has_colour.Goals as goal

pub returns : goal.returns
returns c = has-text (codes ":colour") c.args.text.now c.contains.result
    (contains_text c.contains.result (codes ":colour") c.args.text.now c.contains.ensures.cases)
