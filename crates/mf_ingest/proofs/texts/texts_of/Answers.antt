use Rattle.std.proofs.Common.{rules}
use Rattle.mf_ingest.specs.Fronts.{tag_texts}
use Rattle.mf_ingest.proofs.texts.texts_of.Goals as goal

pub returns-clause-texts : goal.returns-clause-texts
unfolding tag_texts
returns-clause-texts c = search rules
