use Rattle.mf_base.proofs.WordReading.{value-of}
use Rattle.mf_base.proofs.words.word_of.Goals as goal

pub returns : goal.returns
returns c = value-of _ c.args.name.now _ c.requires c.value_after.ensures
