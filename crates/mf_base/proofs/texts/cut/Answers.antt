use Rattle.mf_base.proofs.Cutting.{cut-split}
use Rattle.mf_base.proofs.texts.cut.Goals as goal

pub returns : goal.returns
returns c = cut-split c.args.at c.args.text.now c.split_once.result c.split_once.ensures.cases c.requires
