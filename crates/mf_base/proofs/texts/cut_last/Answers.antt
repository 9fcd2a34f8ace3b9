use Rattle.mf_base.proofs.Cutting.{cut_last-split}
use Rattle.mf_base.proofs.texts.cut_last.Goals as goal

pub returns : goal.returns
returns c = cut_last-split c.args.at c.args.text.now c.rsplit_once.result c.rsplit_once.ensures.cases c.requires
