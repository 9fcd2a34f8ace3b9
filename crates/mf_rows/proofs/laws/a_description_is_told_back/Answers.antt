use Rattle.mf_rows.proofs.DescriptionAgain.{description-again, texts-fit}
use Rattle.mf_rows.proofs.laws.a_description_is_told_back.Goals as goal

pub returns-clause-told : goal.returns-clause-told
returns-clause-told c = description-again

pub returns-clause-texts : goal.returns-clause-texts
returns-clause-texts c = texts-fit
