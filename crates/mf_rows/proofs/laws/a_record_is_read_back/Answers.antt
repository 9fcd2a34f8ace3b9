use Rattle.mf_rows.proofs.ReadAgain.{front-again, whole-again}
use Rattle.mf_rows.proofs.TextsAgain.{record-texts, record-again}
use Rattle.mf_rows.proofs.laws.a_record_is_read_back.Goals as goal

pub returns-clause-front : goal.returns-clause-front
returns-clause-front c = front-again

pub returns-clause-whole : goal.returns-clause-whole
returns-clause-whole c = whole-again

pub returns-clause-texts : goal.returns-clause-texts
returns-clause-texts c = λ units r wide is. record-texts units r wide is

pub returns-clause-again : goal.returns-clause-again
returns-clause-again c = λ units others r wide is head drawn. record-again units r wide is others head drawn
