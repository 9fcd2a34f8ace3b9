use Rattle.mf_rows.proofs.Redrawn.{drawn-there, same-there, redrawn-is}
use Rattle.mf_rows.proofs.laws.what_a_record_is_drawn_from.Goals as goal

pub returns-clause-there : goal.returns-clause-there
returns-clause-there c = λ units r wide is. drawn-there units r wide is

pub returns-clause-same : goal.returns-clause-same
returns-clause-same c = λ units r wide is. same-there units r wide is

pub returns-clause-other : goal.returns-clause-other
returns-clause-other c = λ units others r wide is drawn. redrawn-is units r wide is others drawn
