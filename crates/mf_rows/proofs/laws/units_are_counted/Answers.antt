use Rattle.mf_rows.proofs.Counted.{front-counted, units-counted, texts-counted}
use Rattle.mf_rows.proofs.laws.units_are_counted.Goals as goal

pub returns-clause-front : goal.returns-clause-front
returns-clause-front c = front-counted

pub returns-clause-all : goal.returns-clause-all
returns-clause-all c = units-counted

pub returns-clause-texts : goal.returns-clause-texts
returns-clause-texts c = texts-counted
