use Rattle.std.proofs.Common.{refl}
use Rattle.mf_run.proofs.Causes.{written-answered, input-answered, limit-answered, no_box-answered, read-answered}
use Rattle.mf_run.proofs.Causes.{write-answered, spill-answered, untouched-run, complete-run}
use Rattle.mf_run.proofs.laws.causes.Goals as goal

pub returns-clause-written : goal.returns-clause-written
returns-clause-written c = λ job old new run tells. let a = written-answered run in
    (a.0, a.1.compiled.told tells, a.1.said)

pub returns-clause-input : goal.returns-clause-input
returns-clause-input c = λ job old new run. let a = input-answered run in (a.0, a.1.compiled.accepted, a.1.said)

pub returns-clause-no_box : goal.returns-clause-no_box
returns-clause-no_box c = λ job old new run. let a = no_box-answered run in (a.compiled.accepted, a.said)

pub returns-clause-limit : goal.returns-clause-limit
returns-clause-limit c = λ job old new run tells. let a = limit-answered run in
    (a.0, a.1.compiled.told tells, a.1.said)

pub returns-clause-read : goal.returns-clause-read
returns-clause-read c = λ job old new run. let a = read-answered run in (a.compiled.faults.read refl, a.said)

pub returns-clause-write : goal.returns-clause-write
returns-clause-write c = λ job old new run. let a = write-answered run in
    (a.compiled.faults.write refl, a.compiled.told, a.said)

pub returns-clause-spill : goal.returns-clause-spill
returns-clause-spill c = λ job old new run. let a = spill-answered run in
    (a.compiled.faults.spill refl, a.compiled.told, a.said)

pub returns-clause-untouched : goal.returns-clause-untouched
returns-clause-untouched c = λ job old new. untouched-run

pub returns-clause-complete : goal.returns-clause-complete
returns-clause-complete c = λ job old new. complete-run
