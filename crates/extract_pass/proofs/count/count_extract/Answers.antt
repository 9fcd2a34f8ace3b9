use Rattle.std.proofs.Common.{subst}
use Rattle.mf_edge.specs.Stream.{at}
use Rattle.extract_pass.specs.EntityPass.{TellsPass, TellsPassOf}
use Rattle.extract_pass.specs.Counting.{HasCounted, NeverStops}
use Rattle.extract_pass.proofs.Counted.{tells-ok, tells-err, exact-ok, exact-err}
use Rattle.extract_pass.proofs.count.count_extract.Goals as goal

pub read_entities-requires-clause-begun : goal.read_entities-requires-clause-begun
read_entities-requires-clause-begun g c = (c.new-counts.result, c.new-counts.ensures)

pub returns-in-Err-clause-told : goal.returns-in-Err-clause-told
returns-in-Err-clause-told g c =
    let first = c.new-counts.result in
    let now = c.read_entities.new.reader in
    let old = at g.S.Source.state c.args.src.now in
    let new = at g.S.Source.state c.read_entities.new.src in
    tells-err first now c.args.words c.in-Err.fault old new
    (subst (λ r. TellsPass (HasCounted first now) (NeverStops first now) old r new) c.in-Err.is
    (c.read_entities.ensures.told first c.new-counts.ensures))

pub returns-in-Err-clause-exact : goal.returns-in-Err-clause-exact
returns-in-Err-clause-exact g c all told =
    let first = c.new-counts.result in
    let now = c.read_entities.new.reader in
    exact-err first now c.args.words c.in-Err.fault all
    (subst (TellsPassOf (HasCounted first now) (NeverStops first now) all) c.in-Err.is
    (c.read_entities.ensures.exact first all c.new-counts.ensures told))

pub returns-in-Ok-clause-told : goal.returns-in-Ok-clause-told
returns-in-Ok-clause-told g c =
    let first = c.new-counts.result in
    let now = c.read_entities.new.reader in
    let old = at g.S.Source.state c.args.src.now in
    let new = at g.S.Source.state c.read_entities.new.src in
    tells-ok first now c.args.words c.in-Ok.bounds c.or.result old new c.or.ensures
    (subst (λ r. TellsPass (HasCounted first now) (NeverStops first now) old r new) c.in-Ok.is
    (c.read_entities.ensures.told first c.new-counts.ensures))

pub returns-in-Ok-clause-exact : goal.returns-in-Ok-clause-exact
returns-in-Ok-clause-exact g c all told =
    let first = c.new-counts.result in
    let now = c.read_entities.new.reader in
    exact-ok first now c.args.words c.in-Ok.bounds c.or.result all c.or.ensures
    (subst (TellsPassOf (HasCounted first now) (NeverStops first now) all) c.in-Ok.is
    (c.read_entities.ensures.exact first all c.new-counts.ensures told))
