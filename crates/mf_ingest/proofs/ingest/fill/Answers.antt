use Rattle.std.proofs.Common.{subst}
use Rattle.mf_edge.specs.Stream.{at}
use Rattle.extract_pass.specs.EntityPass.{TellsPass}
use Rattle.mf_ingest.specs.Ingesting.{HasIngested, HasFailed}
use Rattle.mf_ingest.proofs.Ingested.{keeps, faults-same, faults-one, within}
use Rattle.mf_ingest.proofs.ingest.fill.Goals as goal

pub read_entities-requires-clause-begun : goal.read_entities-requires-clause-begun
read_entities-requires-clause-begun g c = (c.args.ingester.now, c.requires.begun)

pub returns-clause-told : goal.returns-clause-told
returns-clause-told g c = c.read_entities.ensures.told c.args.ingester.now c.requires.begun

pub returns-clause-exact : goal.returns-clause-exact
returns-clause-exact g c all told = c.read_entities.ensures.exact c.args.ingester.now all c.requires.begun told

pub returns-clause-spill : goal.returns-clause-spill
returns-clause-spill g c stopped =
    let state = g.P.Spill.state in
    let first = c.args.ingester.now in
    let now = c.read_entities.new.reader in
    let old = at g.S.Source.state c.args.src.now in
    let new = at g.S.Source.state c.read_entities.new.src in
    faults-one state first now old new
    (subst (λ r. TellsPass (HasIngested state first now) (HasFailed state first now) old r new) stopped
    (returns-clause-told g c))

pub returns-clause-same_store : goal.returns-clause-same_store
returns-clause-same_store g c other =
    faults-same g.P.Spill.state c.args.ingester.now c.read_entities.new.reader (at g.S.Source.state c.args.src.now)
    (at g.S.Source.state c.read_entities.new.src) c.read_entities.result other (returns-clause-told g c)

pub returns-clause-same : goal.returns-clause-same
returns-clause-same g c =
    (keeps g.P.Spill.state c.args.ingester.now c.read_entities.new.reader (at g.S.Source.state c.args.src.now)
    (at g.S.Source.state c.read_entities.new.src) c.read_entities.result (returns-clause-told g c)).1.same

pub returns-clause-within : goal.returns-clause-within
returns-clause-within g c all told small =
    within g.P.Spill.state c.args.ingester.now c.read_entities.new.reader all c.read_entities.result small
    (returns-clause-exact g c all told)

pub returns-clause-reference : goal.returns-clause-reference
returns-clause-reference g c =
    (keeps g.P.Spill.state c.args.ingester.now c.read_entities.new.reader (at g.S.Source.state c.args.src.now)
    (at g.S.Source.state c.read_entities.new.src) c.read_entities.result (returns-clause-told g c)).1.same_reference
