use Rattle.std.proofs.Common.{subst, ◌∙◌, ◌++◌, ap, Ok, length}
use Rattle.osm_entity.specs.BlockEntities.{GivesEntity, objects_left}
use Rattle.osm_entity.specs.EntityViews.{entity_told}
use Rattle.extract_pass.specs.BlobReading.{AnswersEntity}
use Rattle.extract_pass.proofs.BlockGiven.{so-first, so-next, so-stopped, so-all, so-fault}
use Rattle.extract_pass.proofs.BlockGiven.{fit-first, fit-next}
use Rattle.extract_pass.proofs.block_pass.read_all.Goals as goal

pub loop-entity-init : goal.loop-entity-init
loop-entity-init g c = (
  c.requires.lent,
  λ first before behind stands rising. so-first (g.R.EntityReader.stands first c.args.reader.now) before
      (objects_left c.args.entities) c.args.order.now behind stands,
  fit-first (objects_left c.args.entities) c.args.order.now (length c.args.block.now) c.requires.fit,
)

pub read-requires-clause-few : goal.read-requires-clause-few
read-requires-clause-few g c =
    let new = c.next.new.order in
    let left = objects_left c.loop-entity.entities in
    let rest = objects_left c.next.new.self in
    (fit-next left rest c.loop-entity.order new (length c.args.block.now) c.in-Ok-Some.entity c.loop-entity.invariant.2
    (λ es h. subst (λ o. GivesEntity es left c.loop-entity.order o rest new)
    (c.in-Ok-Some.is ∙ ap Ok c.in-Ok-Some.field-0-is) (c.next.ensures.gives es h))).0

pub read-requires-clause-stood : goal.read-requires-clause-stood
read-requires-clause-stood g c =
    let (first, before, behind, stands, rising) = c.requires.stood in
    let so = c.loop-entity.invariant.1 first before behind stands rising in
    (first, before ++ so.given, so.stands)

pub loop-entity-preserved : goal.loop-entity-preserved
loop-entity-preserved g c = (
  c.next.ensures.block ∙ c.loop-entity.invariant.0,
  λ first before behind stands rising.
      let old = c.loop-entity.order in
      let new = c.next.new.order in
      let left = objects_left c.loop-entity.entities in
      let rest = objects_left c.next.new.self in
      let e = c.in-Ok-Some.entity in
      let Stands = g.R.EntityReader.stands first c.loop-entity.reader in
      let Now = g.R.EntityReader.stands first c.read.new.self in
      let StoppedAt = g.R.EntityReader.stopped first c.read.new.self in
      so-next (Unit {0}) Stands Now StoppedAt before (objects_left c.args.entities) left rest old new e _ rising
      (c.loop-entity.invariant.1 first before behind stands rising)
      (λ es h. subst (λ o. GivesEntity es left old o rest new) (c.in-Ok-Some.is ∙ ap Ok c.in-Ok-Some.field-0-is)
      (c.next.ensures.gives es h))
      (λ es more rises has. subst (AnswersEntity Now StoppedAt es (entity_told e)) c.in_default.is
      (c.read.ensures first es more rises has)),
  (fit-next (objects_left c.loop-entity.entities) (objects_left c.next.new.self) c.loop-entity.order c.next.new.order
      (length c.args.block.now) c.in-Ok-Some.entity c.loop-entity.invariant.2
      (λ es h. subst (λ o. GivesEntity es (objects_left c.loop-entity.entities) c.loop-entity.order o
      (objects_left c.next.new.self) c.next.new.order) (c.in-Ok-Some.is ∙ ap Ok c.in-Ok-Some.field-0-is)
      (c.next.ensures.gives es h))).1,
)

pub returns-in-Err-read : goal.returns-in-Err-read
returns-in-Err-read g c first before behind stands rising =
    let old = c.loop-entity.order in
    let new = c.next.new.order in
    let left = objects_left c.loop-entity.entities in
    let rest = objects_left c.next.new.self in
    let e = c.in-Ok-Some.entity in
    let Stands = g.R.EntityReader.stands first c.loop-entity.reader in
    let Now = g.R.EntityReader.stands first c.read.new.self in
    let StoppedAt = g.R.EntityReader.stopped first c.read.new.self in
    so-stopped (Unit {0}) (Unit {0}) Stands Now StoppedAt before (objects_left c.args.entities) left rest old new new e _
    rising (c.loop-entity.invariant.1 first before behind stands rising)
    (λ es h. subst (λ o. GivesEntity es left old o rest new) (c.in-Ok-Some.is ∙ ap Ok c.in-Ok-Some.field-0-is)
    (c.next.ensures.gives es h))
    (λ es more rises has. subst (AnswersEntity Now StoppedAt es (entity_told e)) c.in-Err-read.is
    (c.read.ensures first es more rises has))

pub returns-in-Ok-None : goal.returns-in-Ok-None
returns-in-Ok-None g c first before behind stands rising =
    let old = c.loop-entity.order in
    let new = c.next.new.order in
    let left = objects_left c.loop-entity.entities in
    let rest = objects_left c.next.new.self in
    so-all (Unit {0}) (g.R.EntityReader.stands first c.loop-entity.reader)
    (g.R.EntityReader.stopped first c.loop-entity.reader) before (objects_left c.args.entities) left rest old new tt
    (c.loop-entity.invariant.1 first before behind stands rising)
    (λ es h. subst (λ o. GivesEntity es left old o rest new) (c.in-Ok-None.is ∙ ap Ok c.in-Ok-None.field-0-is)
    (c.next.ensures.gives es h))

pub returns-in-Err : goal.returns-in-Err
returns-in-Err g c first before behind stands rising =
    let old = c.loop-entity.order in
    let new = c.next.new.order in
    let left = objects_left c.loop-entity.entities in
    let rest = objects_left c.next.new.self in
    so-fault (Unit {0}) (g.R.EntityReader.stands first c.loop-entity.reader)
    (g.R.EntityReader.stopped first c.loop-entity.reader) before (objects_left c.args.entities) left rest old new new
    c.in-Err.fault (c.loop-entity.invariant.1 first before behind stands rising)
    (λ es h. subst (λ o. GivesEntity es left old o rest new) c.in-Err.is (c.next.ensures.gives es h))
