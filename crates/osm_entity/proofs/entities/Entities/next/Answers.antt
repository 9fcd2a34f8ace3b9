use Rattle.std.proofs.Common.{◌∙◌, refl}
use Rattle.osm_entity.specs.BlockEntities.{unread}
use Rattle.osm_entity.proofs.EntityReads.{told-again, next-entity, next-fault}
use Rattle.osm_entity.proofs.OrderReads.{some-before, none-later}
use Rattle.osm_entity.proofs.entities.Entities.next.Goals as goal

pub returns-in-Some-clause-gives : goal.returns-in-Some-clause-gives
returns-in-Some-clause-gives c before behind =
    let self = c.args.self.now in
    let again = told-again before self.fault (unread self) c.in-Some.fault c.in-Some.is in
    (again.reads, again.left_so, refl)

pub returns-in-Ok-Some-clause-gives : goal.returns-in-Ok-Some-clause-gives
returns-in-Ok-Some-clause-gives c before behind =
    let old = c.args.self.now in
    let new = c.find.new.self in
    let next = next-entity before old.fault new.fault (unread old) (unread new) c.in-Ok-Some.entity c.in-Ok-Some.field-0
    c.in-None.is (c.find.ensures.fault ∙ c.in-None.is) c.in-Ok-Some.field-0-is
    (c.in-Ok-Some.ensures.gives before behind) in
    (next.reads, c.note.ensures before behind next.later)

pub note-requires : goal.note-requires
note-requires c =
    let old = c.args.self.now in
    let new = c.find.new.self in
    let (before, behind) = some-before c.args.order.now in
    let next = next-entity before old.fault new.fault (unread old) (unread new) c.in-Ok-Some.entity c.in-Ok-Some.field-0
    c.in-None.is (c.find.ensures.fault ∙ c.in-None.is) c.in-Ok-Some.field-0-is
    (c.in-Ok-Some.ensures.gives before behind) in
    none-later before c.args.order.now _ behind next.later

pub returns-in-Ok-Some-clause-shorter : goal.returns-in-Ok-Some-clause-shorter
returns-in-Ok-Some-clause-shorter c =
    let old = c.args.self.now in
    let new = c.find.new.self in
    let (before, behind) = some-before c.args.order.now in
    let next = next-entity before old.fault new.fault (unread old) (unread new) c.in-Ok-Some.entity c.in-Ok-Some.field-0
    c.in-None.is (c.find.ensures.fault ∙ c.in-None.is) c.in-Ok-Some.field-0-is
    (c.in-Ok-Some.ensures.gives before behind) in
    next.shorter

pub returns-in-Err-clause-gives : goal.returns-in-Err-clause-gives
returns-in-Err-clause-gives c before behind =
    let old = c.args.self.now in (
      next-fault before old.fault (unread old) c.in-Err.fault c.in-None.is (c.in-Err.ensures.gives before behind),
      refl,
      refl,
    )
