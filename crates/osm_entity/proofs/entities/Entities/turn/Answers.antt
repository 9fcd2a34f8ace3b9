use Rattle.std.proofs.Common.{◌≡◌, ap, rules, Err, ◌++◌, subst, Ok}
use Rattle.osm_entity.specs.InBlock.{block_shown}
use Rattle.osm_entity.specs.Groups.{group_left}
use Rattle.osm_entity.specs.BlockEntities.{groups_in, GivesNextGroup}
use Rattle.osm_entity.proofs.BlockTurns.{none_left, group-faults, both-none, next-all}
use Rattle.osm_entity.proofs.entities.Entities.turn.Goals as goal

pub returns-in_err-next_group-in-None-clause-gives : goal.returns-in_err-next_group-in-None-clause-gives
returns-in_err-next_group-in-None-clause-gives c before behind =
    let e : c.from_residual-in_err-next_group-in-None.result ≡ Err c.in_err-next_group-in-None.field-0.0 =
    search rules in
    let b = block_shown c.args.self.now.in_block in
    let left = group_left b c.args.self.now.group in
    let none = none_left before left (group_left b c.next.new.self) c.in_ok-entity.field-0 c.in-None.is
    (c.in_ok-entity.ensures.gives before behind) in
    let told = c.in_err-next_group-in-None.ensures.gives b in
    group-faults before left (groups_in b c.args.self.now.groups.now) told.0 _ c.in_err-next_group-in-None.field-0.0
    c.from_residual-in_err-next_group-in-None.result none.none told.1 e

pub returns-in-None-2-clause-gives : goal.returns-in-None-2-clause-gives
returns-in-None-2-clause-gives c before behind =
    let b = block_shown c.args.self.now.in_block in
    let left = group_left b c.args.self.now.group in
    let none = none_left before left (group_left b c.next.new.self) c.in_ok-entity.field-0 c.in-None.is
    (c.in_ok-entity.ensures.gives before behind) in (
      both-none left (groups_in b c.args.self.now.groups.now) none.none
          (subst (λ o. GivesNextGroup b c.args.self.now.groups.now (Ok o)) c.in-None-2.is
          (c.in_ok-next_group-in-None.ensures.gives b)),
      ap (λ xs. xs ++ groups_in b c.args.self.now.groups.now) none.same,
    )

pub returns-in-Some-2-clause-gives : goal.returns-in-Some-2-clause-gives
returns-in-Some-2-clause-gives c before behind =
    let b = block_shown c.args.self.now.in_block in
    let left = group_left b c.args.self.now.group in
    let none = none_left before left (group_left b c.next.new.self) c.in_ok-entity.field-0 c.in-None.is
    (c.in_ok-entity.ensures.gives before behind) in
    next-all left (groups_in b c.args.self.now.groups.now) (group_left b c.in-Some-2.group)
    (groups_in b c.in-Some-2.rest.now) none.none
    (subst (λ o. GivesNextGroup b c.args.self.now.groups.now (Ok o)) c.in-Some-2.is
    (c.in_ok-next_group-in-None.ensures.gives b))
