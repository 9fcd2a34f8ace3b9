use Rattle.std.proofs.Common.{rules, length}
use Rattle.osm_entity.proofs.MemberRows.{PackedRow, next-row, next-member, other-members}
use Rattle.osm_entity.proofs.MemberRows.{rows-no_id, no-member, no-members}
use Rattle.osm_entity.proofs.members.MemberCursor.next.Goals as goal

pub returns-in_default-first_packed-clause-first :
    goal.returns-in_default-first_packed-clause-first
returns-in_default-first_packed-clause-first c =
    let self = c.args.self.now in
    no-member self.block.now self.places.now _
    (rows-no_id self.sum self.roles.now self.ids.now self.types.now c.in_default-first_packed.ensures.numbers)

pub returns-in_default-first_packed-clause-rest : goal.returns-in_default-first_packed-clause-rest
returns-in_default-first_packed-clause-rest c =
    let self = c.args.self.now in
    no-members self.block.now self.places.now _
    (rows-no_id self.sum self.roles.now self.ids.now self.types.now c.in_default-first_packed.ensures.numbers)

pub overflow_add-id : goal.overflow_add-id
overflow_add-id c =
    let self = c.args.self.now in
    (next-row (length self.places.now) self.sum c.unzigzag.result self.roles.now self.ids.now self.types.now
    c.in-Some.role c.in-Some-first_packed.difference c.in-Some-first_packed-2.kind c.in-Some.roles.now
    c.in-Some-first_packed.ids.now c.in-Some-first_packed-2.types.now (search rules) (search rules) c.unzigzag.ensures
    self.told (record {
      role = c.in-Some.ensures.numbers;
      id = c.in-Some-first_packed.ensures.numbers;
      type = c.in-Some-first_packed-2.ensures.numbers;
    })).fits

pub text-role-requires : goal.text-role-requires
text-role-requires c =
    let self = c.args.self.now in
    (next-row (length self.places.now) self.sum c.unzigzag.result self.roles.now self.ids.now self.types.now
    c.in-Some.role c.in-Some-first_packed.difference c.in-Some-first_packed-2.kind c.in-Some.roles.now
    c.in-Some-first_packed.ids.now c.in-Some-first_packed-2.types.now (search rules) (search rules) c.unzigzag.ensures
    self.told (record {
      role = c.in-Some.ensures.numbers;
      id = c.in-Some-first_packed.ensures.numbers;
      type = c.in-Some-first_packed-2.ensures.numbers;
    })).known

pub invariant_of-self : goal.invariant_of-self
invariant_of-self c =
    let self = c.args.self.now in
    record {
      texts = self.texts;
      whole_roles = c.in-Some.ensures.whole;
      whole_ids = c.in-Some-first_packed.ensures.whole;
      whole_types = c.in-Some-first_packed-2.ensures.whole;
      told = (next-row (length self.places.now) self.sum c.unzigzag.result self.roles.now self.ids.now
          self.types.now c.in-Some.role c.in-Some-first_packed.difference c.in-Some-first_packed-2.kind
          c.in-Some.roles.now c.in-Some-first_packed.ids.now c.in-Some-first_packed-2.types.now (search rules)
          (search rules) c.unzigzag.ensures self.told (record {
            role = c.in-Some.ensures.numbers;
            id = c.in-Some-first_packed.ensures.numbers;
            type = c.in-Some-first_packed-2.ensures.numbers;
          })).others;
    }

pub kind_of-requires : goal.kind_of-requires
kind_of-requires c =
    let self = c.args.self.now in
    (next-row (length self.places.now) self.sum c.unzigzag.result self.roles.now self.ids.now self.types.now
    c.in-Some.role c.in-Some-first_packed.difference c.in-Some-first_packed-2.kind c.in-Some.roles.now
    c.in-Some-first_packed.ids.now c.in-Some-first_packed-2.types.now (search rules) (search rules) c.unzigzag.ensures
    self.told (record {
      role = c.in-Some.ensures.numbers;
      id = c.in-Some-first_packed.ensures.numbers;
      type = c.in-Some-first_packed-2.ensures.numbers;
    })).kind

pub returns-clause-first : goal.returns-clause-first
returns-clause-first c =
    let self = c.args.self.now in
    let row : PackedRow self.roles.now self.ids.now self.types.now c.in-Some.role c.in-Some-first_packed.difference
    c.in-Some-first_packed-2.kind c.in-Some.roles.now c.in-Some-first_packed.ids.now
    c.in-Some-first_packed-2.types.now = record {
      role = c.in-Some.ensures.numbers;
      id = c.in-Some-first_packed.ensures.numbers;
      type = c.in-Some-first_packed-2.ensures.numbers;
    } in
    let next = next-row (length self.places.now) self.sum c.unzigzag.result self.roles.now self.ids.now
    self.types.now c.in-Some.role c.in-Some-first_packed.difference c.in-Some-first_packed-2.kind
    c.in-Some.roles.now c.in-Some-first_packed.ids.now c.in-Some-first_packed-2.types.now (search rules)
    (search rules) c.unzigzag.ensures self.told row in
    next-member self.block.now self.places.now self.sum _ self.roles.now self.ids.now self.types.now
    c.in-Some.role c.in-Some-first_packed.difference c.in-Some-first_packed-2.kind c.in-Some.roles.now
    c.in-Some-first_packed.ids.now c.in-Some-first_packed-2.types.now _ _ row next.is c.kind_of.ensures
    c.text-role.ensures

pub returns-clause-rest : goal.returns-clause-rest
returns-clause-rest c =
    let self = c.args.self.now in
    let row : PackedRow self.roles.now self.ids.now self.types.now c.in-Some.role c.in-Some-first_packed.difference
    c.in-Some-first_packed-2.kind c.in-Some.roles.now c.in-Some-first_packed.ids.now
    c.in-Some-first_packed-2.types.now = record {
      role = c.in-Some.ensures.numbers;
      id = c.in-Some-first_packed.ensures.numbers;
      type = c.in-Some-first_packed-2.ensures.numbers;
    } in
    let next = next-row (length self.places.now) self.sum c.unzigzag.result self.roles.now self.ids.now
    self.types.now c.in-Some.role c.in-Some-first_packed.difference c.in-Some-first_packed-2.kind
    c.in-Some.roles.now c.in-Some-first_packed.ids.now c.in-Some-first_packed-2.types.now (search rules)
    (search rules) c.unzigzag.ensures self.told row in
    other-members self.block.now self.places.now self.sum _ self.roles.now self.ids.now self.types.now
    c.in-Some.role c.in-Some-first_packed.difference c.in-Some-first_packed-2.kind c.in-Some.roles.now
    c.in-Some-first_packed.ids.now c.in-Some-first_packed-2.types.now row next.is
