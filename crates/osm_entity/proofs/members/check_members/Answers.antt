use Rattle.std.proofs.Common.{◌≡◌, ◌∙◌, ◌∷◌, Some, sym, ap, rules, map, to_z, of_z, w64, ℕ, ℤ, List}
use Rattle.mf_base.specs.Spelling.{unzigzag_of}
use Rattle.mf_base.specs.Steps.{fault_of}
use Rattle.mf_base.specs.Packed.{packed_numbers}
use Rattle.osm_entity.specs.MemberChecks.{members_behind}
use Rattle.osm_entity.proofs.MemberReads.{told-end, told-no_id, told-no_type, told-bad, told-next}
use Rattle.osm_entity.proofs.members.check_members.Goals as goal

-- the differences that are told by these bytes
abbrev told : List ℕ → List ℤ
told bytes = map unzigzag_of (packed_numbers bytes)

pub returns-in_default : goal.returns-in_default
returns-in_default c strings many =
    let sum = to_z w64 c.loop-role.sum-bits in
    told-end strings (packed_numbers c.args.roles.now) (told c.args.ids.now) (packed_numbers c.args.types.now) sum
    (packed_numbers c.loop-role.left_roles.now) (told c.loop-role.left_ids.now)
    (packed_numbers c.loop-role.left_types.now) _ (c.loop-role.invariant.same strings many)
    c.in_default.ensures.numbers (c.check_end.ensures strings sum)

pub returns-in_default-first_packed : goal.returns-in_default-first_packed
returns-in_default-first_packed c strings many =
    let sum = to_z w64 c.loop-role.sum-bits in
    told-no_id strings (packed_numbers c.args.roles.now) (told c.args.ids.now) (packed_numbers c.args.types.now) sum
    (packed_numbers c.loop-role.left_roles.now) (told c.loop-role.left_ids.now)
    (packed_numbers c.loop-role.left_types.now) _ _ (c.loop-role.invariant.same strings many)
    c.in-Some.ensures.numbers (ap (map unzigzag_of) c.in_default-first_packed.ensures.numbers)

pub returns-in_default-first_packed-2 : goal.returns-in_default-first_packed-2
returns-in_default-first_packed-2 c strings many =
    let sum = to_z w64 c.loop-role.sum-bits in
    told-no_type strings (packed_numbers c.args.roles.now) (told c.args.ids.now) (packed_numbers c.args.types.now) sum
    (packed_numbers c.loop-role.left_roles.now) (told c.loop-role.left_ids.now)
    (packed_numbers c.loop-role.left_types.now) _ _ (c.loop-role.invariant.same strings many)
    c.in-Some.ensures.numbers c.in_default-first_packed-2.ensures.numbers

pub returns-in-Err : goal.returns-in-Err
returns-in-Err c strings many =
    let sum = to_z w64 c.loop-role.sum-bits in
    let d = to_z w64 (of_z w64 c.unzigzag.result) in
    let is : d ≡ unzigzag_of c.in-Some-first_packed.difference = search rules in
    let others = told c.in-Some-first_packed.other_ids.now in
    ap Some c.fault_before.ensures
    ∙ told-bad strings (packed_numbers c.args.roles.now) (told c.args.ids.now) (packed_numbers c.args.types.now) sum
    (packed_numbers c.loop-role.left_roles.now) (told c.loop-role.left_ids.now)
    (packed_numbers c.loop-role.left_types.now) c.in-Some.role d c.in-Some-first_packed-2.kind
    (packed_numbers c.in-Some.other_roles.now) others (packed_numbers c.in-Some-first_packed-2.other_types.now)
    c.args.count c.in-Err.fault many (c.loop-role.invariant.same strings many)
    (record {
      role = c.in-Some.ensures.numbers;
      id = ap (map unzigzag_of) c.in-Some-first_packed.ensures.numbers ∙ ap (λ z. z ∷ others) (sym is);
      type = c.in-Some-first_packed-2.ensures.numbers;
    }) (sym c.next_id.ensures ∙ c.in-Err.is)

pub loop-role-preserved : goal.loop-role-preserved
loop-role-preserved c =
    let sum = to_z w64 c.loop-role.sum-bits in
    let d = to_z w64 (of_z w64 c.unzigzag.result) in
    let is : d ≡ unzigzag_of c.in-Some-first_packed.difference = search rules in
    let same_id : to_z w64 (of_z w64 c.in-Ok.id) ≡ c.in-Ok.id = search rules in
    let roles = packed_numbers c.in-Some.other_roles.now in
    let others = told c.in-Some-first_packed.other_ids.now in
    let types = packed_numbers c.in-Some-first_packed-2.other_types.now in
    record {
      same = λ strings many. c.loop-role.invariant.same strings many
          ∙ told-next strings sum (packed_numbers c.loop-role.left_roles.now) (told c.loop-role.left_ids.now)
          (packed_numbers c.loop-role.left_types.now) c.in-Some.role d c.in-Some-first_packed-2.kind roles others types
          c.args.count c.in-Ok.id many
          (record {
            role = c.in-Some.ensures.numbers;
            id = ap (map unzigzag_of) c.in-Some-first_packed.ensures.numbers ∙ ap (λ z. z ∷ others) (sym is);
            type = c.in-Some-first_packed-2.ensures.numbers;
          }) (sym c.next_id.ensures ∙ c.in-Ok.is)
          ∙ ap (λ z. fault_of (members_behind z strings roles others types)) (sym same_id);
      roles = c.in-Some.ensures.whole;
      ids = c.in-Some-first_packed.ensures.whole;
      types = c.in-Some-first_packed-2.ensures.whole;
    }
