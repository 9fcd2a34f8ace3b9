use Rattle.std.proofs.Common.{rules}
use Rattle.osm_entity.proofs.SignedSums.{next-sum, next-ref, other-refs, no-ref, no-refs}
use Rattle.osm_entity.proofs.refs.RefCursor.next.Goals as goal

pub returns-in_default-clause-first : goal.returns-in_default-clause-first
returns-in_default-clause-first c =
    let self = c.args.self.now in no-ref self.sum self.rest.now c.in_default.ensures.numbers

pub returns-in_default-clause-rest : goal.returns-in_default-clause-rest
returns-in_default-clause-rest c =
    let self = c.args.self.now in no-refs self.sum self.rest.now c.in_default.ensures.numbers

pub overflow_add-sum : goal.overflow_add-sum
overflow_add-sum c =
    let self = c.args.self.now in
    (next-sum self.sum c.unzigzag.result c.in-Some.difference self.rest.now c.in-Some.rest.now (search rules)
    (search rules) c.unzigzag.ensures self.signed c.in-Some.ensures.numbers).fits

pub invariant_of-self : goal.invariant_of-self
invariant_of-self c =
    let self = c.args.self.now in
    record {
      whole = c.in-Some.ensures.whole;
      signed = (next-sum self.sum c.unzigzag.result c.in-Some.difference self.rest.now c.in-Some.rest.now (search rules)
          (search rules)
          c.unzigzag.ensures self.signed c.in-Some.ensures.numbers).signed;
    }

pub returns-clause-first : goal.returns-clause-first
returns-clause-first c =
    let self = c.args.self.now in
    next-ref self.sum _ c.in-Some.difference self.rest.now c.in-Some.rest.now
    (next-sum self.sum c.unzigzag.result c.in-Some.difference self.rest.now c.in-Some.rest.now (search rules)
    (search rules) c.unzigzag.ensures self.signed c.in-Some.ensures.numbers).is c.in-Some.ensures.numbers

pub returns-clause-rest : goal.returns-clause-rest
returns-clause-rest c =
    let self = c.args.self.now in
    other-refs self.sum _ c.in-Some.difference self.rest.now c.in-Some.rest.now
    (next-sum self.sum c.unzigzag.result c.in-Some.difference self.rest.now c.in-Some.rest.now (search rules)
    (search rules) c.unzigzag.ensures self.signed c.in-Some.ensures.numbers).is c.in-Some.ensures.numbers
