use Rattle.std.proofs.Common.{◌∙◌, sym, rules, to_z, of_z, w64, refl}
use Rattle.osm_entity.proofs.SumReads.{signed-none}
use Rattle.osm_entity.proofs.SignedSums.{told-wide, told-narrow}
use Rattle.osm_entity.proofs.refs.are_in_range.Goals as goal

pub returns-in-None : goal.returns-in-None
returns-in-None c =
    let sum = to_z w64 c.loop-difference.sum-bits in
    let d = to_z w64 (of_z w64 c.unzigzag.result) in
    sym (c.loop-difference.invariant.same
    ∙ told-wide sum sum d c.in-Some.difference c.loop-difference.rest.now c.in-Some.behind.now c.checked_sum.result
    c.checked_sum.ensures refl (search rules) c.in-None.is c.in-Some.ensures.numbers)

pub loop-difference-preserved : goal.loop-difference-preserved
loop-difference-preserved c =
    let sum = to_z w64 c.loop-difference.sum-bits in
    let d = to_z w64 (of_z w64 c.unzigzag.result) in
    let next = c.in-Some-checked_sum.next in
    record {
      same = c.loop-difference.invariant.same
          ∙ told-narrow sum sum d next (to_z w64 (of_z w64 next)) c.in-Some.difference c.loop-difference.rest.now
          c.in-Some.behind.now c.checked_sum.result c.checked_sum.ensures refl (search rules)
          c.in-Some-checked_sum.is (search rules) c.in-Some.ensures.numbers;
      whole = c.in-Some.ensures.whole;
    }

pub returns : goal.returns
returns c = sym (c.loop-difference.invariant.same ∙ signed-none _ _ c.in_default.ensures.numbers)
