use Rattle.std.proofs.Common.{◌∙◌, sym, refl, arith}
use Rattle.pbf_wire.proofs.FieldWalk.{found_place, others_same, still_behind}
use Rattle.pbf_wire.proofs.lookup.bytes_place.Goals as goal

pub overflow_sub-result : goal.overflow_sub-result
overflow_sub-result c =
    let begins = rw c.in-Ok-Some.field-0-is at c.in-Ok-Some.ensures.found in
    let is = c.left.ensures ∙ begins.behind in
    let has = c.in-Some.ensures.some begins.field begins.shows in
    let found = found_place c.args.message.now c.loop-field.fields c.left.result.now begins.field c.args.number
    c.in-Some.size begins.size c.loop-field.invariant.0 c.loop-field.invariant.1 begins.front is has in
    omega (arith, found.fits)

pub returns-in-Some-clause-found : goal.returns-in-Some-clause-found
returns-in-Some-clause-found c =
    let begins = rw c.in-Ok-Some.field-0-is at c.in-Ok-Some.ensures.found in
    let is = c.left.ensures ∙ begins.behind in
    let has = c.in-Some.ensures.some begins.field begins.shows in
    let found = found_place c.args.message.now c.loop-field.fields c.left.result.now begins.field c.args.number
    c.in-Some.size begins.size c.loop-field.invariant.0 c.loop-field.invariant.1 begins.front is has in
    sym found.found

pub loop-field-preserved : goal.loop-field-preserved
loop-field-preserved c =
    let begins = rw c.in-Ok-Some.field-0-is at c.in-Ok-Some.ensures.found in
    let none = c.in_default-bytes_in.ensures.none begins.field begins.shows refl in (
      others_same c.args.message.now c.loop-field.fields c.next.new.self begins.field c.args.number begins.size
          c.loop-field.invariant.0 begins.front begins.behind none,
      still_behind c.args.message.now c.loop-field.fields c.next.new.self begins.size c.loop-field.invariant.1
          begins.behind,
    )
