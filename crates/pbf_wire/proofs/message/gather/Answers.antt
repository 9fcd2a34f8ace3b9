use Rattle.std.proofs.Common.{◌≡◌, ◌∙◌, ◌-◌, ◌∷◌, ℕ, List, [], refl, sym, ap, subst, arith, length, get_or}
use Rattle.std.proofs.Math.ListN.{length-set}
use Rattle.std.specs.Prelude.{slice_range}
use Rattle.osm_model.specs.Wire.{fields, len}
use Rattle.pbf_wire.specs.Message.{nothing, FoundSoFar}
use Rattle.pbf_wire.specs.Check.{place_in}
use Rattle.pbf_wire.proofs.MessageReads.{step_of, so_far-none, shows-bytes, gathered-more, gathered-unknown}
use Rattle.pbf_wire.proofs.MessageReads.{gathered-all, gathered-next, items-none, items-fault}
use Rattle.pbf_wire.proofs.message.gather.Goals as goal

pub loop-field-init : goal.loop-field-init
loop-field-init c = record {
  same = c.requires.same;
  behind = ([], sym c.new-fields.ensures);
  found = λ k at place. subst
      (λ b. FoundSoFar c.args.bytes.now (fields c.args.bytes.now).items k (get_or c.args.all.now at nothing)
      (fields b).items) (sym c.new-fields.ensures)
      (so_far-none c.args.bytes.now (fields c.args.bytes.now).items k (get_or c.args.all.now at nothing)
      (c.requires.none at));
}

pub with_value-requires : goal.with_value-requires
with_value-requires c bytes shows =
    let step = step_of c.args.bytes.now c.loop-field.fields c.next.new.self c.in-Ok-Some.field
    c.loop-field.invariant.behind (rw c.in-Ok-Some.field-0-is at c.in-Ok-Some.ensures.found) in
    let place = step.place bytes (shows-bytes _ _ _ step.shows shows) in
    omega (arith, place.fits, ap length c.left.ensures)

pub loop-field-preserved-in-Some : goal.loop-field-preserved-in-Some
loop-field-preserved-in-Some c =
    let message = c.args.bytes.now in
    let fs = (fields message).items in
    let step = step_of message c.loop-field.fields c.next.new.self c.in-Ok-Some.field c.loop-field.invariant.behind
    (rw c.in-Ok-Some.field-0-is at c.in-Ok-Some.ensures.found) in
    let end : length message - length c.left.result.now ≡ length message - length c.next.new.self =
    ap (λ b. length message - length b) c.left.ensures in
    let there : (bytes : List ℕ) → step.f.value ≡ len bytes
    → slice_range message (length message - length c.left.result.now - length bytes)
    (length message - length c.left.result.now) ≡ bytes =
    λ bytes e. ap (λ n. slice_range message (n - length bytes) n) end ∙ (step.place bytes e).there in
    let more : FoundSoFar message fs step.f.number (get_or c.loop-field.all c.in-Some.at nothing)
    (step.f ∷ (fields c.next.new.self).items)
    → FoundSoFar message fs step.f.number c.with_value.result (fields c.next.new.self).items =
    c.with_value.ensures message fs (fields c.next.new.self).items step.f.number step.f refl step.shows
    (omega arith) there in
    record {
      same = length-set c.loop-field.all c.in-Some.at c.with_value.result ∙ c.loop-field.invariant.same;
      behind = step.behind;
      found = gathered-more c.args.rules.now message fs
          (fields c.next.new.self).items c.loop-field.all step.f c.in-Some.at c.with_value.result
          c.loop-field.invariant.same
          (ap (place_in c.args.rules.now) (sym step.number) ∙ sym c.place_of.ensures ∙ c.in-Some.is) more
          (gathered-next c.args.rules.now message c.loop-field.fields c.next.new.self c.loop-field.all step.f
          step.left_is c.loop-field.invariant.found);
    }

pub loop-field-preserved : goal.loop-field-preserved
loop-field-preserved c =
    let message = c.args.bytes.now in
    let step = step_of message c.loop-field.fields c.next.new.self c.in-Ok-Some.field c.loop-field.invariant.behind
    (rw c.in-Ok-Some.field-0-is at c.in-Ok-Some.ensures.found) in
    record {
      same = c.loop-field.invariant.same;
      behind = step.behind;
      found = gathered-unknown c.args.rules.now message (fields message).items
          (fields c.next.new.self).items c.loop-field.all step.f
          (ap (place_in c.args.rules.now) (sym step.number) ∙ sym c.place_of.ensures ∙ c.in_default.is)
          (gathered-next c.args.rules.now message c.loop-field.fields c.next.new.self c.loop-field.all step.f
          step.left_is c.loop-field.invariant.found);
    }

pub returns-in-Ok-None : goal.returns-in-Ok-None
returns-in-Ok-None c =
    let reads = rw c.in-Ok-None.field-0-is at c.in-Ok-None.ensures.reads in
    gathered-all c.args.rules.now c.args.bytes.now (fields c.args.bytes.now).items _ c.loop-field.all
    (items-none _ reads.0) c.loop-field.invariant.found

pub returns-in-Err : goal.returns-in-Err
returns-in-Err c =
    gathered-all c.args.rules.now c.args.bytes.now (fields c.args.bytes.now).items _ c.loop-field.all
    (items-fault _ _ c.in-Err.ensures.reads.0) c.loop-field.invariant.found
