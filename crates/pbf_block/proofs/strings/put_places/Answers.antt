use Rattle.std.proofs.Common.{◌≡◌, ◌∙◌, ◌∷◌, ◌++◌, ◌+◌, ◌-◌, [], refl, None, sym, ap, subst, arith, rules, length, Some}
use Rattle.std.specs.Prelude.{slice_range, cond}
use Rattle.std.specs.Option.{option_or}
use Rattle.std.specs.Str.{is_utf8}
use Rattle.mf_base.specs.NumberReading.{varint_front}
use Rattle.mf_base.specs.Entries.{text_at}
use Rattle.osm_model.specs.declared.numbers.TheConstants.{STRINGTABLE_S}
use Rattle.pbf_wire.proofs.MessageReads.{bytes-none, bytes-fault}
use Rattle.pbf_block.proofs.StringReads.{IndexedSoFar, entry_place, reads_of, indexed-none, indexed-more, indexed-pass}
use Rattle.pbf_block.proofs.StringReads.{indexed-told, indexed-there, indexed-over, on_ok}
use Rattle.pbf_block.proofs.strings.put_places.Goals as goal

pub loop-field-init : goal.loop-field-init
loop-field-init c = record {
  so = subst (λ b. IndexedSoFar c.args.block.now
      (slice_range c.args.block.now c.args.start c.args.end) c.args.places.now.items None b) (sym c.new-left.ensures)
      (indexed-none c.args.block.now
      (slice_range c.args.block.now c.args.start c.args.end) c.args.places.now.items c.requires.empty);
  capacity = refl;
}

pub overflow_cast-end : goal.overflow_cast-end
overflow_cast-end c =
    let begins = rw c.in-Ok-Some.field-0-is at c.in-Ok-Some.ensures.found in
    let is = c.in-Some.ensures.some begins.field begins.shows in
    let place = entry_place c.args.block.now c.loop-field.left c.args.start c.args.end begins.field c.in-Some.text.now
    begins.size c.requires.within.0 c.requires.within.1 c.loop-field.invariant.so.behind begins.front is.1 in
    let rest = c.left-rest.ensures in
    let key = c.key_size.ensures.size place.number place.size (ap varint_front rest ∙ place.front) in
    omega (arith, place.near, ap length rest, key, c.requires.near)

pub loop-field-preserved-in-Some : goal.loop-field-preserved-in-Some
loop-field-preserved-in-Some c =
    let begins = rw c.in-Ok-Some.field-0-is at c.in-Ok-Some.ensures.found in
    let reads = reads_of c.loop-field.left c.next.new.self c.in-Ok-Some.field begins in
    let is = c.in-Some.ensures.some begins.field begins.shows in
    let one = c.in-Some.ensures.bytes begins.field begins.shows in
    let place = entry_place c.args.block.now c.loop-field.left c.args.start c.args.end begins.field c.in-Some.text.now
    begins.size c.requires.within.0 c.requires.within.1 c.loop-field.invariant.so.behind begins.front is.1 in
    let rest = c.left-rest.ensures in
    let key = c.key_size.ensures.size place.number place.size (ap varint_front rest ∙ place.front) in
    let at : c.args.end - length c.left-rest.result.now + c.key_size.result
    ≡ c.args.end - length c.loop-field.left + place.size =
    ap (λ b. c.args.end - length b + c.key_size.result) rest
    ∙ ap (λ n. c.args.end - length c.loop-field.left + n) key in
    let there : text_at c.args.block.now (c.args.end - length c.left-rest.result.now + c.key_size.result)
    ≡ Some c.in-Some.text.now = ap (text_at c.args.block.now) at ∙ place.there in
    let count : c.len-in-Some.result ≡ length c.loop-field.places.items = search rules in
    let more = indexed-more c.args.block.now
    (slice_range c.args.block.now c.args.start c.args.end) c.loop-field.places.items c.loop-field.bad
    c.loop-field.left c.next.new.self c.in-Some.text.now
    (c.args.end - length c.left-rest.result.now + c.key_size.result) begins.field begins.size
    c.loop-field.invariant.so begins.front begins.behind reads one there (search rules) in
    record {
      so = subst (λ p. IndexedSoFar c.args.block.now
          (slice_range c.args.block.now c.args.start c.args.end) p c.first_bad-bad.result c.next.new.self)
          (sym c.push_reserved.ensures.items)
          (subst (λ o. IndexedSoFar c.args.block.now (slice_range c.args.block.now c.args.start c.args.end)
          (c.loop-field.places.items ++ (c.args.end - length c.left-rest.result.now + c.key_size.result)
          ∷ []) o c.next.new.self)
          (sym (c.first_bad-bad.ensures
          ∙ ap (λ m. option_or c.loop-field.bad (cond (is_utf8 c.in-Some.text.now) None (Some m))) count)) more);
      capacity = c.push_reserved.ensures.capacity ∙ c.loop-field.invariant.capacity;
    }

pub loop-field-preserved : goal.loop-field-preserved
loop-field-preserved c =
    let begins = rw c.in-Ok-Some.field-0-is at c.in-Ok-Some.ensures.found in
    let reads = reads_of c.loop-field.left c.next.new.self c.in-Ok-Some.field begins in
    record {
      so = indexed-pass c.args.block.now
          (slice_range c.args.block.now c.args.start c.args.end) c.loop-field.places.items c.loop-field.bad
          c.loop-field.left c.next.new.self begins.field begins.size c.loop-field.invariant.so begins.behind reads
          (c.in_default.ensures.bytes begins.field begins.shows);
      capacity = c.loop-field.invariant.capacity;
    }

pub returns-then-len-ge-STRINGS_LIMIT-clause-told : goal.returns-then-len-ge-STRINGS_LIMIT-clause-told
returns-then-len-ge-STRINGS_LIMIT-clause-told c =
    let begins = rw c.in-Ok-Some.field-0-is at c.in-Ok-Some.ensures.found in
    let reads = reads_of c.loop-field.left c.next.new.self c.in-Ok-Some.field begins in
    indexed-over c.args.block.now
    (slice_range c.args.block.now c.args.start c.args.end) c.loop-field.places.items c.loop-field.bad
    c.loop-field.left c.next.new.self c.in-Some.text.now begins.field c.loop-field.invariant.so reads
    (c.in-Some.ensures.bytes begins.field begins.shows) (search rules)

pub returns-in-Ok-None-clause-told : goal.returns-in-Ok-None-clause-told
returns-in-Ok-None-clause-told c =
    let reads = rw c.in-Ok-None.field-0-is at c.in-Ok-None.ensures.reads in
    indexed-told c.args.block.now
    (slice_range c.args.block.now c.args.start c.args.end) c.loop-field.places.items c.loop-field.bad
    c.loop-field.left _ c.loop-field.invariant.so
    (bytes-none STRINGTABLE_S c.loop-field.left reads.0) c.told.ensures

pub returns-in-Ok-None-clause-strings : goal.returns-in-Ok-None-clause-strings
returns-in-Ok-None-clause-strings c =
    let reads = rw c.in-Ok-None.field-0-is at c.in-Ok-None.ensures.reads in
    let there = indexed-there c.args.block.now
    (slice_range c.args.block.now c.args.start c.args.end) c.loop-field.places.items c.loop-field.bad
    c.loop-field.left c.loop-field.invariant.so (bytes-none STRINGTABLE_S c.loop-field.left reads.0) in
    on_ok _ there

pub returns-in-Err-clause-told : goal.returns-in-Err-clause-told
returns-in-Err-clause-told c =
    indexed-told c.args.block.now
    (slice_range c.args.block.now c.args.start c.args.end) c.loop-field.places.items c.loop-field.bad
    c.loop-field.left _ c.loop-field.invariant.so
    (bytes-fault STRINGTABLE_S c.loop-field.left _ c.in-Err.ensures.reads.0) c.told-in-Err.ensures

pub returns-in-Err-clause-strings : goal.returns-in-Err-clause-strings
returns-in-Err-clause-strings c =
    let there = indexed-there c.args.block.now
    (slice_range c.args.block.now c.args.start c.args.end) c.loop-field.places.items c.loop-field.bad
    c.loop-field.left c.loop-field.invariant.so
    (bytes-fault STRINGTABLE_S c.loop-field.left _ c.in-Err.ensures.reads.0) in
    on_ok _ there
