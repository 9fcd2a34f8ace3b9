use Rattle.std.proofs.Common.{◌≡◌, ◌∙◌, sym, ap, subst, true, Ok}
use Rattle.std.specs.Prelude.{zip}
use Rattle.mf_base.specs.Packed.{packed_numbers}
use Rattle.mf_base.specs.Steps.{fault_of}
use Rattle.mf_base.specs.Entries.{are_entries}
use Rattle.osm_entity.specs.InBlock.{texts_at}
use Rattle.osm_entity.proofs.BlockTexts.{tags-sound, tags-are, length-texts}
use Rattle.osm_entity.proofs.tags.read_tags.Goals as goal

pub columns-requires-clause-as_many : goal.columns-requires-clause-as_many
columns-requires-clause-as_many c =
    let block = c.args.in_block.block.now in
    let places = c.args.in_block.places.now in
    (tags-sound (texts_at block places) (packed_numbers c.args.keys.now) (packed_numbers c.args.vals.now)
    (sym (ap fault_of (c.in_ok-check_tags.was {u = tt}))
    ∙ c.check_tags.ensures (texts_at block places) (length-texts block places ∙ sym c.count.ensures))).as_many

pub columns-requires-clause-told : goal.columns-requires-clause-told
columns-requires-clause-told c =
    let block = c.args.in_block.block.now in
    let places = c.args.in_block.places.now in
    subst (λ n. are_entries n (zip (packed_numbers c.args.keys.now) (packed_numbers c.args.vals.now)) ≡ true)
    (length-texts block places)
    (tags-sound (texts_at block places) (packed_numbers c.args.keys.now) (packed_numbers c.args.vals.now)
    (sym (ap fault_of (c.in_ok-check_tags.was {u = tt}))
    ∙ c.check_tags.ensures (texts_at block places) (length-texts block places ∙ sym c.count.ensures))).entries

pub returns-clause-told : goal.returns-clause-told
returns-clause-told c =
    let block = c.args.in_block.block.now in
    let places = c.args.in_block.places.now in
    let sound = tags-sound (texts_at block places) (packed_numbers c.args.keys.now) (packed_numbers c.args.vals.now)
    (sym (ap fault_of (c.in_ok-check_tags.was {u = tt}))
    ∙ c.check_tags.ensures (texts_at block places) (length-texts block places ∙ sym c.count.ensures)) in
    sym (tags-are block places (packed_numbers c.args.keys.now) (packed_numbers c.args.vals.now) sound.as_many
    (subst (λ n. are_entries n (zip (packed_numbers c.args.keys.now) (packed_numbers c.args.vals.now)) ≡ true)
    (length-texts block places) sound.entries)
    ∙ ap Ok (sym c.columns.ensures.all))
