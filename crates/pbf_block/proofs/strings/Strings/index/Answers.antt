use Rattle.std.proofs.Common.{◌∙◌, refl, sym, ap}
use Rattle.mf_base.specs.Steps.{fault_of}
use Rattle.pbf_block.proofs.StringReads.{block-refused, block-none, block-some, no_texts, strings_held}
use Rattle.pbf_wire.proofs.MessageReads.{within_place, none_place, some_place}
use Rattle.pbf_block.proofs.strings.Strings.index.Goals as goal

pub index_table-requires-clause-within : goal.index_table-requires-clause-within
index_table-requires-clause-within c = within_place c.args.block.now _ _ (c.in-Ok.ensures.found 1 0 refl) c.in-Some.is

pub returns-in-Err-clause-refused : goal.returns-in-Err-clause-refused
returns-in-Err-clause-refused c = sym (ap fault_of (block-refused c.args.block.now _ c.in-Err.ensures.message))

pub returns-in-Err-clause-strings : goal.returns-in-Err-clause-strings
returns-in-Err-clause-strings c texts e =
    no_texts _ _ texts (block-refused c.args.block.now _ c.in-Err.ensures.message) e

pub returns-in-None-clause-refused : goal.returns-in-None-clause-refused
returns-in-None-clause-refused c =
    sym (ap fault_of
    (block-none c.args.block.now _ c.in-Ok.ensures.message
    (none_place c.args.block.now _ (c.in-Ok.ensures.found 1 0 refl) c.in-None.is)))

pub returns-in-None-clause-strings : goal.returns-in-None-clause-strings
returns-in-None-clause-strings c texts e =
    no_texts _ _ texts
    (block-none c.args.block.now _ c.in-Ok.ensures.message
    (none_place c.args.block.now _ (c.in-Ok.ensures.found 1 0 refl) c.in-None.is)) e

pub returns-in-Some-clause-refused : goal.returns-in-Some-clause-refused
returns-in-Some-clause-refused c =
    let some = block-some c.args.block.now _ _ c.in-Ok.ensures.message
    (some_place c.args.block.now _ _ (c.in-Ok.ensures.found 1 0 refl) c.in-Some.is) in
    c.index_table.ensures.refused ∙ sym (ap fault_of some)

pub returns-in-Some-clause-strings : goal.returns-in-Some-clause-strings
returns-in-Some-clause-strings c texts e =
    let some = block-some c.args.block.now _ _ c.in-Ok.ensures.message
    (some_place c.args.block.now _ _ (c.in-Ok.ensures.found 1 0 refl) c.in-Some.is) in
    c.index_table.ensures.strings texts (sym some ∙ e)

pub returns-in-Some-clause-held : goal.returns-in-Some-clause-held
returns-in-Some-clause-held c =
    let some = block-some c.args.block.now _ _ c.in-Ok.ensures.message
    (some_place c.args.block.now _ _ (c.in-Ok.ensures.found 1 0 refl) c.in-Some.is) in
    strings_held c.args.block.now c.index_table.new.self c.index_table.result
    (c.index_table.ensures.refused ∙ sym (ap fault_of some))
    (λ texts e. c.index_table.ensures.strings texts (sym some ∙ e)) c.index_table.ensures.empty
