use Rattle.std.proofs.Common.{◌∙◌, sym, ap, subst}
use Rattle.mf_base.specs.Steps.{fault_of}
use Rattle.mf_base.proofs.StepLaws.{ok_is}
use Rattle.pbf_wire.proofs.MessageReads.{message-refused}
use Rattle.pbf_block.specs.Strings.{AreAt}
use Rattle.pbf_block.proofs.StringReads.{table-refused, table-checked, no_texts}
use Rattle.pbf_block.proofs.strings.Strings.index_table.Goals as goal

pub returns-in-Err-clause-refused : goal.returns-in-Err-clause-refused
returns-in-Err-clause-refused c =
    sym (ap fault_of (table-refused _ _ (message-refused _ _ _ (sym c.in-Err.ensures.exact))))

pub returns-in-Err-clause-strings : goal.returns-in-Err-clause-strings
returns-in-Err-clause-strings c texts e =
    no_texts _ _ texts (table-refused _ _ (message-refused _ _ _ (sym c.in-Err.ensures.exact))) e

pub returns-in-Ok-clause-refused : goal.returns-in-Ok-clause-refused
returns-in-Ok-clause-refused c =
    sym (ap fault_of (table-checked _ _ c.in_default.ensures.message ∙ sym c.in-Ok.ensures.told))

pub returns-in-Ok-clause-strings : goal.returns-in-Ok-clause-strings
returns-in-Ok-clause-strings c texts e =
    subst (AreAt c.args.block.now c.put_places.new.places.items)
    (ok_is _ texts (c.in-Ok.ensures.told ∙ sym (table-checked _ _ c.in_default.ensures.message)
    ∙ e)) c.in-Ok.ensures.strings

pub returns-in-Err-put_places-clause-refused : goal.returns-in-Err-put_places-clause-refused
returns-in-Err-put_places-clause-refused c =
    sym (ap fault_of (table-checked _ _ c.in_default.ensures.message ∙ sym c.in-Err-put_places.ensures.told))

pub returns-in-Err-put_places-clause-strings : goal.returns-in-Err-put_places-clause-strings
returns-in-Err-put_places-clause-strings c texts e =
    no_texts _ _ texts (table-checked _ _ c.in_default.ensures.message ∙ sym c.in-Err-put_places.ensures.told) e
