use Rattle.std.proofs.Common.{◌++◌, ap, sym, subst, ◌∙◌, Option, Some}
use Rattle.mf_base.specs.Buffer.{Buffer}
use Rattle.mf_rows.specs.declared.kinds.IndexRow.{IndexRow}
use Rattle.spill_parts.specs.Parts.{GivesNext}
use Rattle.mf_layout.proofs.Entries.{entry-given}
use Rattle.mf_layout.proofs.index_out.put_next.Goals as goal

pub returns-in-Ok-Some-clause-put : goal.returns-in-Ok-Some-clause-put
returns-in-Ok-Some-clause-put g c = λ told.
    let store = g.P.Spill.state c.args.spill.now in
    let left = c.args.rows.now.left in
    let left_now = c.next.new.self.left in
    let given : GivesNext store.tells left (Some c.in-Ok-Some.row) left_now =
    subst (λ (o : Option IndexRow). GivesNext store.tells left o left_now) c.in-Ok-Some.field-0-is
    c.in-Ok-Some.ensures.next in
    ap (λ (b : Buffer). b.bytes) c.put_entry.ensures.appends
    ∙ ap (λ bs. c.args.buffer.now.bytes ++ bs)
    (sym (entry-given store.tells left left_now c.in-Ok-Some.row c.args.offset given told))
