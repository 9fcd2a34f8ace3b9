use Rattle.std.proofs.Common.{inr, sym, ◌∙◌, true≢false}
use Rattle.tag_mapping.proofs.Document.{of-document, of-none}
use Rattle.tag_mapping.proofs.file.read_mapping.Goals as goal

pub returns-in-Ok-clause-mapping : goal.returns-in-Ok-clause-mapping
returns-in-Ok-clause-mapping c =
    rw (of-document c.args.bytes.now _ c.in-Ok.ensures.ok.0 c.in-Ok.ensures.ok.1) c.mapping_in.ensures.mapping

pub returns-in-Ok-clause-refused : goal.returns-in-Ok-clause-refused
returns-in-Ok-clause-refused c =
    rw (of-document c.args.bytes.now _ c.in-Ok.ensures.ok.0 c.in-Ok.ensures.ok.1) c.mapping_in.ensures.refused

pub returns-in-Err-2-clause-refused : goal.returns-in-Err-2-clause-refused
returns-in-Err-2-clause-refused c =
    inr (of-none c.args.bytes.now
    (c.in-Err.ensures.refused (λ m. true≢false (sym (c.is_memory.ensures.1 m) ∙ c.if-is_memory.false))))
