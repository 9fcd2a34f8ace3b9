use Rattle.run_texts.proofs.Putting.{puts-both}
use Rattle.run_texts.proofs.input.put_frame.Goals as goal

pub returns-in-Compressed-clause-appends : goal.returns-in-Compressed-clause-appends
returns-in-Compressed-clause-appends c =
    rw c.in-Compressed.is
    (puts-both _ _ _ _ _ c.put_code-in-Compressed.ensures.appends c.put_worded-in-Compressed.ensures.appends)
