use Rattle.std.proofs.Common.{◌∙◌}
use Rattle.spill_parts.proofs.Kept.{there_kept, apart_from_made}
use Rattle.spill_parts.proofs.writer.Writer.make.Goals as goal

pub returns-clause-kept : goal.returns-clause-kept
returns-clause-kept g c p is =
    let made = c.in_ok-part.ensures.made in
    there_kept c.in_ok-part.part (apart_from_made made is) made.others c.make.ensures.same.tells is

pub returns-clause-apart : goal.returns-clause-apart
returns-clause-apart g c p is same = apart_from_made c.in_ok-part.ensures.made is (same ∙ c.of.ensures.part)
