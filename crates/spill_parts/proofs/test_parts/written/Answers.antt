use Rattle.std.proofs.Common.{◌∙◌, arith}
use Rattle.spill_parts.proofs.Kept.{there_kept, same_trans}
use Rattle.spill_parts.proofs.test_parts.written.Goals as goal

pub loop-row-init : goal.loop-row-init
loop-row-init g c =
    let made = c.in_ok-writer.ensures.made in
    record {
      same = c.make.ensures.same;
      count = omega (arith, made.count);
      kept = c.in_ok-writer.ensures.kept;
      apart = c.in_ok-writer.ensures.apart;
      held = made.held;
    }

pub loop-row-preserved : goal.loop-row-preserved
loop-row-preserved g c =
    let I = c.loop-row.invariant in
    let only = c.put.ensures.only in
    record {
      same = same_trans I.same only.same;
      count = omega (arith, I.count, only.count);
      kept = λ p there. there_kept c.loop-row.writer.part (I.apart p there) only.others only.same.tells (I.kept p there);
      apart = λ p there e. I.apart p there (e ∙ c.put.ensures.same_part);
      held = c.in_ok-put.ensures.put.held;
    }
