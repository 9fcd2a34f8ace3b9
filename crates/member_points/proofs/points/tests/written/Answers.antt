use Rattle.std.proofs.Common.{arith, ◌∙◌, []}
use Rattle.spill_parts.specs.Parts.{piece_of}
use Rattle.spill_parts.proofs.JustParts.{just-more, just-still}
use Rattle.spill_parts.proofs.Kept.{same_trans}
use Rattle.member_points.proofs.points.tests.written.Goals as goal

pub loop-row-init : goal.loop-row-init
loop-row-init g c =
    let made = c.in_ok-writer.ensures.made in
    record {
      just = λ pieces all. just-more g.K.RowKind.kind c.in_ok-writer.writer made c.make.ensures.same
          c.in_ok-writer.ensures.kept c.in_ok-writer.ensures.apart pieces all;
      started = c.make.ensures.same.started ∙ c.requires.started;
      same = c.make.ensures.same;
      count = omega (arith, made.count);
      held = made.held;
    }

pub loop-row-preserved : goal.loop-row-preserved
loop-row-preserved g c =
    let I = c.loop-row.invariant in
    let only = c.put.ensures.only in
    record {
      just = λ pieces all. just-still [] (piece_of g.K.RowKind.kind c.loop-row.writer)
          (piece_of g.K.RowKind.kind c.put.new.self) c.put.ensures.same_part only c.in_ok-put.ensures.put.held
          pieces (I.just pieces all);
      started = only.same.started ∙ I.started;
      same = same_trans I.same only.same;
      count = omega (arith, I.count, only.count);
      held = c.in_ok-put.ensures.put.held;
    }
