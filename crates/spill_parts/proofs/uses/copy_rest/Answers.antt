use Rattle.std.proofs.Common.{◌≡◌, ◌≢◌, ◌+◌, ◌++◌, ◌∷◌, [], length, Option, Some, sym, ap, subst, ◌∙◌, append_assoc}
use Rattle.std.proofs.Common.{length-append, arith}
use Rattle.mf_edge.specs.Spill.{SpillState, part_limit}
use Rattle.spill_parts.specs.Parts.{GivesNext}
use Rattle.spill_parts.proofs.Kept.{reading_kept}
use Rattle.spill_parts.proofs.Added.{touched_then}
use Rattle.spill_parts.proofs.Looked.{told_row}
use Rattle.spill_parts.proofs.Fitting.{one_moves, one_of_these}
use Rattle.spill_parts.proofs.uses.copy_rest.Goals as goal

pub loop-row-preserved : goal.loop-row-preserved
loop-row-preserved g c =
    let I = c.loop-row.invariant in
    let to = c.loop-row.to in
    let width = g.K.RowKind.kind.width in
    let left_now = c.next.new.self.left in
    let put = c.in_ok-put.ensures.put in
    let only = c.in_ok-put.ensures.only in
    let given : GivesNext (g.P.Spill.state c.loop-row.spill).tells c.loop-row.reader.left (Some c.in-Some.row) left_now
    = subst (λ (o : Option g.row.K.Denot). GivesNext (g.P.Spill.state c.loop-row.spill).tells c.loop-row.reader.left o
    left_now) c.in-Some.is c.in_ok-row.ensures.next in
    let apart : c.next.new.self.source.part ≢ to.part =
    λ e. c.requires.apart (sym I.part ∙ sym e ∙ ap (λ p. p.part) (c.in_ok-row.ensures.same_source ∙ I.source)) in
    let fewer : length c.loop-row.reader.left ≡ length left_now + 1 = omega (arith, ap length given.1) in
    let more : length c.put.new.self.rows ≡ length to.rows + 1 =
    ap length put.rows ∙ length-append to.rows (c.in-Some.row ∷ []) in
    record {
      only = touched_then I.only c.in_ok-row.ensures.same I.part only;
      same_faults = c.in_ok-put.ensures.same_faults ∙ c.in_ok-row.ensures.same_faults ∙ I.same_faults;
      reading = reading_kept to.part apart only.others only.same.tells c.in_ok-row.ensures.reading;
      held = put.held;
      part = c.in_ok-put.ensures.same_part ∙ I.part;
      source = c.in_ok-row.ensures.same_source ∙ I.source;
      rows = λ told.
          let first = told_row _ c.loop-row.reader.left c.in-Some.row left_now given (I.only.same.tells ∙ told) in
          ap (λ rs. rs ++ left_now) put.rows
          ∙ append_assoc to.rows (c.in-Some.row ∷ []) left_now
          ∙ ap (λ rs. to.rows ++ rs) (sym first)
          ∙ I.rows told;
      as_many = omega (arith, I.as_many, more, fewer);
      same_room = c.in_ok-row.ensures.same_room ∙ I.same_room;
      steps = omega (arith, I.steps, c.in_ok-row.ensures.steps);
      within = c.in_ok-row.ensures.within;
      small = one_moves width (length to.rows) (length c.put.new.self.rows) (length c.loop-row.reader.left)
          (length left_now) part_limit more fewer I.small;
      same_overrun = c.in_ok-put.ensures.within
          (one_of_these width (length to.rows) (length c.loop-row.reader.left) (length left_now) part_limit fewer I.small)
          ∙ ap (λ (s : SpillState). s.is_overrun) c.in_ok-row.ensures.same
          ∙ I.same_overrun;
    }
