use Rattle.std.proofs.Common.{◌≡◌, ◌∙◌, true, arith, rules, subst}
use Rattle.mf_edge.specs.Spill.{SpillState, stretch}
use Rattle.mf_edge.specs.Device.{Gained, GainedFront}
use Rattle.mf_layout.proofs.Answered.{on_err}
use Rattle.mf_layout.proofs.Stretches.{stretch-more, stretch-front}
use Rattle.mf_layout.proofs.Unchanged.{unchanged}
use Rattle.mf_layout.proofs.tiles_out.put_stretch.Goals as goal

pub returns-in_err-put_piece-clause-front : goal.returns-in_err-put_piece-clause-front
returns-in_err-put_piece-clause-front g c = on_err c.from_residual.result (λ told.
    let I = c.loop-at.invariant in
    let part = c.args.part.now.part in
    let front = subst (λ (s : SpillState). s.tells ≡ true
    → GainedFront (g.K.Sink.state c.loop-at.out) (stretch s part c.loop-at.at c.piece_of-n.result)
    (g.K.Sink.state c.put_piece.new.out)) I.same c.in_err-put_piece.ensures.front told in
    stretch-front _ _ _ ((g.P.Spill.state c.args.spill.now).bytes part) c.args.from c.loop-at.at c.piece_of-n.result
    c.args.to I.from (omega (arith, c.piece_of-n.ensures.left, I.to)) (I.put told) front)

pub loop-at-preserved : goal.loop-at-preserved
loop-at-preserved g c =
    let I = c.loop-at.invariant in
    let put = c.in_ok-put_piece.ensures in
    let part = c.args.part.now.part in
    record {
      from = omega (arith, I.from);
      to = omega (arith, c.piece_of-n.ensures.left, I.to);
      room = put.same_room ∙ I.room;
      put = λ told.
          let here = subst (λ (s : SpillState). s.tells ≡ true
          → Gained (g.K.Sink.state c.loop-at.out) (stretch s part c.loop-at.at c.piece_of-n.result)
          (g.K.Sink.state c.put_piece.new.out)) I.same put.all told in
          stretch-more _ _ _ ((g.P.Spill.state c.args.spill.now).bytes part) c.args.from c.loop-at.at
          c.piece_of-n.result I.from (I.put told) here;
      steps = omega (arith, I.steps, I.from, put.steps);
      same_output = put.same_output (λ e. search (e, rules)) ∙ I.same_output;
      same = unchanged put.same (put.same_store (λ e. search (e, rules))) ∙ I.same;
    }
