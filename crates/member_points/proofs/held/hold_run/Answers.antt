use Rattle.std.proofs.Common.{◌++◌, ◌∷◌, [], take, map, Option, ap, subst, sym, ◌∙◌, arith}
use Rattle.mf_rows.specs.Units.{point_in}
use Rattle.mf_rows.specs.declared.kinds.PointRow.{PointRow}
use Rattle.row_runs.specs.Runs.{run_of}
use Rattle.row_runs.specs.Running.{GivesOf, rows_left}
use Rattle.row_runs.proofs.Running.{run_given, run_ended, one_less, tells_as_before}
use Rattle.way_points.specs.PointRows.{point_way, point_told}
use Rattle.member_points.proofs.Fronts.{front_more, front_whole}
use Rattle.unit_rows.proofs.Loads.{read-then}
use Rattle.member_points.proofs.held.hold_run.Goals as goal

pub loop-row-preserved : goal.loop-row-preserved
loop-row-preserved g c =
    let I = c.loop-row.invariant in
    let k = c.args.way in
    let tells = (g.P.Spill.state c.loop-row.spill).tells in
    let before = rows_left c.loop-row.runs in
    let now = rows_left c.next_of.new.self in
    let given = subst (λ (o : Option PointRow). GivesOf point_way k tells before o now) c.in-Some.is
    c.in_ok-row.ensures.next in
    let same_tells = tells_as_before (g.P.Spill.state c.args.spill.now) (g.P.Spill.state c.loop-row.spill) I.same in
    let less = one_less point_way k tells before c.in-Some.row now given in
    record {
      same = read-then (g.P.Spill.state c.args.spill.now) (g.P.Spill.state c.loop-row.spill)
          (g.P.Spill.state c.next_of.new.spill) I.same c.in_ok-row.ensures.same;
      same_faults = c.in_ok-row.ensures.same_faults ∙ I.same_faults;
      running = c.in_ok-row.ensures.running;
      source = c.in_ok-row.ensures.same_source ∙ I.source;
      room = c.in_ok-row.ensures.same_room ∙ I.room;
      none = c.hold_point.ensures.none;
      capacity = c.hold_point.ensures.capacity ∙ I.capacity;
      few = omega (arith, I.few, c.hold_point.ensures.few);
      held = λ told. front_more c.args.records.now.capacity c.loop-row.count c.loop-row.records.loose
          c.hold_point.new.records.loose (point_told c.in-Some.row) (map point_told (run_of point_way k before))
          (map point_told (run_of point_way k now)) (map point_told (run_of point_way k (rows_left c.args.runs.now)))
          (ap (map point_told)
          (run_given point_way k tells before c.in-Some.row now given (same_tells ∙ told)).0)
          (c.hold_point.ensures.held
          ∙ ap (λ n. take n (map point_in c.loop-row.records.loose ++ point_told c.in-Some.row ∷ [])) I.capacity) (I.held told);
      left = λ told. sym (run_given point_way k tells before c.in-Some.row now given (same_tells ∙ told)).1
          ∙ I.left told;
      fewer = omega (arith, I.fewer, less);
      steps = omega (arith, I.steps, c.in_ok-row.ensures.steps);
    }

pub returns-clause-held : goal.returns-clause-held
returns-clause-held g c told =
    let I = c.loop-row.invariant in
    let k = c.args.way in
    let tells = (g.P.Spill.state c.loop-row.spill).tells in
    let before = rows_left c.loop-row.runs in
    let given = subst (λ (o : Option PointRow). GivesOf point_way k tells before o (rows_left c.next_of.new.self))
    c.in_default.is c.in_ok-row.ensures.next in
    front_whole c.args.records.now.capacity c.loop-row.count c.loop-row.records.loose
    (map point_told (run_of point_way k before)) (map point_told (run_of point_way k (rows_left c.args.runs.now)))
    (ap (map point_told) (run_ended point_way k tells before (rows_left c.next_of.new.self) given).0) (I.held told)
