use Rattle.std.proofs.Common.{◌+◌, map, sym, ap, subst, ◌∙◌, arith}
use Rattle.member_points.proofs.Stores.{both_known}
use Rattle.spill_parts.specs.Join.{from_key}
use Rattle.mf_rows.specs.Desks.{Desktop}
use Rattle.row_runs.specs.Runs.{run_of, after_run, HasAllFrom}
use Rattle.row_runs.specs.Running.{rows_left}
use Rattle.row_runs.proofs.KeyRuns.{all_sought, all_after, run_is_all}
use Rattle.row_runs.proofs.Running.{tells_as_before}
use Rattle.way_points.specs.PointRows.{point_way, point_told}
use Rattle.member_points.specs.RelRows.{held_points}
use Rattle.member_points.proofs.held.hold_points.Goals as goal

pub returns-clause-holding : goal.returns-clause-holding
returns-clause-holding g c =
    let k = c.args.way in
    let room = c.args.records.now.capacity in
    let before = rows_left c.args.runs.now in
    let rows = c.args.runs.now.reading.source.rows in
    let same_tells = tells_as_before (g.P.Spill.state c.args.spill.now) (g.P.Spill.state c.seek.new.spill)
    c.seek.ensures.same in
    both_known c.hold_run.result _ _ _ (λ count held left told. record {
      held = held (same_tells ∙ told)
          ∙ ap (λ (d : Desktop). held_points d.capacity (map point_told (run_of point_way k (rows_left c.seek.new.self))))
          c.clear.ensures
          ∙ ap (λ l. held_points room (map point_told (run_of point_way k l))) (c.in_ok-seek.ensures.left told)
          ∙ ap (λ l. held_points room (map point_told l))
          (run_is_all point_way k before rows (c.requires.running.climbs told) (c.requires.all told));
      later = subst (λ l. HasAllFrom point_way (k + 1) l rows)
          (sym (left (same_tells ∙ told) ∙ ap (after_run point_way k) (c.in_ok-seek.ensures.left told)))
          (all_after point_way k (from_key point_way k before) rows
          (all_sought point_way k k (omega arith) before rows (c.requires.all told)));
    }) c.hold_run.ensures.held c.hold_run.ensures.left
