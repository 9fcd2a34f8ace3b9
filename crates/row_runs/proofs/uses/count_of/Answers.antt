use Rattle.std.proofs.Common.{length, sym, ap, ◌∙◌, arith}
use Rattle.std.proofs.lemmas.Result.{IfOk-weaker}
use Rattle.spill_parts.specs.Parts.{Part}
use Rattle.spill_parts.specs.Join.{from_key}
use Rattle.row_runs.specs.Runs.{run_of, after_run}
use Rattle.row_runs.specs.Running.{rows_left}
use Rattle.row_runs.proofs.KeyRuns.{all_sought, all_after, run_is_all}
use Rattle.row_runs.proofs.Running.{tells_as_before}
use Rattle.row_runs.proofs.uses.count_of.Goals as goal

pub returns-clause-number : goal.returns-clause-number
returns-clause-number g c =
    let key = g.N.Keyed.key_of in
    let k = c.args.key in
    let left = rows_left c.args.runs.now in
    let rows = c.args.runs.now.reading.source.rows in
    IfOk-weaker c.count_run.result _ _ (λ n is told.
    is (tells_as_before (g.P.Spill.state c.args.spill.now) (g.P.Spill.state c.seek.new.spill) c.seek.ensures.same ∙ told)
    ∙ ap (λ l. length (run_of key k l)) (c.in_ok-seek.ensures.left told)
    ∙ ap length (run_is_all key k left rows (c.requires.running.climbs told) (c.requires.all told)))
    c.count_run.ensures.number

pub returns-clause-all : goal.returns-clause-all
returns-clause-all g c =
    let key = g.N.Keyed.key_of in
    let k = c.args.key in
    let rows = c.args.runs.now.reading.source.rows in
    let same_source = c.count_run.ensures.same_source ∙ c.seek.ensures.same_source in
    IfOk-weaker c.count_run.result _ _ (λ n is told later more.
    ap (λ l. from_key key later l) (is (tells_as_before (g.P.Spill.state c.args.spill.now) (g.P.Spill.state c.seek.new.spill) c.seek.ensures.same ∙ told)
    ∙ ap (after_run key k) (c.in_ok-seek.ensures.left told))
    ∙ all_after key k _ rows (all_sought key k k (omega arith) (rows_left c.args.runs.now) rows (c.requires.all told)) later more
    ∙ ap (λ (p : Part _). from_key key later p.rows) (sym same_source))
    c.count_run.ensures.left
