use Rattle.std.proofs.Common.{◌≡◌, ◌≢◌, ◌+◌, ◌++◌, ◌∷◌, [], map, length, Option, sym, ap, subst}
use Rattle.std.proofs.Common.{◌∙◌, arith, length-append}
use Rattle.std.proofs.lemmas.List.{append-nil}
use Rattle.mf_edge.specs.Spill.{part_limit}
use Rattle.spill_parts.proofs.Added.{touched_then}
use Rattle.row_runs.specs.Runs.{run_of}
use Rattle.row_runs.specs.Running.{GivesOf, rows_left}
use Rattle.row_runs.proofs.Running.{running_kept, run_given, run_ended, one_less, room_for_one}
use Rattle.row_runs.proofs.Running.{room_in_run, run_put, overrun_as_before}
use Rattle.row_runs.proofs.uses.put_run.Goals as goal

pub returns-in_err-put-clause-fits : goal.returns-in_err-put-clause-fits
returns-in_err-put-clause-fits g c room =
    let I = c.loop-row.invariant in
    let key = g.N.Keyed.key_of in
    let before = rows_left c.loop-row.runs in
    let given = subst (λ (o : Option g.row.N.Denot). GivesOf key c.args.key (g.P.Spill.state c.loop-row.spill).tells
    before o (rows_left c.next_of.new.self)) c.in-Some.is c.in_ok-row.ensures.next in
    let less = one_less key c.args.key (g.P.Spill.state c.loop-row.spill).tells before c.in-Some.row
    (rows_left c.next_of.new.self) given in
    c.put.ensures.within (room_for_one g.O.RowKind.kind.width part_limit (length c.loop-row.out.rows)
    (length (rows_left c.next_of.new.self)) (length c.args.out.now.rows) (length (rows_left c.args.runs.now))
    (omega (arith, I.as_many, less)) room)
    ∙ overrun_as_before (g.P.Spill.state c.loop-row.spill) (g.P.Spill.state c.next_of.new.spill)
    c.next_of.ensures.same
    ∙ I.fits room

pub returns-in_err-put-clause-fits_run : goal.returns-in_err-put-clause-fits_run
returns-in_err-put-clause-fits_run g c told room =
    let I = c.loop-row.invariant in
    let key = g.N.Keyed.key_of in
    let before = rows_left c.loop-row.runs in
    let now = rows_left c.next_of.new.self in
    let given = subst (λ (o : Option g.row.N.Denot). GivesOf key c.args.key (g.P.Spill.state c.loop-row.spill).tells
    before o now) c.in-Some.is c.in_ok-row.ensures.next in
    let first = run_given key c.args.key (g.P.Spill.state c.loop-row.spill).tells before c.in-Some.row now given
    (I.only.same.tells ∙ told) in
    c.put.ensures.within (room_in_run g.O.RowKind.kind.width part_limit g.O.MadeOf.made_of c.loop-row.out.rows
    c.args.out.now.rows c.in-Some.row (run_of key c.args.key before) (run_of key c.args.key now)
    (run_of key c.args.key (rows_left c.args.runs.now)) first.0 (I.rows told) room)
    ∙ overrun_as_before (g.P.Spill.state c.loop-row.spill) (g.P.Spill.state c.next_of.new.spill)
    c.next_of.ensures.same
    ∙ I.fits_run told room

pub loop-row-preserved : goal.loop-row-preserved
loop-row-preserved g c =
    let I = c.loop-row.invariant in
    let key = g.N.Keyed.key_of in
    let width = g.O.RowKind.kind.width in
    let out = c.loop-row.out in
    let before = rows_left c.loop-row.runs in
    let now = rows_left c.next_of.new.self in
    let given = subst (λ (o : Option g.row.N.Denot). GivesOf key c.args.key (g.P.Spill.state c.loop-row.spill).tells
    before o now) c.in-Some.is c.in_ok-row.ensures.next in
    let less = one_less key c.args.key (g.P.Spill.state c.loop-row.spill).tells before c.in-Some.row now given in
    let put = c.in_ok-put.ensures.put in
    let only = c.in_ok-put.ensures.only in
    let apart : c.next_of.new.self.reading.source.part ≢ out.part =
    λ e. c.requires.apart (sym (ap (λ p. p.part) (c.in_ok-row.ensures.same_source ∙ I.source)) ∙ e ∙ I.part) in
    let more : length c.put.new.self.rows ≡ length out.rows + 1 =
    ap length put.rows ∙ length-append out.rows (c.made.result ∷ []) in
    let overrun = overrun_as_before (g.P.Spill.state c.loop-row.spill) (g.P.Spill.state c.next_of.new.spill)
    c.in_ok-row.ensures.same in
    record {
      only = touched_then I.only c.in_ok-row.ensures.same I.part only;
      same_faults = c.in_ok-put.ensures.same_faults ∙ c.in_ok-row.ensures.same_faults ∙ I.same_faults;
      running = running_kept out.part apart only.others only.same.tells c.in_ok-row.ensures.running;
      held = put.held;
      part = c.in_ok-put.ensures.same_part ∙ I.part;
      source = c.in_ok-row.ensures.same_source ∙ I.source;
      room = c.in_ok-row.ensures.same_room ∙ I.room;
      rows = λ told. run_put g.O.MadeOf.made_of c.in-Some.row (run_of key c.args.key before)
          (run_of key c.args.key now) c.made.result out.rows c.put.new.self.rows _
          (run_given key c.args.key _ before c.in-Some.row now given (I.only.same.tells ∙ told)).0 c.made.ensures put.rows
          (I.rows told);
      left = λ told. sym (run_given key c.args.key _ before c.in-Some.row now given (I.only.same.tells ∙ told)).1
          ∙ I.left told;
      as_many = omega (arith, I.as_many, more, less);
      fits_run = λ told room. c.put.ensures.within (room_in_run width part_limit g.O.MadeOf.made_of out.rows
          c.args.out.now.rows c.in-Some.row (run_of key c.args.key before) (run_of key c.args.key now)
          (run_of key c.args.key (rows_left c.args.runs.now))
          (run_given key c.args.key _ before c.in-Some.row now given (I.only.same.tells ∙ told)).0 (I.rows told) room)
          ∙ overrun
          ∙ I.fits_run told room;
      fits = λ room. c.put.ensures.within (room_for_one width part_limit (length out.rows) (length now)
          (length c.args.out.now.rows) (length (rows_left c.args.runs.now)) (omega (arith, I.as_many, less)) room)
          ∙ overrun
          ∙ I.fits room;
      steps = omega (arith, I.steps, c.in_ok-row.ensures.steps);
      within = c.in_ok-row.ensures.within;
    }

pub returns-clause-rows : goal.returns-clause-rows
returns-clause-rows g c told =
    let I = c.loop-row.invariant in
    let key = g.N.Keyed.key_of in
    let before = rows_left c.loop-row.runs in
    let given = subst (λ (o : Option g.row.N.Denot). GivesOf key c.args.key (g.P.Spill.state c.loop-row.spill).tells
    before o (rows_left c.next_of.new.self)) c.in_default.is c.in_ok-row.ensures.next in
    let ended = run_ended key c.args.key (g.P.Spill.state c.loop-row.spill).tells before (rows_left c.next_of.new.self) given in
    sym (append-nil c.loop-row.out.rows)
    ∙ ap (λ rows. c.loop-row.out.rows ++ map g.O.MadeOf.made_of rows) (sym ended.0)
    ∙ I.rows told
