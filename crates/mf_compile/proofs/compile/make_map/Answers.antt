use Rattle.job_words.specs.Shown.{settings_of}
use Rattle.mf_compile.specs.Faults.{emit_told}
use Rattle.mf_compile.proofs.Compiled.{compiled-as, compiled-ungathered, compiled-unlaid, compiled-unwritten}
use Rattle.mf_compile.proofs.Compiled.{compiled-written}
use Rattle.mf_compile.proofs.compile.make_map.Goals as goal

pub returns-in_err-found-clause-compiled : goal.returns-in_err-found-clause-compiled
returns-in_err-found-clause-compiled g c =
    compiled-as (settings_of c.args.settings.now) _ _ c.in_err-found.field-0.0 c.from_residual.result
    c.from_residual.ensures.1
    (compiled-ungathered (settings_of c.args.settings.now) (g.S.Source.state c.args.src.now)
    (g.S.Source.state c.gather.new.src) (g.K.Sink.state c.args.out.now) (g.P.Spill.state c.args.spill.now)
    (g.P.Spill.state c.gather.new.spill) c.args.steps.now c.in_err-found.field-0.0 (record {
      told = c.in_err-found.ensures.told;
      exact = c.in_err-found.ensures.exact;
      read = c.in_err-found.ensures.read;
      same_input = c.in_err-found.ensures.same_input;
      spill = c.in_err-found.ensures.spill;
      same_store = c.in_err-found.ensures.same_store;
      within = c.in_err-found.ensures.within;
      name = c.in_err-found.ensures.name;
      tells = c.in_err-found.ensures.tells;
    }))

pub returns-in_err-subs-clause-compiled : goal.returns-in_err-subs-clause-compiled
returns-in_err-subs-clause-compiled g c =
    compiled-as (settings_of c.args.settings.now) _ _ c.in_err-subs.field-0.0 c.from_residual-in_err-subs.result
    c.from_residual-in_err-subs.ensures.1
    (compiled-unlaid (settings_of c.args.settings.now) (g.S.Source.state c.args.src.now)
    (g.S.Source.state c.gather.new.src) (g.K.Sink.state c.args.out.now) (g.P.Spill.state c.args.spill.now)
    (g.P.Spill.state c.gather.new.spill) (g.P.Spill.state c.lay_out.new.spill) c.args.steps.now c.lay_out.new.steps
    c.in_ok-found.found c.in_ok-found.bounds (record {
      told = c.in_ok-found.ensures.told;
      exact = c.in_ok-found.ensures.exact;
      read = c.in_ok-found.ensures.read;
      same_input = c.in_ok-found.ensures.same_input;
      spill = c.in_ok-found.ensures.spill;
      same_store = c.in_ok-found.ensures.same_store;
      within = c.in_ok-found.ensures.within;
      name = c.in_ok-found.ensures.name;
      tells = c.in_ok-found.ensures.tells;
    }) c.in_err-subs.field-0.0 (record {
      laid = c.in_err-subs.ensures.laid;
      limit = c.in_err-subs.ensures.limit;
      within = c.in_err-subs.ensures.within;
      few_steps = c.in_err-subs.ensures.steps;
      spill = c.in_err-subs.ensures.spill;
      same_faults = c.in_err-subs.ensures.same_faults;
      no_read = c.in_err-subs.ensures.never.0;
      no_write = c.in_err-subs.ensures.never.1;
      no_box = c.in_err-subs.ensures.never.2;
      no_input = c.in_err-subs.ensures.never.3;
      same = c.in_err-subs.ensures.same;
    }))

pub returns-in_err-emit-clause-compiled : goal.returns-in_err-emit-clause-compiled
returns-in_err-emit-clause-compiled g c =
    compiled-as (settings_of c.args.settings.now) _ _ (emit_told c.in_err-emit.field-0.0)
    c.from_residual-in_err-emit.result c.from_residual-in_err-emit.ensures.1
    (compiled-unwritten (settings_of c.args.settings.now) (g.S.Source.state c.args.src.now) (g.S.Source.state c.gather.new.src)
    (g.K.Sink.state c.args.out.now) (g.K.Sink.state c.emit.new.out) (g.P.Spill.state c.args.spill.now)
    (g.P.Spill.state c.gather.new.spill) (g.P.Spill.state c.lay_out.new.spill) (g.P.Spill.state c.emit.new.spill)
    c.args.steps.now c.lay_out.new.steps c.emit.new.steps c.in_ok-found.found c.in_ok-found.bounds c.in_ok-subs.subs
    c.in_ok-subs.report (record {
      told = c.in_ok-found.ensures.told;
      exact = c.in_ok-found.ensures.exact;
      read = c.in_ok-found.ensures.read;
      same_input = c.in_ok-found.ensures.same_input;
      spill = c.in_ok-found.ensures.spill;
      same_store = c.in_ok-found.ensures.same_store;
      within = c.in_ok-found.ensures.within;
      name = c.in_ok-found.ensures.name;
      tells = c.in_ok-found.ensures.tells;
    }) (record {
      laid = c.in_ok-subs.ensures.laid;
      limit = c.in_ok-subs.ensures.limit;
      within = c.in_ok-subs.ensures.within;
      few_steps = c.in_ok-subs.ensures.steps;
      spill = c.in_ok-subs.ensures.spill;
      same_faults = c.in_ok-subs.ensures.same_faults;
      no_read = c.in_ok-subs.ensures.never.0;
      no_write = c.in_ok-subs.ensures.never.1;
      no_box = c.in_ok-subs.ensures.never.2;
      no_input = c.in_ok-subs.ensures.never.3;
      same = c.in_ok-subs.ensures.same;
    }) c.in_err-emit.field-0.0 (record {
      whole = c.in_err-emit.ensures.ok;
      front = c.in_err-emit.ensures.front;
      few_steps = c.in_err-emit.ensures.steps;
      write = c.in_err-emit.ensures.write;
      same_output = c.in_err-emit.ensures.same_output;
      spill = c.in_err-emit.ensures.spill;
      same_store = c.in_err-emit.ensures.same_store;
      same = c.in_err-emit.ensures.same;
      same_overrun = c.in_err-emit.ensures.same_overrun;
    }))

pub returns-clause-compiled : goal.returns-clause-compiled
returns-clause-compiled g c =
    compiled-written (settings_of c.args.settings.now) (g.S.Source.state c.args.src.now) (g.S.Source.state c.gather.new.src)
    (g.K.Sink.state c.args.out.now) (g.K.Sink.state c.emit.new.out) (g.P.Spill.state c.args.spill.now)
    (g.P.Spill.state c.gather.new.spill) (g.P.Spill.state c.lay_out.new.spill) (g.P.Spill.state c.emit.new.spill)
    c.args.steps.now c.lay_out.new.steps c.emit.new.steps c.in_ok-found.found c.in_ok-found.bounds c.in_ok-subs.subs
    c.in_ok-subs.report (record {
      told = c.in_ok-found.ensures.told;
      exact = c.in_ok-found.ensures.exact;
      read = c.in_ok-found.ensures.read;
      same_input = c.in_ok-found.ensures.same_input;
      spill = c.in_ok-found.ensures.spill;
      same_store = c.in_ok-found.ensures.same_store;
      within = c.in_ok-found.ensures.within;
      name = c.in_ok-found.ensures.name;
      tells = c.in_ok-found.ensures.tells;
    }) (record {
      laid = c.in_ok-subs.ensures.laid;
      limit = c.in_ok-subs.ensures.limit;
      within = c.in_ok-subs.ensures.within;
      few_steps = c.in_ok-subs.ensures.steps;
      spill = c.in_ok-subs.ensures.spill;
      same_faults = c.in_ok-subs.ensures.same_faults;
      no_read = c.in_ok-subs.ensures.never.0;
      no_write = c.in_ok-subs.ensures.never.1;
      no_box = c.in_ok-subs.ensures.never.2;
      no_input = c.in_ok-subs.ensures.never.3;
      same = c.in_ok-subs.ensures.same;
    }) (record {
      whole = c.in_ok-emit.ensures.ok;
      front = c.in_ok-emit.ensures.front;
      few_steps = c.in_ok-emit.ensures.steps;
      write = c.in_ok-emit.ensures.write;
      same_output = c.in_ok-emit.ensures.same_output;
      spill = c.in_ok-emit.ensures.spill;
      same_store = c.in_ok-emit.ensures.same_store;
      same = c.in_ok-emit.ensures.same;
      same_overrun = c.in_ok-emit.ensures.same_overrun;
    })
