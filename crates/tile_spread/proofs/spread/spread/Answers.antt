use Rattle.std.proofs.Common.{◌≡◌, ◌*◌, ◌≤◌, length, refl, sym, ap, subst, ◌∙◌, arith}
use Rattle.mf_edge.specs.Spill.{SpillState, part_limit}
use Rattle.mf_rows.specs.declared.kinds.ShapeRow.{ShapeRow}
use Rattle.spill_parts.specs.Join.{rest_of}
use Rattle.spill_parts.specs.Parts.{Part}
use Rattle.spill_parts.proofs.Added.{touched_then}
use Rattle.spill_parts.proofs.Kept.{there_same}
use Rattle.unit_rows.proofs.Loads.{rest-told, rest-counted}
use Rattle.tile_spread.specs.Pass.{all_spread}
use Rattle.tile_spread.proofs.SoFar.{so-far-none, so-far-all, set-rows, may-now, so-far-at, touches-read}
use Rattle.tile_spread.proofs.spread.spread.Goals as goal

pub next-requires-clause-reading : goal.next-requires-clause-reading
next-requires-clause-reading g c =
    c.start-reader.ensures.reading c.args.page.now (g.P.Spill.state c.args.spill.now) c.requires.from

pub loop-grid-init : goal.loop-grid-init
loop-grid-init g c =
    let started = c.start-reader.ensures in
    let read = c.in_ok-held.ensures in
    let left = c.start-reader.result.left in
    let left_now = c.next.new.self.left in
    let many : length (rest_of c.in_ok-held.held left_now) ≡ length c.args.from.now.rows =
    rest-counted _ left c.in_ok-held.held left_now read.next ∙ ap length started.left in
    record {
      only = touches-read c.args.out.now.part (g.P.Spill.state c.args.spill.now) (g.P.Spill.state c.next.new.spill)
          read.same;
      same_faults = read.same_faults;
      held = there_same read.same c.requires.out;
      part = refl;
      reading = read.reading;
      source = read.same_source ∙ started.source;
      so_far = λ told list may. so-far-none c.args.records.now.capacity c.args.intervals.now c.args.bounds.now list
          c.args.from.now.rows _ c.args.out.now.rows may
          (rest-told _ left c.in_ok-held.held left_now read.next told ∙ started.left) c.requires.empty;
      within = λ told list may fits. ap (λ (s : SpillState). s.is_overrun) read.same;
      few = omega (arith, many, started.small);
      steps = omega (arith, read.steps, started.none_loaded);
      loaded = read.within;
      capacity = refl;
      room = read.same_room;
    }

pub put_held-requires-clause-found : goal.put_held-requires-clause-found
put_held-requires-clause-found g c told =
    let I = c.loop-grid.invariant in
    let told_before = sym I.only.same.tells ∙ told in
    let found = c.requires.found told_before in (
      found.0,
      may-now I.capacity (ap (λ (p : Part ShapeRow). p.rows) I.source) found.1,
      so-far-at I.capacity (I.so_far told_before found.0 found.1),
    )

pub returns-in_err-held-2-clause-within : goal.returns-in_err-held-2-clause-within
returns-in_err-held-2-clause-within g c told set list same may fits =
    let I = c.loop-grid.invariant in
    let few = subst (λ n. 39 * n ≤ part_limit) (ap length (set-rows set c.args.bounds.now list)
    ∙ ap (λ is. length (all_spread is c.args.bounds.now list)) same) fits in
    c.in_err-held-2.ensures.within (I.only.same.tells ∙ told) list
    (may-now I.capacity (ap (λ (p : Part ShapeRow). p.rows) I.source) may)
    (so-far-at I.capacity (I.so_far told list may)) few
    ∙ I.within told list may few

pub loop-grid-preserved : goal.loop-grid-preserved
loop-grid-preserved g c =
    let I = c.loop-grid.invariant in
    let put = c.in_ok-held-2.ensures in
    let rows = ap (λ (p : Part ShapeRow). p.rows) I.source in
    record {
      only = touched_then I.only refl I.part put.only;
      same_faults = put.same_faults ∙ I.same_faults;
      held = put.held;
      part = put.same_part ∙ I.part;
      reading = put.reading;
      source = put.source ∙ I.source;
      so_far = λ told list may. so-far-at (sym I.capacity)
          (put.so_far (I.only.same.tells ∙ told) list (may-now I.capacity rows may)
          (so-far-at I.capacity (I.so_far told list may)));
      within = λ told list may fits. put.within (I.only.same.tells ∙ told) list (may-now I.capacity rows may)
          (so-far-at I.capacity (I.so_far told list may)) fits
          ∙ I.within told list may fits;
      few = omega (arith, put.shorter, I.few);
      steps = omega (arith, put.steps, I.steps);
      loaded = put.loaded;
      capacity = put.capacity ∙ I.capacity;
      room = put.same_room ∙ I.room;
    }

pub returns-clause-put : goal.returns-clause-put
returns-clause-put g c told set list same may =
    so-far-all c.args.records.now.capacity set c.args.intervals.now c.args.bounds.now list c.args.from.now.rows
    c.loop-grid.held c.loop-grid.reader.left c.loop-grid.out.rows
    (sym c.is_held.ensures ∙ c.loop-grid-test.false) same may (c.loop-grid.invariant.so_far told list may)

pub returns-clause-within : goal.returns-clause-within
returns-clause-within g c told set list same may fits =
    c.loop-grid.invariant.within told list may
    (subst (λ n. 39 * n ≤ part_limit) (ap length (set-rows set c.args.bounds.now list)
    ∙ ap (λ is. length (all_spread is c.args.bounds.now list)) same) fits)
