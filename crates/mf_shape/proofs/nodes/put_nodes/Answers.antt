use Rattle.std.proofs.Common.{◌≡◌, length, refl, sym, ap, ◌∙◌, arith}
use Rattle.mf_edge.specs.Spill.{SpillState}
use Rattle.spill_parts.specs.Join.{rest_of}
use Rattle.spill_parts.proofs.Kept.{there_same}
use Rattle.unit_rows.proofs.Loads.{rest-told, rest-counted}
use Rattle.mf_shape.proofs.Going.{touches-read, so-far-none, so-far-all}
use Rattle.mf_shape.proofs.nodes.put_nodes.Goals as goal

pub next-requires-clause-reading : goal.next-requires-clause-reading
next-requires-clause-reading g c =
    c.start-reader.ensures.reading c.args.page.now (g.P.Spill.state c.args.spill.now) c.requires.from

pub loop-reader-init : goal.loop-reader-init
loop-reader-init g c =
    let started = c.start-reader.ensures in
    let read = c.in_ok-held.ensures in
    let left = c.start-reader.result.left in
    let left_now = c.next.new.self.left in
    let many : length (rest_of c.in_ok-held.held left_now) ≡ length c.args.from.now.rows =
    rest-counted _ left c.in_ok-held.held left_now read.next ∙ ap length started.left in
    let empty : length c.args.out.now.rows ≡ 0 = ap length c.requires.empty in
    record {
      only = touches-read c.args.out.now.part (g.P.Spill.state c.args.spill.now) (g.P.Spill.state c.next.new.spill)
          read.same;
      same_faults = read.same_faults;
      same_overrun = ap (λ (s : SpillState). s.is_overrun) read.same;
      held = there_same read.same c.requires.out;
      part = refl;
      reading = read.reading;
      source = read.same_source ∙ started.source;
      so_far = λ told all each is. so-far-none c.args.records.now.capacity all _ c.args.out.now.rows
          (rest-told _ left c.in_ok-held.held left_now read.next told ∙ started.left ∙ is) c.requires.empty;
      fits = omega (arith, many, empty, started.small);
      few = omega (arith, many, started.small);
      steps = omega (arith, read.steps, started.none_loaded);
      within = read.within;
      capacity = refl;
      room = read.same_room;
    }

pub returns-clause-numbered : goal.returns-clause-numbered
returns-clause-numbered g c told all each is =
    so-far-all c.args.records.now.capacity all c.loop-reader.held c.loop-reader.reader.left c.loop-reader.out.rows
    c.loop-reader.counts (sym c.is_held.ensures ∙ c.loop-reader-test.false) each
    (c.loop-reader.invariant.so_far told all each is)
