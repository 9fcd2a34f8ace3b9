use Rattle.std.proofs.Common.{◌∙◌, ◌+◌, ◌-◌, ap, sym, subst, refl, take, drop, arith, List}
use Rattle.mf_rows.specs.Units.{Unit16}
use Rattle.ring_assembly.specs.Laid.{LaidRing, AreRowsOf}
use Rattle.ring_assembly.specs.Marked.{all_units}
use Rattle.ring_assembly.specs.PutBack.{inner_parts}
use Rattle.ring_assembly.proofs.Putting.{blocks-start, some-block, inner-fits, outer-fits, blocks-next}
use Rattle.ring_assembly.proofs.Putting.{blocks-done, blocks-held, cut-long, puts-long}
use Rattle.ring_assembly.proofs.put_back.put_blocks.Goals as goal

pub loop-ring-init : goal.loop-ring-init
loop-ring-init c =
    let place = c.args.front + c.args.outer.rows + c.args.inner.housed in
    let cut = record c.args.records.now { loose = take place c.args.records.now.loose } in
    let rows = sym (c.split_at.ensures.front ∙ ap (take c.args.outer.rows) c.rows_of.ensures) in
    let left = λ (os : List LaidRing) (are : AreRowsOf os _). subst (λ (us : List Unit16). AreRowsOf os us) rows are in
    record {
      known = λ os is laid.
          blocks-start c.args.front os is c.split_at.result.0.now c.args.outer.rings
          cut c.cut_loose.new.self place
          c.cut_loose.ensures (left os laid.outer_rows) laid.count (omega (arith, laid.total));
      rows = (c.requires.0, left c.requires.0 c.requires.2.outer_rows);
    }

pub overflow_sub-home : goal.overflow_sub-home
overflow_sub-home c =
    let place = c.args.front + c.args.outer.rows + c.args.inner.housed in
    let cut = record c.args.records.now { loose = take place c.args.records.now.loose } in
    let os = c.requires.0 in
    let is = c.requires.1 in
    let laid = c.requires.2 in
    let known = c.loop-ring.invariant.known os is laid in
    some-block c.args.front os is c.loop-ring.left.now c.loop-ring.home cut c.loop-ring.records
    c.loop-ring.place place c.in-Some.ring known c.in-Some.ensures.some c.in-Some.ensures.less

pub put_inner-begin-requires : goal.put_inner-begin-requires
put_inner-begin-requires c =
    let place = c.args.front + c.args.outer.rows + c.args.inner.housed in
    let cut = record c.args.records.now { loose = take place c.args.records.now.loose } in
    let os = c.requires.0 in
    let is = c.requires.1 in
    let laid = c.requires.2 in
    let known = c.loop-ring.invariant.known os is laid in
    let rows = sym (c.split_at.ensures.back ∙ ap (drop c.args.outer.rows) c.rows_of.ensures) in
    let held =
    blocks-held c.args.front os is c.args.outer c.args.inner c.args.records.now c.args.out.now laid
    c.loop-ring.left.now c.loop-ring.home c.loop-ring.records c.loop-ring.place known in
    record {
      rings = (
        is,
        subst (λ (us : List Unit16). AreRowsOf is us) rows laid.inner_rows,
        inner-fits c.args.front os is c.loop-ring.left.now c.loop-ring.home cut
            c.loop-ring.records c.loop-ring.place place
            c.in-Some.ring known c.in-Some.ensures.some c.in-Some.ensures.less,
      );
      within = held.0;
      few = held.1;
    }

pub put_ring-place-requires : goal.put_ring-place-requires
put_ring-place-requires c =
    let place = c.args.front + c.args.outer.rows + c.args.inner.housed in
    let cut = record c.args.records.now { loose = take place c.args.records.now.loose } in
    let os = c.requires.0 in
    let is = c.requires.1 in
    let laid = c.requires.2 in
    let known = c.loop-ring.invariant.known os is laid in
    let rows = sym (c.split_at.ensures.back ∙ ap (drop c.args.outer.rows) c.rows_of.ensures) in
    let held =
    blocks-held c.args.front os is c.args.outer c.args.inner c.args.records.now c.args.out.now laid
    c.loop-ring.left.now c.loop-ring.home c.loop-ring.records c.loop-ring.place known in
    let put = c.put_inner-begin.ensures is (subst (λ (us : List Unit16). AreRowsOf is us) rows laid.inner_rows) in
    let long = puts-long c.loop-ring.records c.put_inner-begin.new.records c.put_inner-begin.result c.loop-ring.place
    (all_units (inner_parts (c.loop-ring.home - 1) is)) put held.0 in
    record {
      within = omega (arith, long, held.0, put.place);
      few = omega (arith, long, held.1);
      room =
          outer-fits c.args.front os is c.loop-ring.left.now c.loop-ring.home cut
          c.loop-ring.records c.loop-ring.place place
          c.in-Some.ring known c.in-Some.ensures.some c.in-Some.ensures.less c.put_inner-begin.new.records
          c.put_inner-begin.result put;
    }

pub loop-ring-preserved : goal.loop-ring-preserved
loop-ring-preserved c =
    let place = c.args.front + c.args.outer.rows + c.args.inner.housed in
    let cut = record c.args.records.now { loose = take place c.args.records.now.loose } in
    let rows = sym (c.split_at.ensures.back ∙ ap (drop c.args.outer.rows) c.rows_of.ensures) in
    record {
      known = λ os is laid.
          blocks-next c.args.front os is c.loop-ring.left.now c.loop-ring.home cut
          c.loop-ring.records c.loop-ring.place place
          c.in-Some.ring (c.loop-ring.invariant.known os is laid) c.in-Some.ensures.some c.in-Some.ensures.less
          c.put_inner-begin.new.records c.put_ring-place.new.records c.put_inner-begin.result
          c.put_ring-place.result
          (omega (arith, cut-long c.args.front os is c.args.outer c.args.inner c.args.records.now c.args.out.now laid))
          (c.put_inner-begin.ensures is (subst (λ (us : List Unit16). AreRowsOf is us) rows laid.inner_rows))
          c.put_ring-place.ensures;
      rows = c.in-Some.ensures.rings;
    }

pub returns : goal.returns
returns c = λ os is laid.
    let place = c.args.front + c.args.outer.rows + c.args.inner.housed in
    let cut = record c.args.records.now { loose = take place c.args.records.now.loose } in
    blocks-done c.args.front os is c.loop-ring.left.now c.loop-ring.home c.args.records.now
    cut
    c.loop-ring.records c.loop-ring.place place refl (omega arith)
    laid.room (c.loop-ring.invariant.known os is laid) (c.in_default.ensures.none refl)
