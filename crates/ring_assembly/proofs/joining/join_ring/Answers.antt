use Rattle.std.proofs.Common.{◌∙◌, ◌*◌, ◌+◌, ◌≤◌, ◌++◌, List, length, refl, ap, subst, sym}
use Rattle.mf_rows.specs.Units.{Unit16}
use Rattle.mf_rows.specs.Desks.{Desktop}
use Rattle.ring_assembly.specs.Marked.{points_in}
use Rattle.ring_assembly.specs.Rows.{row_total, LaysRows}
use Rattle.ring_assembly.specs.Added.{added_units, other_end}
use Rattle.ring_assembly.specs.Taken.{units_taken, taken_piece}
use Rattle.ring_assembly.proofs.RingGrowth.{growing-fits, growing-more, growing-fewer, growing-open, growing-closed}
use Rattle.ring_assembly.proofs.RingGrowth.{points-long, taken-long}
use Rattle.ring_assembly.proofs.joining.join_ring.Goals as goal

pub add_part-last-requires-clause-room : goal.add_part-last-requires-clause-room
add_part-last-requires-clause-room c =
    let start = taken_piece c.args.start c.args.records.now in
    let long = points-long (units_taken c.args.start c.args.records.now)
    ∙ taken-long c.args.start c.args.records.now c.requires.start in
    subst (λ (us : List Unit16). 16 * (row_total c.loop-last.out.bytes + length us) ≤ c.loop-last.out.capacity)
    (sym c.units_taken.ensures)
    (growing-fits c.args.front c.args.role start c.first_node-first.result c.loop-last.last c.args.records.now
    c.args.out.now c.loop-last.invariant.0 c.loop-last.records c.loop-last.out c.loop-last.invariant.1 c.in-Some.part
    c.take_part.new.records c.in-Some.ensures c.args.start.points long c.requires.room)

pub loop-last-smaller : goal.loop-last-smaller
loop-last-smaller c =
    let start = taken_piece c.args.start c.args.records.now in
    growing-fewer c.args.front c.args.role start c.first_node-first.result c.loop-last.last c.args.records.now
    c.args.out.now c.loop-last.invariant.0 c.loop-last.records c.loop-last.out c.loop-last.invariant.1
    c.loop-last-test.true c.in-Some.part c.take_part.new.records c.add_part-last.new.out c.add_part-last.result
    c.in-Some.ensures
    (subst (λ (us : List Unit16). LaysRows c.loop-last.out c.add_part-last.new.out (added_units c.loop-last.last us))
    c.units_taken.ensures c.add_part-last.ensures.laid)
    (c.add_part-last.ensures.end
    ∙ ap (λ (us : List Unit16). other_end c.loop-last.last (points_in us)) c.units_taken.ensures)

pub loop-last-preserved : goal.loop-last-preserved
loop-last-preserved c =
    let start = taken_piece c.args.start c.args.records.now in (
      c.loop-last.invariant.0
          ++ added_units c.loop-last.last (units_taken c.in-Some.part c.take_part.new.records),
      growing-more c.args.front c.args.role start c.first_node-first.result c.loop-last.last c.args.records.now
          c.args.out.now c.loop-last.invariant.0 c.loop-last.records c.loop-last.out c.loop-last.invariant.1
          c.loop-last-test.true c.in-Some.part c.take_part.new.records c.add_part-last.new.out c.add_part-last.result
          c.in-Some.ensures
          (subst (λ (us : List Unit16). LaysRows c.loop-last.out c.add_part-last.new.out (added_units c.loop-last.last us))
          c.units_taken.ensures c.add_part-last.ensures.laid)
          (c.add_part-last.ensures.end
          ∙ ap (λ (us : List Unit16). other_end c.loop-last.last (points_in us)) c.units_taken.ensures),
    )

pub returns-in-None : goal.returns-in-None
returns-in-None c =
    let start = taken_piece c.args.start c.args.records.now in (
      refl,
      growing-open c.args.front c.args.role start c.first_node-first.result c.loop-last.last c.args.records.now
          c.args.out.now c.loop-last.invariant.0 c.loop-last.records c.loop-last.out c.loop-last.invariant.1
          c.loop-last-test.true c.in-None.ensures.1,
      record {
        records = ap (λ (d : Desktop). d.capacity) c.in-None.ensures.0 ∙ c.loop-last.invariant.1.keeps.capacity;
        out = c.loop-last.invariant.1.lays.capacity;
      },
    )

pub returns : goal.returns
returns c =
    let start = taken_piece c.args.start c.args.records.now in (
      c.loop-last.invariant.0,
      growing-closed c.args.front c.args.role start c.first_node-first.result c.loop-last.last c.args.records.now
          c.args.out.now c.loop-last.invariant.0 c.loop-last.records c.loop-last.out c.loop-last.invariant.1
          c.loop-last-test.false,
    )
