use Rattle.std.proofs.Common.{◌∙◌, refl, arith}
use Rattle.ring_assembly.specs.PutBack.{housed_units}
use Rattle.ring_assembly.proofs.Putting.{inner-start, inner-room, inner-next, inner-done, puts-long}
use Rattle.ring_assembly.proofs.put_back.put_inner.Goals as goal

pub loop-ring-init : goal.loop-ring-init
loop-ring-init c = record {
  known = λ rings rows. inner-start rings c.args.home c.args.rows.now c.args.records.now c.args.end rows;
  rows = (c.requires.rings.0, c.requires.rings.1);
  long = refl;
}

pub put_housed-place-requires : goal.put_housed-place-requires
put_housed-place-requires c =
    let known = c.loop-ring.invariant.known c.requires.rings.0 c.requires.rings.1 in
    record {
      within = omega (arith, known.puts.place, c.requires.within, c.loop-ring.invariant.long);
      few = omega (arith, c.requires.few, c.loop-ring.invariant.long);
      room = λ e.
          inner-room c.requires.rings.0 c.args.home c.loop-ring.left.now c.args.records.now c.loop-ring.records
          c.loop-ring.place c.args.end c.in-Some.ring known c.in-Some.ensures.some c.in-Some.ensures.less
          c.requires.rings.2 e;
    }

pub loop-ring-preserved : goal.loop-ring-preserved
loop-ring-preserved c =
    let first = c.loop-ring.invariant.known c.requires.rings.0 c.requires.rings.1 in
    record {
      known = λ rings rows.
          inner-next rings c.args.home c.loop-ring.left.now c.args.records.now c.loop-ring.records
          c.loop-ring.place c.args.end c.in-Some.ring (c.loop-ring.invariant.known rings rows)
          c.in-Some.ensures.some c.in-Some.ensures.less c.put_housed-place.new.records c.put_housed-place.result
          c.requires.within c.put_housed-place.ensures;
      rows = c.in-Some.ensures.rings;
      long = puts-long c.loop-ring.records c.put_housed-place.new.records c.put_housed-place.result c.loop-ring.place
          (housed_units c.args.home c.in-Some.ring.home c.in-Some.ring.points.now) c.put_housed-place.ensures
          (omega (arith, first.puts.place, c.requires.within, c.loop-ring.invariant.long))
          ∙ c.loop-ring.invariant.long;
    }

pub returns : goal.returns
returns c = λ rings rows.
    inner-done rings c.args.home c.loop-ring.left.now c.args.records.now c.loop-ring.records c.loop-ring.place
    c.args.end (c.loop-ring.invariant.known rings rows) (c.in_default.ensures.none refl)
