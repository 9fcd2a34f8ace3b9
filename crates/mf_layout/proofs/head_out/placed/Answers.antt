use Rattle.std.proofs.Common.{rules, arith, ◌<◌, length}
use Rattle.mf_layout.proofs.Placing.{sized-at, placed-more, placed-all}
use Rattle.mf_layout.proofs.head_out.placed.Goals as goal

pub loop-i-preserved : goal.loop-i-preserved
loop-i-preserved c =
    let I = c.loop-i.invariant in
    let less : c.loop-i.i < length c.args.sizes.now = c.loop-i-test.true in
    record {
      placed = placed-more c.args.head c.loop-i.start c.loop-i.subs c.args.sizes.now c.loop-i.i _
          (omega (arith, less, I.room, c.requires.few)) less I.placed;
      room = search rules;
      within = omega (
        arith,
        I.within,
        (sized-at c.args.sizes.now c.loop-i.i (record { tiles = 0; bytes = 0 }) less
            c.requires.each).1,
      );
    }

pub returns : goal.returns
returns c = placed-all c.args.head c.loop-i.start c.loop-i.subs c.args.sizes.now c.loop-i.i c.loop-i.auto.i-end
    c.loop-i-test.false c.loop-i.invariant.placed
