use Rattle.std.proofs.Common.{◌≡◌, [], rules, subst, List}
use Rattle.mf_rows.specs.Units.{Unit16}
use Rattle.ring_assembly.proofs.LastRings.{AreLeft, none-seen, some-left, seen-more, all-seen}
use Rattle.ring_assembly.proofs.laid.first_around.Goals as goal

pub loop-ring-init : goal.loop-ring-init
loop-ring-init c = record {
  seen = λ laid are count. none-seen laid c.args.p c.args.outer.now c.args.rings are count;
  rows = (c.requires.0, c.requires.1);
}

pub overflow_sub-number : goal.overflow_sub-number
overflow_sub-number c =
    some-left c.requires.0 c.args.p c.loop-ring.left.now c.in-Some.ring.before.now c.loop-ring.number c.loop-ring.home
    (c.loop-ring.invariant.seen c.requires.0 c.requires.1 c.requires.2) c.in-Some.ensures.less

pub loop-ring-preserved : goal.loop-ring-preserved
loop-ring-preserved c = record {
  seen = λ laid are count.
      seen-more laid c.args.p c.loop-ring.left.now c.in-Some.ring.before.now c.loop-ring.number c.loop-ring.home
      (c.loop-ring.invariant.seen laid are count) c.in-Some.ensures.less c.in-Some.ring.points.now
      c.is_around.result c.nearer-home.result
      (λ todo r left. let last = c.in-Some.ensures.some todo r left in (last.points, last.before))
      c.is_around.ensures c.nearer-home.ensures;
  rows = c.in-Some.ensures.rings;
}

pub returns : goal.returns
returns c = λ laid are count.
    let none : c.loop-ring.left.now ≡ [] = search rules in
    all-seen laid c.args.p c.loop-ring.number c.loop-ring.home
    (subst (λ (us : List Unit16). AreLeft laid c.args.p us c.loop-ring.number c.loop-ring.home) none
    (c.loop-ring.invariant.seen laid are count))
