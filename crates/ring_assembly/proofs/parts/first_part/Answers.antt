use Rattle.std.proofs.Common.{◌≡◌, ◌-◌, [], refl, arith, length, rules}
use Rattle.ring_assembly.specs.Marked.{suits}
use Rattle.ring_assembly.proofs.Marks.{passed-on, found-here, none-found}
use Rattle.ring_assembly.proofs.parts.first_part.Goals as goal

pub loop-front-preserved : goal.loop-front-preserved
loop-front-preserved c = record {
  passed = λ marked is. passed-on (suits c.args.role c.args.end) marked c.loop-front.left.now c.loop-front.number
      (c.loop-front.invariant.passed marked is) c.in-Some.front.points.now c.in-Some.front.rest.now
      c.is_wanted.result c.in-Some.ensures.less
      (λ m more here. let f = c.in-Some.ensures.some m more here in (f.1, f.2, c.is_wanted.ensures m more f))
      c.if-is_wanted.false;
  marked = c.in-Some.ensures.rest;
  within = omega (arith, c.loop-front.invariant.within, c.in-Some.ensures.less);
}

pub returns-then-is_wanted : goal.returns-then-is_wanted
returns-then-is_wanted c = λ marked is.
    found-here (suits c.args.role c.args.end) marked c.loop-front.left.now c.loop-front.number
    (c.loop-front.invariant.passed marked is) c.in-Some.front.points.now c.in-Some.front.rest.now
    c.args.parts.now c.is_wanted.result
    (record {
      at = length c.args.parts.now - length c.loop-front.left.now;
      points = length c.in-Some.front.points.now;
      number = c.loop-front.number;
    }) c.in-Some.ensures.less
    (λ m more here. let f = c.in-Some.ensures.some m more here in (f.1, f.2, c.is_wanted.ensures m more f))
    c.if-is_wanted.true is refl refl refl

pub returns : goal.returns
returns c = λ marked is.
    let empty : c.loop-front.left.now ≡ [] = search rules in
    none-found (suits c.args.role c.args.end) marked c.loop-front.left.now c.loop-front.number
    (c.loop-front.invariant.passed marked is) empty
