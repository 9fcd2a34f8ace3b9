use Rattle.std.proofs.Common.{◌≡◌, ◌-◌, ◌∙◌, ℕ, ap, sym, arith}
use Rattle.mercator_rows.proofs.Scales.{scale_on, scale_on-start, scale_on-end, scale_on-set_at, scale_on-clear_at}
use Rattle.mercator_rows.proofs.Scales.{root_of_scale-le}
use Rattle.mercator_rows.proofs.latitude.Roots.scale.Goals as goal
use Rattle.mercator_rows.proofs.latitude.Roots.scale.Goals.{then-a-i-eq1, else-a-i-eq1}

pub loop-i-init : goal.loop-i-init
loop-i-init c = record { left = scale_on-start c.args.a; bound = omega arith }

pub product-scale-requires : goal.product-scale-requires
product-scale-requires c = rw (c.args.self.now.each c.loop-i.i c.loop-i-test.true) (root_of_scale-le c.loop-i.i)

pub loop-i-preserved : goal.loop-i-preserved
loop-i-preserved c = elim c.if-a-i-eq1.branch [
  | then-a-i-eq1 w ↦ record {
    left = rw (w.scale-is, w.product-scale.ensures.value)
        (scale_on-set_at c.args.a c.loop-i.i _ c.loop-i.scale c.loop-i-test.true w.if-a-i-eq1.true
        (c.args.self.now.each c.loop-i.i c.loop-i-test.true) ∙ c.loop-i.invariant.left);
    bound = omega (arith, w.scale-is, w.product-scale.ensures.bound, c.loop-i.invariant.bound);
  }
  | else-a-i-eq1 w ↦ record {
    left = rw w.scale-is (scale_on-clear_at c.args.a c.loop-i.i c.loop-i.scale c.loop-i-test.true w.if-a-i-eq1.false
        ∙ c.loop-i.invariant.left);
    bound = omega (arith, w.scale-is, c.loop-i.invariant.bound);
  }
]

pub returns-clause-value : goal.returns-clause-value
returns-clause-value c =
    let n : 18 - c.loop-i.i ≡ 0 = omega arith in
    sym (scale_on-end c.args.a c.loop-i.scale) ∙ ap (λ (n : ℕ). scale_on c.args.a n c.loop-i.scale) (sym n)
    ∙ c.loop-i.invariant.left
