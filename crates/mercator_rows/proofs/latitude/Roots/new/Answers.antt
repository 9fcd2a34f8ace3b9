use Rattle.std.proofs.Common.{◌≡◌, ◌<◌, ◌≢◌, ◌-◌, length, arith, refl, ◌∙◌, replicate, get_or-set_other}
use Rattle.std.proofs.Common.{get_or-set_same, below_more}
use Rattle.std.proofs.Math.ListN.{length-set}
use Rattle.map_model.specs.Mercator.{root_of_scale}
use Rattle.mercator_rows.proofs.Scales.{first_root, root_of_scale-next}
use Rattle.mercator_rows.proofs.latitude.Roots.new.Goals as goal

pub loop-i-init : goal.loop-i-init
loop-i-init c = record { count = refl; each = first_root (replicate 18 43213918263772250) refl }

pub loop-i-preserved : goal.loop-i-preserved
loop-i-preserved c =
    let before = c.loop-i.invariant.each (c.loop-i.i - 1) (omega arith) in
    let root : c.isqrt.result ≡ root_of_scale c.loop-i.i =
    root_of_scale-next c.loop-i.i c.isqrt.result (omega arith) (cc) in
    record {
      count = length-set c.loop-i.roots c.loop-i.i c.isqrt.result ∙ c.loop-i.invariant.count;
      each = below_more _ _
          (λ k h. let ne : k ≢ c.loop-i.i = omega arith in rw get_or-set_other (c.loop-i.invariant.each k h))
          (let lt : c.loop-i.i < length c.loop-i.roots = omega arith in rw get_or-set_same root);
    }

pub invariant_of-result : goal.invariant_of-result
invariant_of-result c = record { each = λ i lt. c.loop-i.invariant.each i (omega (arith, lt, c.loop-i-test.false)) }
