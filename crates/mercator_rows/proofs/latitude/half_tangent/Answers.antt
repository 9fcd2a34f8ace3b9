use Rattle.std.proofs.Common.{◌≡◌, ◌+◌, ◌*◌, ◌≤◌, sym, subst, ℕ, arith}
use Rattle.mf_base.specs.Root.{isqrt}
use Rattle.map_model.specs.Mercator.{unit, half_tangent}
use Rattle.mercator_rows.proofs.Scales.{half-le, secant-le}
use Rattle.mercator_rows.proofs.latitude.half_tangent.Goals as goal

pub returns-clause-bound : goal.returns-clause-bound
returns-clause-bound c =
    let e : c.quotient.result ≡ half_tangent c.args.t = cc in
    subst (λ (n : ℕ). 2 * n ≤ c.args.t) (sym e) (half-le c.args.t)

pub overflow_add-isqrt : goal.overflow_add-isqrt
overflow_add-isqrt c =
    let e : c.isqrt.result ≡ isqrt (unit * unit + c.args.t * c.args.t) = cc in
    omega (arith, e, secant-le c.args.t c.requires)
