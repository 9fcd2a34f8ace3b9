use Rattle.std.proofs.Common.{rules, ◌≡◌, w64, ◌-ℤ◌, to_z, of_z}
use Rattle.way_delta.proofs.steps.step_between.Goals as goal

pub returns-clause-step : goal.returns-clause-step
returns-clause-step c =
    let lat : to_z w64 (of_z w64 (to_z w64 (of_z w64 c.from.result) -ℤ to_z w64 (of_z w64 c.from-2.result)))
    ≡ c.args.to.lat -ℤ c.args.from.lat = search rules in
    let lon : to_z w64 (of_z w64 (to_z w64 (of_z w64 c.from-3.result) -ℤ to_z w64 (of_z w64 c.from-4.result)))
    ≡ c.args.to.lon -ℤ c.args.from.lon = search rules in
    λ i. record { lat = lat i; lon = lon i }
