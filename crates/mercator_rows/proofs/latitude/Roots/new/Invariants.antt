use Rattle.std.proofs.Common.{◌≡◌, ◌<◌, ℕ, length, get_or}
use Rattle.map_model.specs.Mercator.{root_of_scale}
use Rattle.mercator_rows.proofs.latitude.Roots.new.Given as goal

abbrev pub invariant-loop-i : goal.invariant-loop-i
invariant-loop-i l = record {
  count : length l.roots ≡ 18;
  each : (k : ℕ) → k < l.i → get_or l.roots k 0 ≡ root_of_scale k;
}
