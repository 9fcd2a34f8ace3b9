use Rattle.std.proofs.Common.{◌≡◌, ◌-◌, ◌≤◌}
use Rattle.map_model.specs.Mercator.{unit, scale_at}
use Rattle.mercator_rows.proofs.Scales.{scale_on}
use Rattle.mercator_rows.proofs.latitude.Roots.scale.Given as goal

abbrev pub invariant-loop-i : goal.invariant-loop-i
invariant-loop-i l = record {
  left : scale_on l.a (18 - l.i) l.scale ≡ scale_at l.a;
  bound : l.scale ≤ unit;
}
