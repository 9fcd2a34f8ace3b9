use Rattle.std.proofs.Common.{◌≡◌, ◌-◌, ◌<◌, ◌≤◌, ℕ, get_or, vec_len, vec_capacity}
use Rattle.std.specs.Prelude.{min}
use Rattle.map_model.specs.Mercator.{raw_lat, north_lat}
use Rattle.mercator_rows.proofs.rows.Rows.new.Given as goal

abbrev pub invariant-loop-k : goal.invariant-loop-k
invariant-loop-k l = record {
  count : vec_len l.edges ≡ l.k;
  room : 131073 ≤ vec_capacity l.edges;
  each : (j : ℕ) → j < l.k → get_or l.edges.items j 0 ≡ north_lat j;
  next : min l.edge (raw_lat (131072 - l.k)) ≡ north_lat l.k;
}
