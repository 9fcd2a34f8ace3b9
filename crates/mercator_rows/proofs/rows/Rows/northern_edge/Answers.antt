use Rattle.std.proofs.Common.{◌≡◌, ◌∙◌, ◌-◌, ◌*◌, ◌^◌, ◌<◌, ℕ, arith, ap}
use Rattle.std.specs.Prelude.{pos, neg_ℤ}
use Rattle.map_model.specs.Mercator.{north_lat}
use Rattle.mercator_rows.proofs.Signed.{again_32}
use Rattle.mercator_rows.proofs.Corners.{first_fine_row, fine_row-fits, north_lat-le, corner_lat-north}
use Rattle.mercator_rows.proofs.Corners.{corner_lat-south, mirrored, mirrored-small}
use Rattle.mercator_rows.proofs.rows.Rows.northern_edge.Goals as goal

pub overflow_sub-k-else-k-le131072 : goal.overflow_sub-k-else-k-le131072
overflow_sub-k-else-k-le131072 c =
    omega (
      arith,
      fine_row-fits c.args.z c.args.y c.requires.zoom c.requires.y,
      first_fine_row c.args.z c.args.y c.requires.zoom c.requires.y,
    )

pub returns-then-k-le131072 : goal.returns-then-k-le131072
returns-then-k-le131072 c =
    let whole = fine_row-fits c.args.z c.args.y c.requires.zoom c.requires.y in
    let k = c.args.y * 2 ^ (18 - c.args.z) in
    let is : c.edge.result ≡ pos (north_lat k) = c.edge.ensures ∙ ap (λ (k : ℕ). pos (north_lat k)) whole in
    rw (is, corner_lat-north c.args.z c.args.y (omega (arith, whole, c.if-k-le131072.true)))
    (again_32 (pos (north_lat k)) (omega (arith, north_lat-le k)))

pub returns-else-k-le131072 : goal.returns-else-k-le131072
returns-else-k-le131072 c =
    let whole = fine_row-fits c.args.z c.args.y c.requires.zoom c.requires.y in
    let k = 262144 - c.args.y * 2 ^ (18 - c.args.z) in
    let small : north_lat k < 2 ^ 31 = omega (arith, north_lat-le k) in
    let is : c.edge-else-k-le131072.result ≡ pos (north_lat k) =
    c.edge-else-k-le131072.ensures ∙ ap (λ (k : ℕ). pos (north_lat (262144 - k))) whole in
    rw (
      mirrored (north_lat k) c.edge-else-k-le131072.result small is,
      corner_lat-south c.args.z c.args.y (omega (arith, whole, c.if-k-le131072.false)),
    )
    (again_32 (neg_ℤ (pos (north_lat k))) (mirrored-small (north_lat k) small))
