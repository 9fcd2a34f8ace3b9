use Rattle.std.proofs.Common.{◌≡◌, ◌∷◌, ◌++◌, ◌<◌, ◌^◌, [], length, rules}
use Rattle.ring_assembly.proofs.LastRings.{last-room, last-rest, ring-home, ring-points, ring-before}
use Rattle.ring_assembly.proofs.laid.last_ring.Goals as goal

pub overflow_sub-rows : goal.overflow_sub-rows
overflow_sub-rows c =
    let is : c.args.rows.now ≡ c.in_ok-row.rows.now ++ c.in_ok-row.row.now ∷ [] = search rules in
    let few : length c.args.rows.now < 2 ^ 64 = search rules in
    let foot = c.read_foot-foot.result in
    last-room c.args.rows.now c.in_ok-row.rows.now c.in_ok-row.row.now is few foot.home foot.points
    c.read_foot-foot.ensures c.requires

pub returns-clause-some : goal.returns-clause-some
returns-clause-some c = λ before ring are.
    let is : c.args.rows.now ≡ c.in_ok-row.rows.now ++ c.in_ok-row.row.now ∷ [] = search rules in
    let few : length c.args.rows.now < 2 ^ 64 = search rules in
    let foot = c.read_foot-foot.result in
    rw (c.split_at.ensures.front, c.split_at.ensures.back)
    (record {
      home = ring-home c.args.rows.now c.in_ok-row.rows.now c.in_ok-row.row.now is few foot.home foot.points
          c.read_foot-foot.ensures before ring are;
      points = ring-points c.args.rows.now c.in_ok-row.rows.now c.in_ok-row.row.now is few foot.home foot.points
          c.read_foot-foot.ensures before ring are;
      before = ring-before c.args.rows.now c.in_ok-row.rows.now c.in_ok-row.row.now is few foot.home foot.points
          c.read_foot-foot.ensures before ring are;
    })

pub returns-clause-rings : goal.returns-clause-rings
returns-clause-rings c =
    let is : c.args.rows.now ≡ c.in_ok-row.rows.now ++ c.in_ok-row.row.now ∷ [] = search rules in
    let few : length c.args.rows.now < 2 ^ 64 = search rules in
    let foot = c.read_foot-foot.result in
    rw c.split_at.ensures.front
    (last-rest c.args.rows.now c.in_ok-row.rows.now c.in_ok-row.row.now is few foot.home foot.points
    c.read_foot-foot.ensures c.requires)
