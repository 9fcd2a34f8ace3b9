use Rattle.std.proofs.Common.{◌≡◌, rules, true, false}
use Rattle.std.specs.Prelude.{int_le}
use Rattle.ring_assembly.proofs.Edges.{read, crosses-then, crosses-else}
use Rattle.ring_assembly.proofs.inside.crosses_edge.Goals as goal

pub returns-then-a-b : goal.returns-then-a-b
returns-then-a-b c =
    let a : read c.args.a.lat ≡ c.args.a.lat = search rules in
    let b : read c.args.b.lat ≡ c.args.b.lat = search rules in
    let up : int_le (read c.args.a.lat) (read c.args.b.lat) ≡ true = c.if-a-b.true in
    crosses-then c.args.p c.args.a c.args.b c.crosses_up.result (rw (a, b) at up) c.crosses_up.ensures

pub returns-else-a-b : goal.returns-else-a-b
returns-else-a-b c =
    let a : read c.args.a.lat ≡ c.args.a.lat = search rules in
    let b : read c.args.b.lat ≡ c.args.b.lat = search rules in
    let up : int_le (read c.args.a.lat) (read c.args.b.lat) ≡ false = c.if-a-b.false in
    crosses-else c.args.p c.args.a c.args.b c.crosses_up-else-a-b.result (rw (a, b) at up)
    c.crosses_up-else-a-b.ensures
