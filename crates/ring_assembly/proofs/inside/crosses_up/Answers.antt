use Rattle.std.proofs.Common.{◌≡◌, rules, ◌-ℤ◌, ◌*ℤ◌, to_z, of_z}
use Rattle.std.specs.Prelude.{int_lt}
use mir.Syntax.{w128}
use Rattle.feature_model.specs.Inside.{is_one_of}
use Rattle.ring_assembly.proofs.Edges.{up-then, up-else}
use Rattle.ring_assembly.proofs.inside.crosses_up.Goals as goal

pub returns-then-between : goal.returns-then-between
returns-then-between c =
    let is : c.is_between-between.result
    ≡ is_one_of (int_lt c.args.p.lat c.args.a.lat) (int_lt c.args.p.lat c.args.b.lat) = search rules in
    let west : to_z w128 (of_z w128 c.product-west.result)
    ≡ (c.args.p.lon -ℤ c.args.a.lon) *ℤ (c.args.b.lat -ℤ c.args.a.lat) = search rules in
    let edge : to_z w128 (of_z w128 c.product-edge.result)
    ≡ (c.args.b.lon -ℤ c.args.a.lon) *ℤ (c.args.p.lat -ℤ c.args.a.lat) = search rules in
    up-then c.args.p c.args.a c.args.b c.is_between-between.result is _ _ west edge c.if-between.true

pub returns-else-between : goal.returns-else-between
returns-else-between c =
    let is : c.is_between-between.result
    ≡ is_one_of (int_lt c.args.p.lat c.args.a.lat) (int_lt c.args.p.lat c.args.b.lat) = search rules in
    up-else c.args.p c.args.a c.args.b c.is_between-between.result is c.if-between.false
