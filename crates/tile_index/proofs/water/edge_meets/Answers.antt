use Rattle.std.proofs.Common.{◌≡◌, ◌∙◌, ap, rules, to_z, of_z, w32}
use Rattle.std.specs.Int.{int_min, int_max}
use Rattle.map_model.specs.Mercator.{row, column}
use Rattle.tile_index.proofs.Edges.{edge-then, edge-else}
use Rattle.tile_index.proofs.water.edge_meets.Goals as goal

pub returns-then-lies_within : goal.returns-then-lies_within
returns-then-lies_within c =
    let z = c.args.place.now.interval.base in
    let west : to_z w32 (of_z w32 c.min.result) ≡ int_min c.args.a.lon c.args.b.lon = search rules in
    let east : to_z w32 (of_z w32 c.max.result) ≡ int_max c.args.a.lon c.args.b.lon = search rules in
    let north : to_z w32 (of_z w32 c.max-2.result) ≡ int_max c.args.a.lat c.args.b.lat = search rules in
    let south : to_z w32 (of_z w32 c.min-2.result) ≡ int_min c.args.a.lat c.args.b.lat = search rules in
    edge-then c.args.place.now c.args.a c.args.b c.column-west.result c.column-east.result c.row-north.result
    c.row-south.result (c.column-west.ensures ∙ ap (column z) west) (c.column-east.ensures ∙ ap (column z) east)
    (c.row-north.ensures ∙ ap (row z) north) (c.row-south.ensures ∙ ap (row z) south) c.lies_within.result
    c.lies_within-then-lies_within.result c.lies_within.ensures c.lies_within-then-lies_within.ensures
    c.if-lies_within.true

pub returns-else-lies_within : goal.returns-else-lies_within
returns-else-lies_within c =
    let z = c.args.place.now.interval.base in
    let west : to_z w32 (of_z w32 c.min.result) ≡ int_min c.args.a.lon c.args.b.lon = search rules in
    let east : to_z w32 (of_z w32 c.max.result) ≡ int_max c.args.a.lon c.args.b.lon = search rules in
    let north : to_z w32 (of_z w32 c.max-2.result) ≡ int_max c.args.a.lat c.args.b.lat = search rules in
    let south : to_z w32 (of_z w32 c.min-2.result) ≡ int_min c.args.a.lat c.args.b.lat = search rules in
    edge-else c.args.place.now c.args.a c.args.b c.column-west.result c.column-east.result c.row-north.result
    c.row-south.result (c.column-west.ensures ∙ ap (column z) west) (c.column-east.ensures ∙ ap (column z) east)
    (c.row-north.ensures ∙ ap (row z) north) (c.row-south.ensures ∙ ap (row z) south) c.lies_within.result
    c.lies_within.ensures c.if-lies_within.false
