use Rattle.std.proofs.Common.{◌∙◌, rules, w64}
use Rattle.std.proofs.lemmas.Int.{to_z-of_z}
use Rattle.osm_entity.specs.DenseColumns.{numbers_shown}
use Rattle.osm_entity.proofs.DenseReads.{plus-is, plus-no_id, plus-no_lat, plus-no_lon, plus-read, read}
use Rattle.osm_entity.proofs.node_numbers.NodeNumbers.plus.Goals as goal

pub returns-in-Some-Some-Some : goal.returns-in-Some-Some-Some
returns-in-Some-Some-Some c =
    let n = numbers_shown c.args.self in
    let d = numbers_shown c.args.differences in
    let told = plus-read n.0 n.1 n.2 d.0 d.1 d.2 (search rules) (search rules) (search rules)
    (search rules) (search rules) (search rules) in
    rw (
      to_z-of_z w64 c.in-Some-Some-Some.id (search rules),
      to_z-of_z w64 c.in-Some-Some-Some.lat (search rules),
      to_z-of_z w64 c.in-Some-Some-Some.lon (search rules),
    )
    (plus-is (read n.0, read n.1, read n.2) (read d.0, read d.1, read d.2)
    c.checked_sum-id.result c.checked_sum-lat.result
    c.checked_sum-lon.result c.in-Some-Some-Some.id c.in-Some-Some-Some.lat c.in-Some-Some-Some.lon
    c.checked_sum-id.ensures c.checked_sum-lat.ensures c.checked_sum-lon.ensures
    c.in-Some-Some-Some.is-0 c.in-Some-Some-Some.is-1 c.in-Some-Some-Some.is-2 ∙ told)

pub returns-in_default : goal.returns-in_default
returns-in_default c =
    let n = numbers_shown c.args.self in
    let d = numbers_shown c.args.differences in
    let told = plus-read n.0 n.1 n.2 d.0 d.1 d.2 (search rules) (search rules) (search rules)
    (search rules) (search rules) (search rules) in
    plus-no_lon (read n.0, read n.1, read n.2) (read d.0, read d.1, read d.2)
    c.checked_sum-id.result c.checked_sum-lat.result
    c.checked_sum-lon.result c.in_default.field-0-0 c.in_default.field-0-1 c.checked_sum-id.ensures
    c.checked_sum-lat.ensures c.checked_sum-lon.ensures c.in_default.is-0 c.in_default.is-1 c.in_default.is-2 ∙ told

pub returns-in_default-2 : goal.returns-in_default-2
returns-in_default-2 c =
    let n = numbers_shown c.args.self in
    let d = numbers_shown c.args.differences in
    let told = plus-read n.0 n.1 n.2 d.0 d.1 d.2 (search rules) (search rules) (search rules)
    (search rules) (search rules) (search rules) in
    plus-no_lat (read n.0, read n.1, read n.2) (read d.0, read d.1, read d.2)
    c.checked_sum-id.result c.checked_sum-lat.result
    c.in_default.field-0-0 c.checked_sum-id.ensures c.checked_sum-lat.ensures c.in_default.is-0 c.in_default.is-1 ∙ told

pub returns-in_default-3 : goal.returns-in_default-3
returns-in_default-3 c =
    let n = numbers_shown c.args.self in
    let d = numbers_shown c.args.differences in
    let told = plus-read n.0 n.1 n.2 d.0 d.1 d.2 (search rules) (search rules) (search rules)
    (search rules) (search rules) (search rules) in
    plus-no_id (read n.0, read n.1, read n.2) (read d.0, read d.1, read d.2)
    c.checked_sum-id.result c.checked_sum-id.ensures
    c.in_default.is-0 ∙ told
