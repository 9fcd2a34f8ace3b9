use Rattle.std.proofs.Common.{rules, ◌≡◌, to_z, of_z, w32}
use Rattle.std.specs.Int.{int_min, int_max}
use Rattle.tile_assign.proofs.rect.with_place.Goals as goal

pub returns : goal.returns
returns c =
    let south : to_z w32 (of_z w32 c.min.result) ≡ int_min c.args.rect.min_lat c.args.place.lat = search rules in
    let west : to_z w32 (of_z w32 c.min-2.result) ≡ int_min c.args.rect.min_lon c.args.place.lon = search rules in
    let north : to_z w32 (of_z w32 c.max.result) ≡ int_max c.args.rect.max_lat c.args.place.lat = search rules in
    let east : to_z w32 (of_z w32 c.max-2.result) ≡ int_max c.args.rect.max_lon c.args.place.lon = search rules in
    λ i. record { min_lat = south i; min_lon = west i; max_lat = north i; max_lon = east i }
