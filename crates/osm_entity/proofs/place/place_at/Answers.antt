use Rattle.std.proofs.Common.{◌≡◌, ◌∙◌, sym, ap, rules, Err, w64}
use Rattle.std.proofs.lemmas.Int.{to_z-of_z}
use Rattle.std.specs.Int.{w32}
use Rattle.osm_model.specs.declared.limits.TheConstants.{LATITUDE_LIMIT, LONGITUDE_LIMIT}
use Rattle.osm_model.specs.Blocks.{micro, lat_nano, lon_nano}
use Rattle.pbf_block.specs.Head.{head_told}
use Rattle.osm_entity.proofs.PlaceReads.{place-far_lon, place-is, nano_read, lat-kept, lon-kept}
use Rattle.osm_entity.proofs.place.place_at.Goals as goal

pub returns-in_err-lon : goal.returns-in_err-lon
returns-in_err-lon c =
    let e : c.from_residual-in_err-lon.result ≡ Err c.in_err-lon.field-0.0 = search rules in
    let head = head_told c.args.head in
    let lat = nano_read LATITUDE_LIMIT head.lat_offset head.granularity c.args.lat c.nano_at.result (search rules)
    (search rules) (search rules) c.nano_at.ensures in
    let lon = nano_read LONGITUDE_LIMIT head.lon_offset head.granularity c.args.lon c.nano_at-2.result (search rules)
    (search rules) (search rules) c.nano_at-2.ensures in
    e ∙ place-far_lon head c.args.lat c.args.lon c.in_ok-lat.lat c.in_err-lon.field-0.0
    (sym lat ∙ c.in_ok-lat.was {u = tt}) (sym lon ∙ c.in_err-lon.was {u = tt})

pub micro-requires : goal.micro-requires
micro-requires c =
    let head = head_told c.args.head in
    let lat = nano_read LATITUDE_LIMIT head.lat_offset head.granularity c.args.lat c.nano_at.result (search rules)
    (search rules) (search rules) c.nano_at.ensures in
    lat-kept (lat_nano head c.args.lat) c.in_ok-lat.lat (search rules) (sym lat ∙ c.in_ok-lat.was {u = tt})

pub micro-requires-2 : goal.micro-requires-2
micro-requires-2 c =
    let head = head_told c.args.head in
    let lon = nano_read LONGITUDE_LIMIT head.lon_offset head.granularity c.args.lon c.nano_at-2.result (search rules)
    (search rules) (search rules) c.nano_at-2.ensures in
    lon-kept (lon_nano head c.args.lon) c.in_ok-lon.lon (search rules) (sym lon ∙ c.in_ok-lon.was {u = tt})

pub returns : goal.returns
returns c =
    let head = head_told c.args.head in
    let lat = nano_read LATITUDE_LIMIT head.lat_offset head.granularity c.args.lat c.nano_at.result (search rules)
    (search rules) (search rules) c.nano_at.ensures in
    let lon = nano_read LONGITUDE_LIMIT head.lon_offset head.granularity c.args.lon c.nano_at-2.result (search rules)
    (search rules) (search rules) c.nano_at-2.ensures in
    rw (to_z-of_z w32 c.micro.result (search rules), to_z-of_z w32 c.micro-2.result (search rules))
    (place-is head c.args.lat c.args.lon c.in_ok-lat.lat c.in_ok-lon.lon c.micro.result c.micro-2.result
    (sym lat ∙ c.in_ok-lat.was {u = tt}) (sym lon ∙ c.in_ok-lon.was {u = tt})
    (c.micro.ensures ∙ ap micro (to_z-of_z w64 c.in_ok-lat.lat (search rules)))
    (c.micro-2.ensures ∙ ap micro (to_z-of_z w64 c.in_ok-lon.lon (search rules))))
