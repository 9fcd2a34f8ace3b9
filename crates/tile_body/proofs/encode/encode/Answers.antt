use Rattle.std.proofs.Common.{◌∙◌, ◌≤◌, ap, length, arith}
use Rattle.mf_base.specs.Buffer.{Buffer}
use Rattle.map_model.specs.TagLists.{tag_lists}
use Rattle.map_model.specs.TileReading.{read_tile}
use Rattle.mf_rows.specs.Desks.{used}
use Rattle.tile_body.proofs.DeskRoom.{tile-room, tile-most}
use Rattle.tile_body.proofs.Wholes.{read-told}
use Rattle.tile_body.proofs.encode.encode.Goals as goal

pub put_tile-requires-clause-room : goal.put_tile-requires-clause-room
put_tile-requires-clause-room c =
    let within : used c.args.desk.now.records ≤ c.args.desk.now.records.capacity = omega (arith, c.spare.ensures.rest) in
    let room = tile-room c.args.place.now c.args.desk.now.records c.requires.tile c.requires.members within in
    omega (arith, room, c.args.desk.now.matched)

pub returns-clause-read : goal.returns-clause-read
returns-clause-read c mapping m all =
    let within : used c.args.desk.now.records ≤ c.args.desk.now.records.capacity = omega (arith, c.spare.ensures.rest) in
    let room = tile-room c.args.place.now c.args.desk.now.records c.requires.tile c.requires.members within in
    ap (λ (b : Buffer). read_tile (tag_lists mapping) c.args.place.now b.bytes) c.put_tile.ensures
    ∙ read-told mapping c.args.place.now c.args.desk.now.records c.requires.tile c.requires.members within room m all

pub returns-clause-most : goal.returns-clause-most
returns-clause-most c =
    let within : used c.args.desk.now.records ≤ c.args.desk.now.records.capacity = omega (arith, c.spare.ensures.rest) in
    let most = tile-most c.args.place.now c.args.desk.now.records c.requires.tile c.requires.members within in
    let size = ap (λ (b : Buffer). length b.bytes) c.put_tile.ensures in
    omega (arith, most, size)
