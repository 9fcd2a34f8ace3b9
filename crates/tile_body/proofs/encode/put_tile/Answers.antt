use Rattle.std.proofs.Common.{◌∙◌, ◌++◌, ap, sym, subst, length, arith}
use Rattle.std.proofs.lemmas.Bool.{eqb-true}
use Rattle.mf_base.specs.Buffer.{Buffer, AppendsTo}
use Rattle.mf_base.specs.Spelling.{vbe_unsigned}
use Rattle.map_model.specs.TileBytes.{tile_bytes}
use Rattle.tile_body.specs.Tiles.{features_told, table_bytes, pois_bytes}
use Rattle.tile_body.proofs.Bodies.{size-after}
use Rattle.tile_body.proofs.DeskRoom.{tile-room}
use Rattle.tile_body.proofs.Wholes.{tile-length, puts-tile, no-members, are-low, few-members, some-there}
use Rattle.tile_body.proofs.encode.put_tile.Goals as goal

pub returns-then-is_empty : goal.returns-then-is_empty
returns-then-is_empty c =
    let none = no-members c.args.tile.now c.args.records.now.records
    (eqb-true _ _ (sym c.is_empty.ensures ∙ c.if-is_empty.true)) in
    c.clear.ensures ∙ (λ i. record { bytes = sym none i; capacity = c.args.out.now.capacity })

pub put_table-requires-clause-low : goal.put_table-requires-clause-low
put_table-requires-clause-low c =
    are-low c.args.tile.now c.args.records.now c.requires.members

pub put_table-requires-clause-few : goal.put_table-requires-clause-few
put_table-requires-clause-few c =
    (few-members c.args.tile.now c.args.records.now c.requires.members c.requires.within).0

pub put_table-requires-clause-room : goal.put_table-requires-clause-room
put_table-requires-clause-room c =
    let some = some-there _ (sym c.is_empty.ensures ∙ c.if-is_empty.false) in
    let all = tile-length c.args.tile.now c.args.records.now c.requires.tile c.requires.members some in
    let none = ap (λ (b : Buffer). length b.bytes) c.clear.ensures in
    let same = ap (λ (b : Buffer). b.capacity) c.clear.ensures in
    omega (arith, all, none, same, c.requires.room)

pub size_pois-requires-clause-few : goal.size_pois-requires-clause-few
size_pois-requires-clause-few c =
    let some = some-there _ (sym c.is_empty.ensures ∙ c.if-is_empty.false) in
    let all = tile-length c.args.tile.now c.args.records.now c.requires.tile c.requires.members some in
    let pois = ap (λ p. length (pois_bytes p (features_told c.args.records.now.records))) c.corner-corner.ensures in
    let bound = tile-room c.args.tile.now c.args.records.now c.requires.tile c.requires.members c.requires.within in
    omega (arith, all, pois, bound, c.requires.members.room)

pub put_vbe_u-requires-clause-room : goal.put_vbe_u-requires-clause-room
put_vbe_u-requires-clause-room c =
    let some = some-there _ (sym c.is_empty.ensures ∙ c.if-is_empty.false) in
    let all = tile-length c.args.tile.now c.args.records.now c.requires.tile c.requires.members some in
    let none = ap (λ (b : Buffer). length b.bytes) c.clear.ensures in
    let same = ap (λ (b : Buffer). b.capacity) c.clear.ensures in
    let t = size-after c.clear.new.self c.put_table.new.out (table_bytes c.args.tile.now.interval
    (features_told c.args.records.now.records)) c.put_table.ensures.appends in
    let t0 = t.0 in
    let t1 = t.1 in
    omega (arith, all, none, same, t0, t1, c.requires.room)

pub put_vbe_u-requires-clause-fits : goal.put_vbe_u-requires-clause-fits
put_vbe_u-requires-clause-fits c =
    let some = some-there _ (sym c.is_empty.ensures ∙ c.if-is_empty.false) in
    let all = tile-length c.args.tile.now c.args.records.now c.requires.tile c.requires.members some in
    let pois = ap (λ p. length (pois_bytes p (features_told c.args.records.now.records))) c.corner-corner.ensures in
    let bound = tile-room c.args.tile.now c.args.records.now c.requires.tile c.requires.members c.requires.within in
    omega (arith, all, pois, bound, c.requires.members.room, c.size_pois.ensures.size)

pub put_pois-requires-clause-room : goal.put_pois-requires-clause-room
put_pois-requires-clause-room c =
    let some = some-there _ (sym c.is_empty.ensures ∙ c.if-is_empty.false) in
    let all = tile-length c.args.tile.now c.args.records.now c.requires.tile c.requires.members some in
    let none = ap (λ (b : Buffer). length b.bytes) c.clear.ensures in
    let same = ap (λ (b : Buffer). b.capacity) c.clear.ensures in
    let pois = ap (λ p. length (pois_bytes p (features_told c.args.records.now.records))) c.corner-corner.ensures in
    let t = size-after c.clear.new.self c.put_table.new.out (table_bytes c.args.tile.now.interval
    (features_told c.args.records.now.records)) c.put_table.ensures.appends in
    let t0 = t.0 in
    let t1 = t.1 in
    let v = size-after c.put_table.new.out c.put_vbe_u.new.out (vbe_unsigned c.size_pois.result)
    c.put_vbe_u.ensures.appends in
    let v0 = v.0 in
    let v1 = v.1 in
    let offset = ap (λ n. length (vbe_unsigned n)) (c.size_pois.ensures.size
    ∙ ap (λ p. length (pois_bytes p (features_told c.args.records.now.records))) c.corner-corner.ensures) in
    omega (arith, all, none, same, pois, t0, t1, v0, v1, offset, c.requires.room)

pub put_ways-requires-clause-room : goal.put_ways-requires-clause-room
put_ways-requires-clause-room c =
    let some = some-there _ (sym c.is_empty.ensures ∙ c.if-is_empty.false) in
    let all = tile-length c.args.tile.now c.args.records.now c.requires.tile c.requires.members some in
    let none = ap (λ (b : Buffer). length b.bytes) c.clear.ensures in
    let same = ap (λ (b : Buffer). b.capacity) c.clear.ensures in
    let pois = ap (λ p. length (pois_bytes p (features_told c.args.records.now.records))) c.corner-corner.ensures in
    let t = size-after c.clear.new.self c.put_table.new.out (table_bytes c.args.tile.now.interval
    (features_told c.args.records.now.records)) c.put_table.ensures.appends in
    let t0 = t.0 in
    let t1 = t.1 in
    let v = size-after c.put_table.new.out c.put_vbe_u.new.out (vbe_unsigned c.size_pois.result)
    c.put_vbe_u.ensures.appends in
    let v0 = v.0 in
    let v1 = v.1 in
    let offset = ap (λ n. length (vbe_unsigned n)) (c.size_pois.ensures.size
    ∙ ap (λ p. length (pois_bytes p (features_told c.args.records.now.records))) c.corner-corner.ensures) in
    let p = size-after c.put_vbe_u.new.out c.put_pois.new.out (pois_bytes c.corner-corner.result
    (features_told c.args.records.now.records)) c.put_pois.ensures.appends in
    let p0 = p.0 in
    let p1 = p.1 in
    omega (arith, all, none, same, pois, t0, t1, v0, v1, offset, p0, p1, c.requires.room)

pub returns : goal.returns
returns c =
    let some = some-there _ (sym c.is_empty.ensures ∙ c.if-is_empty.false) in
    let tile = puts-tile c.args.tile.now c.args.records.now c.requires.tile c.requires.members some c.clear.new.self
    c.put_table.new.out c.put_vbe_u.new.out c.put_pois.new.out c.put_ways.new.out c.size_pois.result
    c.put_table.ensures.appends c.put_vbe_u.ensures.appends
    (c.size_pois.ensures.size ∙ ap (λ p. length (pois_bytes p (features_told c.args.records.now.records)))
    c.corner-corner.ensures)
    (subst (λ p. AppendsTo c.put_vbe_u.new.out c.put_pois.new.out (pois_bytes p (features_told
    c.args.records.now.records))) c.corner-corner.ensures c.put_pois.ensures.appends) c.put_ways.ensures.appends in
    tile ∙ (λ i. record {
      bytes = (c.clear.ensures i).bytes ++ tile_bytes c.args.tile.now (features_told c.args.records.now.records);
      capacity = (c.clear.ensures i).capacity;
    })
