use Rattle.std.proofs.Common.{◌≡◌, ◌∷◌, length, refl, ap, sym, ◌∙◌, arith}
use Rattle.std.specs.Prelude.{nat_le}
use Rattle.mf_edge.specs.Spill.{SpillState}
use Rattle.spill_parts.specs.Join.{rest_of}
use Rattle.tile_load.proofs.NextMember.{never-none, one-more}
use Rattle.tile_load.proofs.Tile.{untold}
use Rattle.tile_load.proofs.load.load_next.Goals as goal

pub load_record-requires-clause-few : goal.load_record-requires-clause-few
load_record-requires-clause-few g c =
    let left = c.args.reader.now.left in
    let many : length (rest_of c.args.before.next left) ≡ length (c.row_held-first.result ∷ left) =
    ap (λ h. length (rest_of h left)) c.row_held-first.ensures in
    omega (arith, many, c.requires.few)

pub damaged-requires-clause-untold : goal.damaged-requires-clause-untold
damaged-requires-clause-untold g c = untold (g.P.Spill.state c.load_record.new.spill).tells (λ now.
    let told = sym (ap (λ (s : SpillState). s.tells) c.in_ok-member.ensures.same) ∙ now in
    let found = c.requires.found told in
    let old = c.args.records.now in
    let left = c.args.reader.now.left in
    let room = c.make_room.ensures in
    let loaded = c.in_ok-member.ensures in
    never-none old.capacity found.0 c.args.tile.now found.1 c.args.before.weight c.row_held-first.result left
    old c.args.before.next c.row_held-first.ensures found.2 c.requires.of_tile c.make_room.new.records
    c.load_record.new.records c.spare-spare.result c.in_ok-member.member.units room.capacity
    (room.none c.requires.none) c.spare-spare.ensures.rest room.head (loaded.loose told) (loaded.units told)
    (nat_le c.in_ok-member.member.units c.from.result) (ap (nat_le c.in_ok-member.member.units) c.from.ensures)
    (λ rest r is. c.in-None.ensures.none rest r is refl))

pub returns-in-Some-clause-read : goal.returns-in-Some-clause-read
returns-in-Some-clause-read g c told list later read =
    let old = c.args.records.now in
    let left = c.args.reader.now.left in
    let room = c.make_room.ensures in
    let loaded = c.in_ok-member.ensures in
    let added = c.in-Some.ensures in
    one-more old.capacity list c.args.tile.now later c.args.before.weight c.row_held-first.result left
    old c.args.before.next c.row_held-first.ensures read c.requires.of_tile c.make_room.new.records
    c.load_record.new.records c.spare-spare.result c.in_ok-member.member.units room.capacity
    (room.none c.requires.none) c.spare-spare.ensures.rest room.head (loaded.loose told) (loaded.units told)
    c.add_member.new.records (nat_le c.in_ok-member.member.units c.from.result) c.in-Some.weight _
    c.requires.none loaded.records room.kept (ap (nat_le c.in_ok-member.member.units) c.from.ensures)
    added.closed added.used added.told (loaded.rest told)
