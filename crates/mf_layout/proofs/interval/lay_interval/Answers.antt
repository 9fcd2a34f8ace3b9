use Rattle.std.proofs.Common.{◌≡◌, List, [], ◌∷◌, ◌++◌, map, true, Some, Err, rules, refl, sym, ap, subst, ◌∙◌, arith}
use Rattle.std.specs.Result.{IsErrAnd}
use Rattle.mf_base.specs.declared.tile.TilePlace.{TilePlace}
use Rattle.map_model.specs.TileRects.{IsTileRect, tile_rect}
use Rattle.map_model.specs.Intervals.{tile_place, interval_tiles}
use Rattle.spill_parts.specs.Join.{rest_of}
use Rattle.tile_body.specs.Members.{IsTile}
use Rattle.tile_rows.specs.TileRows.{shown}
use Rattle.mf_layout.specs.Laying.{AreToLay, tiles_fault}
use Rattle.mf_layout.specs.declared.fault.LayoutFault.TheVariants.{Limit}
use Rattle.mf_layout.proofs.IntervalTiles.{few-in-interval, interval-are-tiles, tiles-walked}
use Rattle.mf_layout.proofs.LayingOn.{IsLaying, no_size, laying-first, laying-next, laying-all, next-holds, next-few}
use Rattle.mf_layout.proofs.LayingOn.{next-room, next-to_lay, next-over}
use Rattle.mf_layout.proofs.interval.lay_interval.Goals as goal

pub loop-next-init : goal.loop-next-init
loop-next-init g c =
    let index = c.args.index in
    let interval = c.args.interval.now in
    let all = interval_tiles c.args.bounds.now index interval in
    let left = rest_of c.args.held c.args.reader.now.left in
    let store = g.P.Spill.state c.args.spill.now in
    let limit = c.args.desk.now.records.capacity in
    let laid = c.args.laid.now in
    record {
      laying = subst (λ (ts : List TilePlace). IsLaying limit all ts left left no_size laid laid store store)
          (tiles-walked c.args.bounds.now index interval c.tiles.result c.of-walk.result c.tiles.ensures.tiles
          c.of-walk.ensures) (laying-first limit all left laid store c.requires.there);
      reading = c.requires.reading;
      fewer = omega arith;
      source = refl;
      steps = refl;
      capacity = refl;
      room = refl;
    }

pub lay_tile-requires-clause-tile : goal.lay_tile-requires-clause-tile
lay_tile-requires-clause-tile g c =
    let index = c.args.index in
    let interval = c.args.interval.now in
    let is : IsTileRect (tile_rect c.args.bounds.now interval.base) =
    subst IsTileRect c.tiles.ensures.tiles c.tiles.ensures.proper in
    let next = ap (map (tile_place index interval)) (c.in-Some.ensures.some (c.in-Some.x, c.in-Some.y) (search rules)) in
    next-holds _ _ _ _ _ _ _ _ _ _ _ _ next c.loop-next.invariant.laying IsTile
    (interval-are-tiles c.args.bounds.now index interval c.requires.range is)

pub lay_tile-requires-clause-room : goal.lay_tile-requires-clause-room
lay_tile-requires-clause-room g c =
    let index = c.args.index in
    let interval = c.args.interval.now in
    let is : IsTileRect (tile_rect c.args.bounds.now interval.base) =
    subst IsTileRect c.tiles.ensures.tiles c.tiles.ensures.proper in
    let next = ap (map (tile_place index interval)) (c.in-Some.ensures.some (c.in-Some.x, c.in-Some.y) (search rules)) in
    next-room _ _ _ _ _ _ _ _ _ _ _ _ next c.loop-next.invariant.laying
    (few-in-interval c.args.bounds.now index interval c.requires.range is) c.requires.room

pub lay_tile-requires-clause-tiles : goal.lay_tile-requires-clause-tiles
lay_tile-requires-clause-tiles g c =
    let index = c.args.index in
    let interval = c.args.interval.now in
    let is : IsTileRect (tile_rect c.args.bounds.now interval.base) =
    subst IsTileRect c.tiles.ensures.tiles c.tiles.ensures.proper in
    let next = ap (map (tile_place index interval)) (c.in-Some.ensures.some (c.in-Some.x, c.in-Some.y) (search rules)) in
    next-few _ _ _ _ _ _ _ _ _ _ _ _ next c.loop-next.invariant.laying
    (few-in-interval c.args.bounds.now index interval c.requires.range is)

pub lay_tile-requires-clause-found : goal.lay_tile-requires-clause-found
lay_tile-requires-clause-found g c told =
    let index = c.args.index in
    let interval = c.args.interval.now in
    let I = c.loop-next.invariant in
    let next = ap (map (tile_place index interval)) (c.in-Some.ensures.some (c.in-Some.x, c.in-Some.y) (search rules)) in
    let tells : (g.P.Spill.state c.args.spill.now).tells ≡ true = sym I.laying.only.same.tells ∙ told in
    let found = c.requires.found tells in (
      found.0,
      map (tile_place index interval) c.next.new.self ++ found.1,
      subst (λ n. AreToLay n found.0 (tile_place index interval (c.in-Some.x, c.in-Some.y)
          ∷ (map (tile_place index interval) c.next.new.self ++ found.1)) (rest_of c.loop-next.next
          c.loop-next.reader.left)) (sym I.capacity)
          (next-to_lay _ _ _ _ _ _ _ _ _ _ _ _ next I.laying tells found.0 found.1 found.2),
    )

pub returns-in_err-next-clause-limit : goal.returns-in_err-next-clause-limit
returns-in_err-next-clause-limit g c f is tells list later to_lay =
    let index = c.args.index in
    let interval = c.args.interval.now in
    let I = c.loop-next.invariant in
    let limit = c.args.desk.now.records.capacity in
    let tile = tile_place index interval (c.in-Some.x, c.in-Some.y) in
    let more = map (tile_place index interval) c.next.new.self in
    let left = rest_of c.loop-next.next c.loop-next.reader.left in
    let next = ap (map (tile_place index interval)) (c.in-Some.ensures.some (c.in-Some.x, c.in-Some.y) (search rules)) in
    let err : Limit f ≡ c.in_err-next.field-0.0 =
    subst (λ r. IsErrAnd r (λ e. e ≡ c.in_err-next.field-0.0)) is c.from_residual.ensures.1 in
    let over = c.in_err-next.ensures.limit f (ap Err (sym err)) (I.laying.only.same.tells ∙ tells) list (more ++ later)
    (subst (λ n. AreToLay n list (tile ∷ (more ++ later)) left) (sym I.capacity)
    (next-to_lay _ _ _ _ _ _ _ _ _ _ _ _ next I.laying tells list later to_lay)) in
    next-over _ _ _ _ _ _ _ _ _ _ _ _ next I.laying tells list later f to_lay
    (subst (λ n. tiles_fault n (map shown list) (tile ∷ []) ≡ Some f) I.capacity over)

pub loop-next-preserved : goal.loop-next-preserved
loop-next-preserved g c =
    let index = c.args.index in
    let interval = c.args.interval.now in
    let I = c.loop-next.invariant in
    let next = ap (map (tile_place index interval)) (c.in-Some.ensures.some (c.in-Some.x, c.in-Some.y) (search rules)) in
    let laid = c.in_ok-next.ensures in
    record {
      laying = laying-next _ _ _ _ _ _ _ _ _ _ _ _ next I.laying _ _ _ _ _ I.capacity laid.laid laid.small laid.there laid.same_index
          laid.same_tiles laid.only (laid.same_faults (λ e. search (e, rules)));
      reading = laid.reading;
      fewer = omega (arith, laid.fewer, I.fewer);
      source = laid.same_source ∙ I.source;
      steps = omega (arith, laid.steps, I.steps);
      capacity = laid.capacity ∙ I.capacity;
      room = laid.same_room ∙ I.room;
    }

pub returns-clause-laid : goal.returns-clause-laid
returns-clause-laid g c =
    let none = ap (map (tile_place c.args.index c.args.interval.now)) (c.next.ensures.none c.in_default.is) in
    laying-all _ _ _ _ _ _ _ _ _ _ none c.loop-next.invariant.laying
