use Rattle.std.proofs.Common.{◌≡◌, ◌≤◌, [], ◌∷◌, true, refl, sym, ap, subst, ◌∙◌, arith}
use Rattle.map_model.specs.Room.{rows_limit}
use Rattle.mf_edge.specs.Spill.{SpillState}
use Rattle.mf_rows.specs.Desks.{Desktop}
use Rattle.mf_rows.specs.Kinds.{tile_kind}
use Rattle.mf_rows.specs.declared.kinds.TileRow.{TileRow}
use Rattle.spill_parts.specs.Join.{rest_of}
use Rattle.spill_parts.specs.Parts.{Part}
use Rattle.tile_body.specs.Tiles.{features_told}
use Rattle.tile_load.specs.Loading.{AreLeft}
use Rattle.mf_layout.proofs.LaidTiles.{laid-read}
use Rattle.mf_layout.proofs.TileLaid.{tile-done, tile-holds}
use Rattle.mf_layout.proofs.TwoParts.{two-reading}
use Rattle.mf_layout.proofs.interval.lay_tile.Goals as goal

pub put_members-requires-clause-found : goal.put_members-requires-clause-found
put_members-requires-clause-found g c told =
    let limit = c.args.desk.now.records.capacity in
    let tile = c.args.tile.now in
    let rows = rest_of c.args.held c.args.reader.now.left in
    let loaded = c.in_ok-loaded.ensures in
    let tells : (g.P.Spill.state c.args.spill.now).tells ≡ true =
    sym (ap (λ (s : SpillState). s.tells) loaded.same) ∙ told in
    let found = c.requires.found tells in
    let kept : c.clear.new.self.capacity ≡ limit = ap (λ (d : Desktop). d.capacity) c.clear.ensures in
    let few : limit ≤ rows_limit = omega (arith, kept, c.spare-limit.ensures.most) in
    let fits : c.in_ok-loaded.loaded.weight ≤ limit =
    omega (arith, c.if-loaded-from.false, c.from.ensures, c.spare-limit.ensures.rest, kept) in
    tile-holds limit found.0 tile found.1 rows _ c.in_ok-loaded.loaded c.load_tile.new.records (loaded.capacity ∙ kept)
    found.2 (loaded.loaded tells found.0 found.1 (subst (λ n. AreLeft n found.0 (tile ∷ found.1) rows) (sym kept)
    found.2.left)) few fits

pub returns-clause-laid : goal.returns-clause-laid
returns-clause-laid g c =
    let limit = c.args.desk.now.records.capacity in
    let tile = c.args.tile.now in
    let rows = rest_of c.args.held c.args.reader.now.left in
    let loaded = c.in_ok-loaded.ensures in
    let kept : c.clear.new.self.capacity ≡ limit = ap (λ (d : Desktop). d.capacity) c.clear.ensures in
    let fits : c.in_ok-loaded.loaded.weight ≤ limit =
    omega (arith, c.if-loaded-from.false, c.from.ensures, c.spare-limit.ensures.rest, kept) in
    record {
      done = record {
        place = tile;
        weight = c.in_ok-loaded.loaded.weight;
        members = features_told c.load_tile.new.records.records;
      } ∷ [];
      places_are = refl;
      laid_are = laid-read _ _ _ _ _ _ _ _ loaded.same c.in_ok-put_members.ensures.laid;
      told = λ tells list later to_lay. tile-done limit list tile later rows _ c.in_ok-loaded.loaded
          c.load_tile.new.records (loaded.capacity ∙ kept) to_lay
          (loaded.loaded tells list later (subst (λ n. AreLeft n list (tile ∷ later) rows) (sym kept) to_lay.left)) fits;
    }

pub returns-clause-reading : goal.returns-clause-reading
returns-clause-reading g c =
    let loaded = c.in_ok-loaded.ensures in
    let part = ap (λ (p : Part TileRow). p.part) loaded.same_source in
    two-reading tile_kind c.args.laid.now.index.part c.args.laid.now.tiles.part c.load_tile.new.reader
    c.load_tile.new.page (g.P.Spill.state c.load_tile.new.spill) (g.P.Spill.state c.put_members.new.spill)
    (λ e. c.requires.apart_index (sym part ∙ e)) (λ e. c.requires.apart_tiles (sym part ∙ e))
    c.in_ok-put_members.ensures.only loaded.reading
