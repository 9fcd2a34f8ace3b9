use Rattle.std.proofs.Common.{◌≡◌, ◌∷◌, [], map, Err, subst, sym, ap, ◌∙◌}
use Rattle.std.specs.Result.{IsErrAnd}
use Rattle.map_header.specs.Shown.{settings_of}
use Rattle.mf_rows.specs.Kinds.{tile_kind}
use Rattle.spill_parts.specs.Parts.{HasJust, piece_of}
use Rattle.tile_rows.specs.TileRows.{shown}
use Rattle.mf_layout.specs.Layouts.{sub_pieces}
use Rattle.mf_layout.specs.declared.fault.LayoutFault.{LayoutFault}
use Rattle.mf_layout.specs.declared.sub_files.SubFiles.{SubFiles}
use Rattle.mf_layout.proofs.AllDone.{layout-tile}
use Rattle.mf_layout.proofs.RowsLaid.{ok-map, ok-both, tiles-from}
use Rattle.mf_layout.proofs.ThreeParts.{just-touched, just-last}
use Rattle.mf_layout.proofs.Whole.{whole-sub_files, whole-fault, whole-layout}
use Rattle.mf_layout.proofs.ordered.lay_ordered.Goals as goal

pub lay_rows-requires-clause-ordered : goal.lay_rows-requires-clause-ordered
lay_rows-requires-clause-ordered g c =
    (c.in_ok-laid.ensures.just (piece_of tile_kind c.args.ordered ∷ []) c.requires.just).there.0

pub lay_rows-requires-clause-apart_index : goal.lay_rows-requires-clause-apart_index
lay_rows-requires-clause-apart_index g c e =
    (c.in_ok-laid.ensures.just (piece_of tile_kind c.args.ordered ∷ []) c.requires.just).differ.0.0 (sym e)

pub lay_rows-requires-clause-apart_tiles : goal.lay_rows-requires-clause-apart_tiles
lay_rows-requires-clause-apart_tiles g c e =
    (c.in_ok-laid.ensures.just (piece_of tile_kind c.args.ordered ∷ []) c.requires.just).differ.0.1.0 (sym e)

pub forget_part-requires-clause-held : goal.forget_part-requires-clause-held
forget_part-requires-clause-held g c =
    let made = c.in_ok-laid.laid in
    let now = c.lay_rows.new.laid in
    (just-touched (piece_of tile_kind c.args.ordered) made.index now.index made.tiles now.tiles
    (g.P.Spill.state c.begin.new.spill) (g.P.Spill.state c.lay_rows.new.spill) c.lay_rows.ensures.same_index
    c.lay_rows.ensures.same_tiles c.lay_rows.ensures.only c.in_ok-lay_rows.ensures.there
    (c.in_ok-laid.ensures.just (piece_of tile_kind c.args.ordered ∷ []) c.requires.just)).there.0

pub returns-clause-just : goal.returns-clause-just
returns-clause-just g c =
    let made = c.in_ok-laid.laid in
    let now = c.lay_rows.new.laid in
    let first = piece_of tile_kind c.args.ordered in
    let s = g.P.Spill.state c.lay_rows.new.spill in
    let t = g.P.Spill.state c.forget_part.new.spill in
    let three = just-touched first made.index now.index made.tiles now.tiles (g.P.Spill.state c.begin.new.spill) s
    c.lay_rows.ensures.same_index c.lay_rows.ensures.same_tiles c.lay_rows.ensures.only
    c.in_ok-lay_rows.ensures.there (c.in_ok-laid.ensures.just (first ∷ []) c.requires.just) in
    ok-map (λ (subs : SubFiles). HasJust (sub_pieces t subs) t) c.sub_files_of.result c.sub_files_of.ensures.sub_files
    (just-last first now.index now.tiles s t c.forget_part.ensures.gone c.forget_part.ensures.same three)

pub returns-in_err-lay_rows-clause-limit : goal.returns-in_err-lay_rows-clause-limit
returns-in_err-lay_rows-clause-limit g c f list err told to_lay =
    let now = c.begin.ensures.same.tells ∙ told in
    layout-tile c.args.desk.now.records.capacity (settings_of c.args.set.now) c.args.bounds.now (map shown list) f
    (tiles-from c.args.desk.now.records.capacity (settings_of c.args.set.now) c.args.bounds.now (map shown list) f
    (c.in_err-lay_rows.ensures.limit f list (ap Err (sym (subst (λ r. IsErrAnd r (λ (e : LayoutFault).
    e ≡ c.in_err-lay_rows.field-0.0)) err c.from_residual-in_err-lay_rows.ensures.1))) now to_lay))

pub returns-clause-limit : goal.returns-clause-limit
returns-clause-limit g c f list err told to_lay =
    let now = c.begin.ensures.same.tells ∙ told in
    whole-fault c.args.desk.now.records.capacity (settings_of c.args.set.now) c.args.bounds.now c.args.ordered.rows []
    c.lay_rows.new.sizes.items c.args.largest c.in_ok-laid.laid c.lay_rows.new.laid
    (g.P.Spill.state c.begin.new.spill) (g.P.Spill.state c.lay_rows.new.spill) c.in_ok-laid.ensures.begun
    c.in_ok-lay_rows.ensures.laid list now to_lay
    ∙ (c.sub_files_of.ensures.limit f).0 err

pub returns-clause-sub_files : goal.returns-clause-sub_files
returns-clause-sub_files g c =
    ok-both c.sub_files_of.result (λ (subs : SubFiles) is none.
    whole-sub_files c.args.desk.now.records.capacity (settings_of c.args.set.now) c.args.bounds.now c.args.ordered.rows
    [] c.lay_rows.new.sizes.items c.args.largest c.in_ok-laid.laid c.lay_rows.new.laid
    (g.P.Spill.state c.begin.new.spill) (g.P.Spill.state c.lay_rows.new.spill) c.in_ok-laid.ensures.begun
    c.in_ok-lay_rows.ensures.laid subs (record {
      sizes_are = ap (λ (s : SubFiles). s.sizes.items) is;
      index_is = ap (λ (s : SubFiles). s.index) is;
      tiles_are = ap (λ (s : SubFiles). s.tiles) is;
      shown_is = ap (λ (s : SubFiles). s.shown) is;
      water_is = ap (λ (s : SubFiles). s.water) is;
      largest_is = ap (λ (s : SubFiles). s.largest) is;
    }) none) c.sub_files_of.ensures.sub_files c.sub_files_of.ensures.none

pub returns-clause-laid : goal.returns-clause-laid
returns-clause-laid g c =
    ok-both c.sub_files_of.result (λ (subs : SubFiles) is none told list to_lay.
    let a = g.P.Spill.state c.begin.new.spill in
    let b = g.P.Spill.state c.lay_rows.new.spill in
    let s = g.P.Spill.state c.forget_part.new.spill in
    let made = c.in_ok-laid.laid in
    let laid = c.lay_rows.new.laid in
    let first = piece_of tile_kind c.args.ordered in
    let three = just-touched first made.index laid.index made.tiles laid.tiles a b c.lay_rows.ensures.same_index
    c.lay_rows.ensures.same_tiles c.lay_rows.ensures.only c.in_ok-lay_rows.ensures.there
    (c.in_ok-laid.ensures.just (first ∷ []) c.requires.just) in
    let now = c.begin.ensures.same.tells ∙ told in
    whole-layout c.args.desk.now.records.capacity (settings_of c.args.set.now) c.args.bounds.now c.args.ordered.rows []
    c.lay_rows.new.sizes.items c.args.largest made laid a b c.in_ok-laid.ensures.begun c.in_ok-lay_rows.ensures.laid list
    now to_lay subs s (record {
      sizes_are = ap (λ (s : SubFiles). s.sizes.items) is;
      index_is = ap (λ (s : SubFiles). s.index) is;
      tiles_are = ap (λ (s : SubFiles). s.tiles) is;
      shown_is = ap (λ (s : SubFiles). s.shown) is;
      water_is = ap (λ (s : SubFiles). s.water) is;
      largest_is = ap (λ (s : SubFiles). s.largest) is;
    }) none (c.lay_rows.ensures.only.same.tells ∙ now) (c.in_ok-laid.ensures.empty now) c.lay_rows.ensures.same_tiles
    (c.forget_part.ensures.gone.others.bytes laid.tiles.part three.differ.0.1.0)) c.sub_files_of.ensures.sub_files
    c.sub_files_of.ensures.none
