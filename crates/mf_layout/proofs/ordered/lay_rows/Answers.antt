use Rattle.std.proofs.Common.{◌≡◌, [], ◌++◌, List, map, Some, Err, subst, sym, ap, ◌∙◌}
use Rattle.std.proofs.Common.{IsTrue}
use Rattle.std.specs.List.{AllByRecursion}
use Rattle.std.specs.Result.{IsErrAnd}
use Rattle.mf_base.specs.declared.tile.Interval.{Interval}
use Rattle.map_model.specs.Intervals.{is_zoom_range}
use Rattle.mf_edge.specs.Spill.{SpillState}
use Rattle.mf_rows.specs.declared.kinds.TileRow.{TileRow}
use Rattle.map_header.specs.Shown.{settings_of}
use Rattle.map_model.specs.MapFile.{all_tiles}
use Rattle.mf_base.specs.declared.tile.TilePlace.{TilePlace}
use Rattle.spill_parts.specs.Join.{rest_of}
use Rattle.spill_parts.proofs.Looked.{given_rest}
use Rattle.tile_rows.specs.TileRows.{shown}
use Rattle.mf_layout.specs.AllLaid.{LayAll, tiles_from}
use Rattle.mf_layout.specs.Laying.{AreToLay, tiles_fault}
use Rattle.mf_layout.specs.declared.fault.LayoutFault.{LayoutFault}
use Rattle.mf_layout.proofs.RowsLaid.{tiles-all, all-are, ranges-all, none-left, lay-moved}
use Rattle.mf_layout.proofs.ordered.lay_rows.Goals as goal

pub next-requires-clause-reading : goal.next-requires-clause-reading
next-requires-clause-reading g c =
    c.start-reader.ensures.reading c.args.page.now (g.P.Spill.state c.args.spill.now) c.requires.ordered

pub lay_intervals-requires-clause-ranges : goal.lay_intervals-requires-clause-ranges
lay_intervals-requires-clause-ranges g c =
    subst (AllByRecursion (λ (i : Interval). IsTrue (is_zoom_range i))) (sym c.deref.ensures.0)
    (ranges-all c.args.set.now.intervals.items c.requires.intervals)

pub lay_intervals-requires-clause-found : goal.lay_intervals-requires-clause-found
lay_intervals-requires-clause-found g c told =
    let before = sym (ap (λ (s : SpillState). s.tells) c.next.ensures.same) ∙ told in
    let list = (c.requires.found before).0 in
    let left = given_rest c.in_ok-held.held c.next.new.self.left c.in_ok-held.ensures.next before
    ∙ c.start-reader.ensures.left in
    let tiles = ap (λ (is : List Interval). tiles_from c.args.bounds.now 0 is ++ []) c.deref.ensures.0
    ∙ tiles-all (settings_of c.args.set.now) c.args.bounds.now in (
      list,
      [],
      subst (λ (ts : List TilePlace). AreToLay c.args.desk.now.records.capacity list ts
          (rest_of c.in_ok-held.held c.next.new.self.left)) (sym tiles)
          (subst (λ (rows : List TileRow). AreToLay c.args.desk.now.records.capacity list
          (all_tiles (settings_of c.args.set.now) c.args.bounds.now) rows) (sym left) (c.requires.found before).1),
    )

pub returns-in_err-next-clause-limit : goal.returns-in_err-next-clause-limit
returns-in_err-next-clause-limit g c f list err told to_lay =
    let now = ap (λ (s : SpillState). s.tells) c.next.ensures.same ∙ told in
    let left = given_rest c.in_ok-held.held c.next.new.self.left c.in_ok-held.ensures.next told
    ∙ c.start-reader.ensures.left in
    let tiles = ap (λ (is : List Interval). tiles_from c.args.bounds.now 0 is ++ []) c.deref.ensures.0
    ∙ tiles-all (settings_of c.args.set.now) c.args.bounds.now in
    let capacity = c.args.desk.now.records.capacity in
    subst (λ (ts : List TilePlace). tiles_fault capacity (map shown list) ts ≡ Some f)
    (ap (λ (is : List Interval). tiles_from c.args.bounds.now 0 is) c.deref.ensures.0
    ∙ all-are (settings_of c.args.set.now) c.args.bounds.now)
    (c.in_err-next.ensures.limit f
    (ap Err (sym (subst (λ r. IsErrAnd r (λ (e : LayoutFault). e ≡ c.in_err-next.field-0.0)) err
    c.from_residual-in_err-next.ensures.1))) now list []
    (subst (λ (ts : List TilePlace). AreToLay capacity list ts
    (rest_of c.in_ok-held.held c.next.new.self.left)) (sym tiles)
    (subst (λ (rows : List TileRow). AreToLay capacity list
    (all_tiles (settings_of c.args.set.now) c.args.bounds.now) rows) (sym left) to_lay)))

pub refuse_row-requires-clause-none : goal.refuse_row-requires-clause-none
refuse_row-requires-clause-none g c told =
    let now = sym c.lay_intervals.ensures.only.same.tells ∙ told in
    let before = sym (ap (λ (s : SpillState). s.tells) c.next.ensures.same) ∙ now in
    let list = (c.requires.found before).0 in
    let left = given_rest c.in_ok-held.held c.next.new.self.left c.in_ok-held.ensures.next before
    ∙ c.start-reader.ensures.left in
    let tiles = ap (λ (is : List Interval). tiles_from c.args.bounds.now 0 is ++ []) c.deref.ensures.0
    ∙ tiles-all (settings_of c.args.set.now) c.args.bounds.now in
    let capacity = c.args.desk.now.records.capacity in
    none-left capacity list c.in_ok-next.next c.lay_intervals.new.reader.left
    (c.in_ok-next.ensures.laid.told now list []
    (subst (λ (ts : List TilePlace). AreToLay capacity list ts
    (rest_of c.in_ok-held.held c.next.new.self.left)) (sym tiles)
    (subst (λ (rows : List TileRow). AreToLay capacity list
    (all_tiles (settings_of c.args.set.now) c.args.bounds.now) rows) (sym left) (c.requires.found before).1))).to_lay

pub returns-clause-laid : goal.returns-clause-laid
returns-clause-laid g c =
    let a = g.P.Spill.state c.args.spill.now in
    let same : g.P.Spill.state c.next.new.spill ≡ a =
    c.next.ensures.same ∙ ap (λ n. record a { faults = n }) c.in_ok-held.ensures.same_faults in
    subst (λ (s : SpillState). LayAll c.args.desk.now.records.capacity c.args.bounds.now 0 c.args.set.now.intervals.items
    c.args.ordered.now.rows [] [] c.lay_intervals.new.sizes.items c.args.laid.now c.lay_intervals.new.laid a s)
    (sym c.in_ok-refuse_row.ensures.unchanged)
    (lay-moved c.args.desk.now.records.capacity c.args.bounds.now 0 c.args.set.now.intervals.items
    c.args.ordered.now.rows (rest_of c.in_ok-held.held c.next.new.self.left) []
    (rest_of c.in_ok-next.next c.lay_intervals.new.reader.left) [] c.args.sizes.now.items
    c.lay_intervals.new.sizes.items c.args.laid.now c.lay_intervals.new.laid a (g.P.Spill.state c.next.new.spill)
    (g.P.Spill.state c.lay_intervals.new.spill)
    (λ told. given_rest c.in_ok-held.held c.next.new.self.left c.in_ok-held.ensures.next told
    ∙ c.start-reader.ensures.left)
    (ap (λ held. rest_of held c.lay_intervals.new.reader.left) c.in_ok-refuse_row.ensures.none) c.requires.none same
    (subst (λ (is : List Interval). LayAll c.args.desk.now.records.capacity c.args.bounds.now 0 is
    (rest_of c.in_ok-held.held c.next.new.self.left) (rest_of c.in_ok-next.next c.lay_intervals.new.reader.left)
    c.args.sizes.now.items c.lay_intervals.new.sizes.items c.args.laid.now c.lay_intervals.new.laid
    (g.P.Spill.state c.next.new.spill) (g.P.Spill.state c.lay_intervals.new.spill)) c.deref.ensures.0
    c.in_ok-next.ensures.laid))
