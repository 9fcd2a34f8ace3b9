use Rattle.std.proofs.Common.{◌≡◌, ◌++◌, ◌+◌, List, map, Some, Err, subst, sym, ap, ◌∙◌, arith}
use Rattle.std.proofs.Common.{length, IsTrue, ℕ}
use Rattle.std.proofs.lemmas.List.{nil_from_length}
use Rattle.std.specs.List.{AllByRecursion}
use Rattle.std.specs.Result.{IsErrAnd}
use Rattle.map_model.specs.Intervals.{is_zoom_range}
use Rattle.spill_parts.specs.Parts.{Part}
use Rattle.mf_base.specs.declared.tile.Interval.{Interval}
use Rattle.mf_rows.specs.declared.kinds.TileRow.{TileRow}
use Rattle.spill_parts.specs.Join.{rest_of}
use Rattle.tile_rows.specs.TileRows.{shown}
use Rattle.mf_layout.specs.AllLaid.{LayAll, tiles_from}
use Rattle.mf_layout.specs.Laying.{AreToLay, tiles_fault}
use Rattle.mf_layout.specs.declared.fault.LayoutFault.{LayoutFault}
use Rattle.mf_layout.specs.declared.sub_files.SubFileSize.{SubFileSize}
use Rattle.mf_layout.proofs.AllLaid.{lay_all-none, lay_all-then}
use Rattle.mf_layout.proofs.FirstInterval.{first-over, first-done, others-over}
use Rattle.mf_layout.proofs.OthersRoom.{others-room}
use Rattle.mf_layout.proofs.RowsLaid.{ok-then}
use Rattle.mf_layout.proofs.intervals.+lay_intervals.Goals as goal

pub returns-in_default-clause-laid : goal.returns-in_default-clause-laid
returns-in_default-clause-laid g t c =
    let left = rest_of c.args.held c.args.reader.now.left in
    let a = g.P.Spill.state c.args.spill.now in
    subst (λ (is : List Interval). LayAll c.args.desk.now.records.capacity c.args.bounds.now c.args.index is left left
    c.args.sizes.now.items c.args.sizes.now.items c.args.laid.now c.args.laid.now a a)
    (sym (nil_from_length c.args.intervals.now c.in_default.ensures.cases))
    (lay_all-none c.args.desk.now.records.capacity c.args.bounds.now c.args.index left c.args.sizes.now.items
    c.args.laid.now a)

pub returns-in_err-size-clause-limit : goal.returns-in_err-size-clause-limit
returns-in_err-size-clause-limit g t c f err told list later =
    let limit = c.args.desk.now.records.capacity in
    let box = c.args.bounds.now in
    let left = rest_of c.args.held c.args.reader.now.left in
    subst (λ (is : List Interval). AreToLay limit list (tiles_from box c.args.index is ++ later) left
    → tiles_fault limit (map shown list) (tiles_from box c.args.index is) ≡ Some f) (sym c.in-Some.ensures.cases.0)
    (first-over limit box c.args.index c.in-Some.first.now c.in-Some.others.now left f
    (c.in_err-size.ensures.limit f (ap Err (sym (subst (λ r. IsErrAnd r (λ (e : LayoutFault).
    e ≡ c.in_err-size.field-0.0)) err c.from_residual.ensures.1))) told) list later)

pub lay_intervals-requires : goal.lay_intervals-requires
lay_intervals-requires g t c κs lives =
    let first = c.lay_interval.ensures in
    let done = c.in_ok-size.ensures in
    let are = c.in-Some.ensures.cases.0 in
    let many = ap length are in (
      omega (arith, many, c.decreases),
      (
        lives.0,
        (
          lives.1,
          (
            (subst (AllByRecursion (λ (i : Interval). IsTrue (is_zoom_range i))) are c.requires.ranges).1,
            (
              omega (arith, many, c.requires.few),
              (
                omega (arith, c.push.ensures.len, many, c.requires.fits),
                (
                  c.requires.bounds,
                  (
                    first.only.same.started ∙ c.requires.started,
                    (
                      done.reading,
                      (
                        omega (arith, done.fewer, c.requires.rows),
                        (
                          done.there,
                          (
                            (λ e. c.requires.apart_index (sym (ap (λ (p : Part TileRow). p.part) first.same_source) ∙ e ∙ first.same_index)),
                            (
                              (λ e. c.requires.apart_tiles (sym (ap (λ (p : Part TileRow). p.part) first.same_source) ∙ e ∙ first.same_tiles)),
                              (
                                others-room c.args.bounds.now c.args.index c.in-Some.first.now done.laid.done c.in_ok-size.size
                                    c.args.laid.now c.lay_interval.new.laid (g.P.Spill.state c.args.spill.now)
                                    (g.P.Spill.state c.lay_interval.new.spill) (length c.in-Some.others.now)
                                    (length c.args.intervals.now)
                                    (subst (AllByRecursion (λ (i : Interval). IsTrue (is_zoom_range i))) are c.requires.ranges).0
                                    c.requires.bounds done.laid.places_are done.laid.laid_are many c.requires.room,
                                λ told.
                                    let before = sym first.only.same.tells ∙ told in
                                    let found = c.requires.found before in (
                                      found.0,
                                      found.1,
                                      subst (λ n. AreToLay n found.0
                                          (tiles_from c.args.bounds.now (c.args.index + 1) c.in-Some.others.now ++ found.1)
                                          (rest_of c.in_ok-size.next c.lay_interval.new.reader.left)) (sym first.capacity)
                                          (first-done c.args.desk.now.records.capacity c.args.bounds.now c.args.index c.in-Some.first.now
                                          c.in-Some.others.now (rest_of c.args.held c.args.reader.now.left)
                                          (rest_of c.in_ok-size.next c.lay_interval.new.reader.left) (record { tiles = 0; bytes = 0 })
                                          c.in_ok-size.size c.args.laid.now c.lay_interval.new.laid (g.P.Spill.state c.args.spill.now)
                                          (g.P.Spill.state c.lay_interval.new.spill) before done.laid found.0 found.1
                                          (subst (λ (is : List Interval). AreToLay c.args.desk.now.records.capacity found.0
                                          (tiles_from c.args.bounds.now c.args.index is ++ found.1)
                                          (rest_of c.args.held c.args.reader.now.left)) are found.2)).to_lay,
                                    ),
                              ),
                            ),
                          ),
                        ),
                      ),
                    ),
                  ),
                ),
              ),
            ),
          ),
        ),
      ),
    )

pub returns-clause-limit : goal.returns-clause-limit
returns-clause-limit g t c f err told list later =
    let limit = c.args.desk.now.records.capacity in
    let box = c.args.bounds.now in
    let left = rest_of c.args.held c.args.reader.now.left in
    let now = c.lay_interval.ensures.only.same.tells ∙ told in
    let same = c.lay_interval.ensures.capacity in
    subst (λ (is : List Interval). AreToLay limit list (tiles_from box c.args.index is ++ later) left
    → tiles_fault limit (map shown list) (tiles_from box c.args.index is) ≡ Some f) (sym c.in-Some.ensures.cases.0)
    (others-over limit box c.args.index c.in-Some.first.now c.in-Some.others.now left
    (rest_of c.in_ok-size.next c.lay_interval.new.reader.left) (record { tiles = 0; bytes = 0 }) c.in_ok-size.size
    c.args.laid.now c.lay_interval.new.laid (g.P.Spill.state c.args.spill.now)
    (g.P.Spill.state c.lay_interval.new.spill) told c.in_ok-size.ensures.laid f
    (λ list later. subst (λ n. AreToLay n list (tiles_from box (c.args.index + 1) c.in-Some.others.now ++ later)
    (rest_of c.in_ok-size.next c.lay_interval.new.reader.left)
    → tiles_fault n (map shown list) (tiles_from box (c.args.index + 1) c.in-Some.others.now) ≡ Some f) same
    (c.lay_intervals.ensures.limit f err now list later)) list later)

pub returns-clause-laid : goal.returns-clause-laid
returns-clause-laid g t c = ok-then c.lay_intervals.result (λ next lays.
    let limit = c.args.desk.now.records.capacity in
    let box = c.args.bounds.now in
    let left = rest_of c.args.held c.args.reader.now.left in
    let left1 = rest_of c.in_ok-size.next c.lay_interval.new.reader.left in
    let left2 = rest_of next c.lay_intervals.new.reader.left in
    let others = c.in-Some.others.now in
    let sizes = c.args.sizes.now.items in
    let sizes2 = c.lay_intervals.new.sizes.items in
    let l = c.args.laid.now in
    let l1 = c.lay_interval.new.laid in
    let l2 = c.lay_intervals.new.laid in
    let a = g.P.Spill.state c.args.spill.now in
    let b = g.P.Spill.state c.lay_interval.new.spill in
    let d = g.P.Spill.state c.lay_intervals.new.spill in
    subst (λ (is : List Interval). LayAll limit box c.args.index is left left2 sizes sizes2 l l2 a d)
    (sym c.in-Some.ensures.cases.0)
    (lay_all-then limit box c.args.index c.in-Some.first.now others left left1 left2 c.in_ok-size.size sizes sizes2 l l1
    l2 a b d c.lay_interval.ensures.same_tiles c.lay_interval.ensures.only.same.tells
    c.lay_intervals.ensures.only.same.tells c.in_ok-size.ensures.laid
    (subst (λ (z : List SubFileSize). LayAll limit box (c.args.index + 1) others left1 left2 z sizes2 l1 l2 b d)
    c.push.ensures.items
    (subst (λ (n : ℕ). LayAll n box (c.args.index + 1) others left1 left2 c.push.new.self.items sizes2 l1 l2 b d)
    c.lay_interval.ensures.capacity lays)))) c.lay_intervals.ensures.laid
