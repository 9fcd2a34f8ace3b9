use Rattle.std.proofs.Common.{ℕ, List, map, subst, sym, ap, ◌∙◌, arith}
use Rattle.std.proofs.lemmas.Result.{IfOk-weaker}
use Rattle.feature_model.specs.Features.{Feature}
use Rattle.map_header.specs.Shown.{settings_of}
use Rattle.map_model.specs.MapFile.{all_tiles, layout_fault}
use Rattle.tile_rows.specs.TileRows.{shown}
use Rattle.mf_layout.specs.Laying.{AreToLay}
use Rattle.mf_layout.specs.Layouts.{IsLayoutOf}
use Rattle.mf_layout.proofs.LayoutSize.{rows-few}
use Rattle.mf_layout.proofs.ToLay.{may-spread, put-few, shown-made, to-lay, ordered-few}
use Rattle.mf_layout.proofs.layout.lay_features.Goals as goal

pub order_members-requires-clause-found : goal.order_members-requires-clause-found
order_members-requires-clause-found g c told =
    let found = c.requires.found told in (
      found.2.shapes.spelled,
      may-spread c.args.desk.now.records.capacity found.0 found.1 c.args.shapes.shapes.rows found.2
          c.len-known.ensures.known,
    )

pub returns-in_err-ordered-clause-within : goal.returns-in_err-ordered-clause-within
returns-in_err-ordered-clause-within g c mapping list told are fits =
    let limit = c.args.desk.now.records.capacity in
    let set = settings_of c.args.set.now in
    let box = c.args.bounds.now in
    let rows = c.args.shapes.shapes.rows in
    let few = put-few limit mapping list rows are set box c.requires.intervals in
    let within = rows-few limit set box list rows _ are.shapes few in
    c.in_err-ordered.ensures.within told are.shapes.spelled
    (may-spread limit mapping list rows are c.len-known.ensures.known) (omega (arith, within, fits))

pub returns-in_err-ordered-clause-size : goal.returns-in_err-ordered-clause-size
returns-in_err-ordered-clause-size g c mapping list told are =
    let within = rows-few c.args.desk.now.records.capacity (settings_of c.args.set.now) c.args.bounds.now list
    c.args.shapes.shapes.rows 0 are.shapes (omega arith) in
    omega (arith, within, c.in_err-ordered.ensures.steps)

pub lay_ordered-requires-clause-found : goal.lay_ordered-requires-clause-found
lay_ordered-requires-clause-found g c told =
    let before = sym c.order_members.ensures.same.tells ∙ told in
    let found = c.requires.found before in
    let limit = c.args.desk.now.records.capacity in
    let set = settings_of c.args.set.now in
    let box = c.args.bounds.now in
    let rows = c.args.shapes.shapes.rows in
    let may = may-spread limit found.0 found.1 rows found.2 c.len-known.ensures.known in
    let ordered = c.in_ok-ordered.ensures.ordered before found.2.shapes.spelled may in (
      ordered.made,
      subst (λ (n : ℕ). AreToLay n ordered.made (all_tiles set box) c.in_ok-ordered.ordered.rows)
          (sym c.order_members.ensures.capacity)
          (to-lay limit found.0 found.1 rows found.2 set box c.in_ok-ordered.ordered.rows ordered),
    )

pub returns-clause-laid : goal.returns-clause-laid
returns-clause-laid g c = IfOk-weaker c.lay_ordered.result _ _ (λ subs laid told mapping list are.
    let limit = c.args.desk.now.records.capacity in
    let set = settings_of c.args.set.now in
    let box = c.args.bounds.now in
    let rows = c.args.shapes.shapes.rows in
    let s = g.P.Spill.state c.lay_ordered.new.spill in
    let same = c.order_members.ensures.capacity in
    let may = may-spread limit mapping list rows are c.len-known.ensures.known in
    let ordered = c.in_ok-ordered.ensures.ordered told are.shapes.spelled may in
    subst (λ (fs : List Feature). IsLayoutOf limit set box fs c.args.shapes.largest subs s)
    (shown-made limit mapping list rows are set box c.in_ok-ordered.ordered.rows ordered)
    (subst (λ (n : ℕ). IsLayoutOf n set box (map shown ordered.made) c.args.shapes.largest subs s) same
    (laid (c.order_members.ensures.same.tells ∙ told) ordered.made
    (subst (λ (n : ℕ). AreToLay n ordered.made (all_tiles set box) c.in_ok-ordered.ordered.rows) (sym same)
    (to-lay limit mapping list rows are set box c.in_ok-ordered.ordered.rows ordered))))) c.lay_ordered.ensures.laid

pub returns-clause-limit : goal.returns-clause-limit
returns-clause-limit g c f mapping list err told are =
    let limit = c.args.desk.now.records.capacity in
    let set = settings_of c.args.set.now in
    let box = c.args.bounds.now in
    let rows = c.args.shapes.shapes.rows in
    let same = c.order_members.ensures.capacity in
    let may = may-spread limit mapping list rows are c.len-known.ensures.known in
    let ordered = c.in_ok-ordered.ensures.ordered told are.shapes.spelled may in
    sym (ap (layout_fault limit set box)
    (shown-made limit mapping list rows are set box c.in_ok-ordered.ordered.rows ordered))
    ∙ ap (λ (n : ℕ). layout_fault n set box (map shown ordered.made)) (sym same)
    ∙ c.lay_ordered.ensures.limit f ordered.made err (c.order_members.ensures.same.tells ∙ told)
    (subst (λ (n : ℕ). AreToLay n ordered.made (all_tiles set box) c.in_ok-ordered.ordered.rows) (sym same)
    (to-lay limit mapping list rows are set box c.in_ok-ordered.ordered.rows ordered))

pub returns-clause-within : goal.returns-clause-within
returns-clause-within g c mapping list told are fits =
    let limit = c.args.desk.now.records.capacity in
    let set = settings_of c.args.set.now in
    let box = c.args.bounds.now in
    let rows = c.args.shapes.shapes.rows in
    let few = put-few limit mapping list rows are set box c.requires.intervals in
    let within = rows-few limit set box list rows _ are.shapes few in
    c.lay_ordered.ensures.same_overrun
    ∙ c.order_members.ensures.within told are.shapes.spelled
    (may-spread limit mapping list rows are c.len-known.ensures.known) (omega (arith, within, fits))

pub returns-clause-size : goal.returns-clause-size
returns-clause-size g c mapping list told are =
    let limit = c.args.desk.now.records.capacity in
    let set = settings_of c.args.set.now in
    let box = c.args.bounds.now in
    let rows = c.args.shapes.shapes.rows in
    let may = may-spread limit mapping list rows are c.len-known.ensures.known in
    let ordered = c.in_ok-ordered.ensures.ordered told are.shapes.spelled may in
    let few = ordered-few limit mapping list rows are set box c.in_ok-ordered.ordered.rows ordered in
    let within = rows-few limit set box list rows _ are.shapes few in
    omega (arith, within, c.order_members.ensures.steps, c.lay_ordered.ensures.steps)
