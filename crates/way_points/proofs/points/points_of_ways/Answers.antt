use Rattle.std.proofs.Common.{◌≡◌, List, [], ◌∷◌, ◌++◌, length, sym, ap, subst}
use Rattle.std.proofs.Common.{◌∙◌, arith}
use Rattle.std.proofs.lemmas.Result.{IfOk-weaker}
use Rattle.mf_rows.specs.Kinds.{node_kind, ref_kind, point_kind}
use Rattle.mf_rows.specs.declared.kinds.RefRow.{RefRow}
use Rattle.mf_rows.specs.declared.kinds.PointRow.{PointRow}
use Rattle.spill_parts.specs.Parts.{Part, piece_of, HasJust, IsOrdered, ordered_rows}
use Rattle.spill_parts.specs.Join.{joined_rows, Climbs, Rises}
use Rattle.spill_parts.proofs.Ordered.{length-ordered}
use Rattle.spill_parts.proofs.JustParts.{just-still, just-less}
use Rattle.way_points.specs.PointRows.{node_id, ref_node, point_joined, point_rows}
use Rattle.way_points.proofs.InOrder.{rising-input, nodes-rise}
use Rattle.way_points.proofs.Orders.{as_many, points_in_order, refs-climb}
use Rattle.spill_parts.proofs.OneMore.{just-added}
use Rattle.way_points.proofs.points.points_of_ways.Goals as goal

pub join-requires-clause-climbs : goal.join-requires-clause-climbs
join-requires-clause-climbs g c told =
    subst (Climbs ref_node) (sym c.in_ok-refs.ensures.ordered.rows)
    (refs-climb c.args.refs.rows c.len-2.ensures.known)

pub join-requires-clause-rises : goal.join-requires-clause-rises
join-requires-clause-rises g c told =
    let (entities, are) = c.requires.found (sym c.order_part.ensures.only.same.tells ∙ told) in
    subst (Rises node_id) (sym are.nodes_are) (nodes-rise entities (rising-input entities are.input))

pub returns-in_err-points-clause-within_points : goal.returns-in_err-points-clause-within_points
returns-in_err-points-clause-within_points g c entities are told fits =
    let many = ap (λ (rs : List RefRow). length (joined_rows ref_node node_id point_joined c.args.places.rows rs))
    c.in_ok-refs.ensures.ordered.rows ∙ as_many entities c.args.places.rows c.args.refs.rows are in
    c.join.ensures.within_joined (c.order_part.ensures.only.same.tells ∙ told) (omega (arith, many, fits))
    ∙ c.order_part.ensures.same_overrun

pub returns-in_err-points-clause-within : goal.returns-in_err-points-clause-within
returns-in_err-points-clause-within g c fits =
    let many = ap length c.in_ok-refs.ensures.ordered.rows ∙ length-ordered ref_kind c.args.refs.rows in
    c.join.ensures.within (omega (arith, many, fits)) ∙ c.order_part.ensures.same_overrun

pub returns-in_err-points-clause-steps : goal.returns-in_err-points-clause-steps
returns-in_err-points-clause-steps g c =
    let many = ap length c.in_ok-refs.ensures.ordered.rows ∙ length-ordered ref_kind c.args.refs.rows in
    omega (arith, many, c.join.ensures.steps)

pub returns-clause-points : goal.returns-clause-points
returns-clause-points g c entities are told =
    IfOk-weaker c.order_part-2.result
    (λ (q : Part PointRow). IsOrdered point_kind c.in_ok-points.points q (g.P.Spill.state c.order_part-2.new.spill))
    (λ (q : Part PointRow). q.rows ≡ point_rows entities) (λ points is. is.rows
    ∙ ap (ordered_rows point_kind) (c.in_ok-points.ensures.rows (c.order_part.ensures.only.same.tells ∙ told)
    ∙ ap (joined_rows ref_node node_id point_joined c.args.places.rows) c.in_ok-refs.ensures.ordered.rows)
    ∙ points_in_order entities c.args.places.rows c.args.refs.rows are c.len.ensures.known c.len-2.ensures.known)
    c.order_part-2.ensures.ordered

pub returns-clause-just : goal.returns-clause-just
returns-clause-just g c more all =
    let places = piece_of node_kind c.args.places in
    let refs = piece_of ref_kind c.in_ok-refs.refs in
    let joined = piece_of point_kind c.in_ok-points.points in
    let is = c.in_ok-refs.ensures.ordered in
    let one = just-still more (piece_of ref_kind c.args.refs) refs is.part c.order_part.ensures.only is.held
    (places ∷ []) all in
    let two = just-added joined c.in_ok-points.ensures.added c.join.ensures.same c.in_ok-points.ensures.held
    (places ∷ refs ∷ more) one in
    let three = just-less (refs ∷ more ++ joined ∷ []) places c.forget_part.ensures.gone c.forget_part.ensures.same []
    two in
    let four = just-less (more ++ joined ∷ []) refs c.forget_part-2.ensures.gone c.forget_part-2.ensures.same []
    three in
    IfOk-weaker c.order_part-2.result
    (λ (q : Part PointRow). IsOrdered point_kind c.in_ok-points.points q (g.P.Spill.state c.order_part-2.new.spill))
    (λ (q : Part PointRow). HasJust (more ++ piece_of point_kind q ∷ []) (g.P.Spill.state c.order_part-2.new.spill))
    (λ points now. just-still [] joined (piece_of point_kind points) now.part c.order_part-2.ensures.only now.held more
    four) c.order_part-2.ensures.ordered

pub returns-clause-within_points : goal.returns-clause-within_points
returns-clause-within_points g c entities are told fits =
    let many = ap (λ (rs : List RefRow). length (joined_rows ref_node node_id point_joined c.args.places.rows rs))
    c.in_ok-refs.ensures.ordered.rows ∙ as_many entities c.args.places.rows c.args.refs.rows are in
    c.order_part-2.ensures.same_overrun
    ∙ c.forget_part-2.ensures.same_overrun
    ∙ c.forget_part.ensures.same_overrun
    ∙ c.join.ensures.within_joined (c.order_part.ensures.only.same.tells ∙ told) (omega (arith, many, fits))
    ∙ c.order_part.ensures.same_overrun

pub returns-clause-within : goal.returns-clause-within
returns-clause-within g c fits =
    let many = ap length c.in_ok-refs.ensures.ordered.rows ∙ length-ordered ref_kind c.args.refs.rows in
    c.order_part-2.ensures.same_overrun
    ∙ c.forget_part-2.ensures.same_overrun
    ∙ c.forget_part.ensures.same_overrun
    ∙ c.join.ensures.within (omega (arith, many, fits))
    ∙ c.order_part.ensures.same_overrun

pub returns-clause-steps : goal.returns-clause-steps
returns-clause-steps g c =
    let many = ap length c.in_ok-refs.ensures.ordered.rows ∙ length-ordered ref_kind c.args.refs.rows in
    omega (arith, many, c.join.ensures.steps)
