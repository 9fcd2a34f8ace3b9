use Rattle.std.proofs.Common.{◌≡◌, List, [], ◌∷◌, ◌++◌, length, sym, ap, subst, ◌∙◌, arith}
use Rattle.std.proofs.lemmas.Result.{IfOk-weaker}
use Rattle.mf_rows.specs.Kinds.{member_kind, point_kind, rel_kind}
use Rattle.mf_rows.specs.declared.kinds.MemberRow.{MemberRow}
use Rattle.mf_rows.specs.declared.kinds.RelRow.{RelRow}
use Rattle.spill_parts.specs.Parts.{Part, piece_of, HasJust, IsOrdered, ordered_rows}
use Rattle.spill_parts.specs.Join.{Climbs}
use Rattle.spill_parts.proofs.Ordered.{length-ordered}
use Rattle.spill_parts.proofs.JustParts.{just-still, just-less}
use Rattle.spill_parts.proofs.OneMore.{just-added}
use Rattle.way_points.specs.PointRows.{point_way}
use Rattle.way_points.proofs.InOrder.{rising-input, points-climb}
use Rattle.member_points.specs.RelRows.{member_way, rel_rows}
use Rattle.member_points.specs.Pairing.{paired_rows}
use Rattle.member_points.proofs.Climbing.{members-climb}
use Rattle.member_points.proofs.Orders.{rows_in_order, as_many}
use Rattle.member_points.proofs.points.points_of_members.Goals as goal

pub pair_members-requires-clause-climbs : goal.pair_members-requires-clause-climbs
pair_members-requires-clause-climbs g c told =
    subst (Climbs member_way) (sym c.in_ok-members.ensures.ordered.rows)
    (members-climb c.args.members.rows c.len.ensures.known)

pub pair_members-requires-clause-points_climb : goal.pair_members-requires-clause-points_climb
pair_members-requires-clause-points_climb g c told =
    let (mapping, entities, are) = c.requires.found (sym c.order_part.ensures.only.same.tells ∙ told) in
    subst (Climbs point_way) (sym are.points_are) (points-climb entities (rising-input entities are.input))

pub returns-in_err-rel-clause-within : goal.returns-in_err-rel-clause-within
returns-in_err-rel-clause-within g c mapping entities are told fits =
    let room = c.args.records.now.capacity in
    let many = ap (λ (ms : List MemberRow). length (paired_rows room c.args.points.now.rows ms))
    c.in_ok-members.ensures.ordered.rows
    ∙ as_many room mapping entities c.args.members.rows c.args.points.now.rows are c.len.ensures.known
    c.len-2.ensures.known in
    c.pair_members.ensures.within (c.order_part.ensures.only.same.tells ∙ told) (omega (arith, many, fits))
    ∙ c.order_part.ensures.same_overrun

pub returns-in_err-rel-clause-steps : goal.returns-in_err-rel-clause-steps
returns-in_err-rel-clause-steps g c =
    let many = ap length c.in_ok-members.ensures.ordered.rows ∙ length-ordered member_kind c.args.members.rows in
    omega (arith, many, c.pair_members.ensures.steps)

pub returns-clause-points : goal.returns-clause-points
returns-clause-points g c mapping entities are told =
    let room = c.args.records.now.capacity in
    IfOk-weaker c.order_part-2.result
    (λ (q : Part RelRow). IsOrdered rel_kind c.in_ok-rel.rel q (g.P.Spill.state c.order_part-2.new.spill))
    (λ (q : Part RelRow). q.rows ≡ rel_rows room mapping entities) (λ rel is. is.rows
    ∙ ap (ordered_rows rel_kind) (c.in_ok-rel.ensures.rows (c.order_part.ensures.only.same.tells ∙ told)
    ∙ ap (paired_rows room c.args.points.now.rows) c.in_ok-members.ensures.ordered.rows)
    ∙ rows_in_order room mapping entities c.args.members.rows c.args.points.now.rows are c.len.ensures.known
    c.len-2.ensures.known) c.order_part-2.ensures.ordered

pub returns-clause-just : goal.returns-clause-just
returns-clause-just g c more all =
    let members = piece_of member_kind c.in_ok-members.members in
    let points = piece_of point_kind c.args.points.now in
    let paired = piece_of rel_kind c.in_ok-rel.rel in
    let is = c.in_ok-members.ensures.ordered in
    let one = just-still (points ∷ more) (piece_of member_kind c.args.members) members is.part
    c.order_part.ensures.only is.held [] all in
    let two = just-added paired c.in_ok-rel.ensures.added c.pair_members.ensures.same c.in_ok-rel.ensures.held
    (members ∷ points ∷ more) one in
    let three = just-less (points ∷ more ++ paired ∷ []) members c.forget_part.ensures.gone c.forget_part.ensures.same []
    two in
    IfOk-weaker c.order_part-2.result
    (λ (q : Part RelRow). IsOrdered rel_kind c.in_ok-rel.rel q (g.P.Spill.state c.order_part-2.new.spill))
    (λ (q : Part RelRow). HasJust (points ∷ more ++ piece_of rel_kind q ∷ [])
    (g.P.Spill.state c.order_part-2.new.spill))
    (λ rel now. just-still [] paired (piece_of rel_kind rel) now.part c.order_part-2.ensures.only now.held
    (points ∷ more) three) c.order_part-2.ensures.ordered

pub returns-clause-within : goal.returns-clause-within
returns-clause-within g c mapping entities are told fits =
    let room = c.args.records.now.capacity in
    let many = ap (λ (ms : List MemberRow). length (paired_rows room c.args.points.now.rows ms))
    c.in_ok-members.ensures.ordered.rows
    ∙ as_many room mapping entities c.args.members.rows c.args.points.now.rows are c.len.ensures.known
    c.len-2.ensures.known in
    c.order_part-2.ensures.same_overrun
    ∙ c.forget_part.ensures.same_overrun
    ∙ c.pair_members.ensures.within (c.order_part.ensures.only.same.tells ∙ told) (omega (arith, many, fits))
    ∙ c.order_part.ensures.same_overrun

pub returns-clause-steps : goal.returns-clause-steps
returns-clause-steps g c =
    let many = ap length c.in_ok-members.ensures.ordered.rows ∙ length-ordered member_kind c.args.members.rows in
    omega (arith, many, c.pair_members.ensures.steps)
