use Rattle.std.proofs.Common.{List, [], ◌∷◌}
use Rattle.mf_rows.specs.Kinds.{node_kind, ref_kind, member_kind, feature_kind}
use Rattle.spill_parts.specs.Parts.{Piece, piece_of}
use Rattle.spill_parts.proofs.JustParts.{just-less}
use Rattle.mf_shape.proofs.shape.forget_parts.Goals as goal

pub returns-clause-just : goal.returns-clause-just
returns-clause-just g c more all =
    let found = c.args.found in
    let last : List Piece = piece_of feature_kind found.relation_units ∷ more in
    let ways : List Piece = piece_of feature_kind found.way_units ∷ last in
    let nodes : List Piece = piece_of feature_kind found.node_units ∷ ways in
    let members : List Piece = piece_of member_kind found.members ∷ nodes in
    let refs : List Piece = piece_of ref_kind found.refs ∷ members in
    let a = just-less refs (piece_of node_kind found.places) c.forget_part.ensures.gone c.forget_part.ensures.same [] all
    in
    let b = just-less members (piece_of ref_kind found.refs) c.forget_part-2.ensures.gone c.forget_part-2.ensures.same []
    a in
    let d = just-less nodes (piece_of member_kind found.members) c.forget_part-3.ensures.gone
    c.forget_part-3.ensures.same [] b in
    let e = just-less ways (piece_of feature_kind found.node_units) c.forget_part-4.ensures.gone
    c.forget_part-4.ensures.same [] d in
    let f = just-less last (piece_of feature_kind found.way_units) c.forget_part-5.ensures.gone
    c.forget_part-5.ensures.same [] e in
    just-less more (piece_of feature_kind found.relation_units) c.forget_part-6.ensures.gone
    c.forget_part-6.ensures.same [] f
