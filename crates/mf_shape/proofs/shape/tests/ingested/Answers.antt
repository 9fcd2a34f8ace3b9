use Rattle.std.proofs.Common.{List, [], ◌∷◌, ◌++◌}
use Rattle.mf_rows.specs.Kinds.{node_kind, ref_kind, member_kind, feature_kind}
use Rattle.spill_parts.specs.Parts.{Piece, piece_of}
use Rattle.mf_shape.proofs.shape.tests.ingested.Goals as goal

pub returns : goal.returns
returns g c =
    let one : List Piece = piece_of node_kind c.in_ok-written.field-0 ∷ [] in
    let two : List Piece = one ++ piece_of ref_kind c.in_ok-written-2.field-0 ∷ [] in
    let three : List Piece = two ++ piece_of member_kind c.in_ok-written-3.field-0 ∷ [] in
    let four : List Piece = three ++ piece_of feature_kind c.in_ok-written-4.field-0 ∷ [] in
    let five : List Piece = four ++ piece_of feature_kind c.in_ok-written-5.field-0 ∷ [] in
    c.in_ok-written-6.ensures.just five (c.in_ok-written-5.ensures.just four (c.in_ok-written-4.ensures.just three
    (c.in_ok-written-3.ensures.just two (c.in_ok-written-2.ensures.just one
    (c.in_ok-written.ensures.just [] c.requires)))))
