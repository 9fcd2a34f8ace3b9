use Rattle.std.proofs.Common.{◌∷◌, [], ◌++◌, subst}
use Rattle.std.proofs.lemmas.List.{append_assoc}
use Rattle.mf_rows.specs.Kinds.{index_kind}
use Rattle.spill_parts.specs.Parts.{HasJust, piece_of}
use Rattle.spill_parts.proofs.JustParts.{just-more}
use Rattle.mf_layout.specs.Layouts.{piece_in}
use Rattle.mf_layout.proofs.ThreeParts.{just-bytes}
use Rattle.mf_layout.proofs.ordered.begin.Goals as goal

pub returns-clause-just : goal.returns-clause-just
returns-clause-just g c pieces just =
    let s = g.P.Spill.state c.make-2.new.spill in
    let first = piece_of index_kind c.in_ok-index.index in
    let second = piece_in s c.in_ok-tiles.tiles in
    subst (λ ps. HasJust ps s) (append_assoc pieces (first ∷ []) (second ∷ []))
    (just-bytes c.in_ok-tiles.tiles c.in_ok-tiles.ensures.made c.in_ok-tiles.ensures.empty c.make-2.ensures.same
    (pieces ++ first ∷ [])
    (just-more index_kind c.in_ok-index.index c.in_ok-index.ensures.made c.make.ensures.same c.in_ok-index.ensures.kept
    c.in_ok-index.ensures.apart pieces just))
