-- The parts of joined blocks make these blocks.
use Rattle.std.proofs.Common.{◌≡◌, List, [], ◌∷◌, ◌++◌, map, not, Ok, Err, refl, sym, ap, ◌∙◌, subst}
use Rattle.std.specs.Prelude.{filter}
use Rattle.mf_base.specs.declared.kind.Role.{Role}
use Rattle.mf_base.proofs.StepLaws.{ok_is, err_is_no_ok}
use Rattle.feature_model.specs.Points.{Point, Part}
use Rattle.feature_model.specs.Rings.{Piece, Joined, rings}
use Rattle.feature_model.specs.declared.fault.RingFault.{RingFault}
use Rattle.feature_model.specs.Blocks.{JoinedBlock, begins_inside, blocks_of, pieces_of, blocks_joined, relation_blocks}
use Rattle.feature_model.specs.Blocks.{joined_parts, inner_before, blocks_in}
use Rattle.feature_model.proofs.BlockBounds.{relation_blocks-none, relation_blocks-some}

inner_parts : List (List Point) → List Part
inner_parts found = map (λ ring. record { role = Role.Inner; points = ring }) found

-- inner parts before parts that begin with an outer one, or none
inner_before-run : (inner : List (List Point)) (rest : List Part) → inner_before rest ≡ []
    → inner_before (inner_parts inner ++ rest) ≡ inner
unfolding inner_parts
inner_before-run [] rest none = none
inner_before-run (ring ∷ inner) rest none =
    ap (λ (rings : List (List Point)). ring ∷ rings) (inner_before-run inner rest none)

blocks_in-run : (inner : List (List Point)) (rest : List Part) → blocks_in (inner_parts inner ++ rest) ≡ blocks_in rest
unfolding inner_parts blocks_in
blocks_in-run [] rest = refl
blocks_in-run (ring ∷ inner) rest = blocks_in-run inner rest

none_before : (outer inner : List (List Point)) → inner_before (joined_parts (blocks_of outer inner)) ≡ []
unfolding blocks_of
none_before [] inner = refl
none_before (o ∷ outer) inner = refl

blocks_of-again : (outer inner : List (List Point))
    → blocks_in (joined_parts (blocks_of outer inner)) ≡ blocks_of outer inner
unfolding blocks_of blocks_in inner_parts
blocks_of-again [] inner = refl
blocks_of-again (o ∷ outer) inner =
    let mine = filter (begins_inside o) inner in let others = filter (λ ring. not (begins_inside o ring)) inner in
    let rest = joined_parts (blocks_of outer others) in
    let a = inner_before-run mine rest (none_before outer others) in
    let b = blocks_in-run mine rest in
    let c = blocks_of-again outer others in
    ap (λ (rings : List (List Point)). (o ∷ rings) ∷ blocks_in (inner_parts mine ++ rest)) a
    ∙ ap (λ (more : List JoinedBlock). (o ∷ mine) ∷ more) (b ∙ c)

joined-again : (o i : Joined) (found : List JoinedBlock) → blocks_joined o i ≡ Ok found
    → blocks_in (joined_parts found) ≡ found
joined-again (Err start) i found e = absurd (err_is_no_ok (RingFault.OpenRing start) found e)
joined-again (Ok os) (Err start) found e = absurd (err_is_no_ok (RingFault.OpenRing start) found e)
joined-again (Ok os) (Ok is) found e =
    subst (λ (f : List JoinedBlock). blocks_in (joined_parts f) ≡ f) (ok_is (blocks_of os is) found e)
    (blocks_of-again os is)

pub relation_blocks-again : (all : List Part) (found : List JoinedBlock) → relation_blocks all ≡ Ok found
    → blocks_in (joined_parts found) ≡ found
relation_blocks-again all found e = by_outer (pieces_of Role.Outer all) refl
  where
    by_outer : (outer : List Piece) → pieces_of Role.Outer all ≡ outer → blocks_in (joined_parts found) ≡ found
    by_outer [] same = absurd (err_is_no_ok RingFault.NoOuter found (sym (relation_blocks-none all same) ∙ e))
    by_outer (first ∷ outer) same =
        joined-again (rings (first ∷ outer)) (rings (pieces_of Role.Inner all)) found
        (sym (relation_blocks-some all first outer same) ∙ e)
