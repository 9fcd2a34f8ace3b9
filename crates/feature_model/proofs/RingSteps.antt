-- One step of joining: for the code that joins, whose loop adds a part or ends a ring.
use Rattle.std.proofs.Common.{◌≡◌, ◌⊎◌, ℕ, suc, List, [], ◌∷◌, ◌++◌, length, true, false, Some}
use Rattle.std.proofs.Common.{None, Ok, Err, refl, sym, ap, ◌∙◌, inl, inr, arith}
use Rattle.std.specs.List.{list_any}
use Rattle.std.proofs.lemmas.Option.{same_Some}
use Rattle.feature_model.specs.Points.{Point}
use Rattle.feature_model.specs.Rings.{Piece, Begun, Joined, ends_meet, last_node, fits, extended, TakesFirst}
use Rattle.feature_model.specs.Rings.{take_first}
use Rattle.feature_model.specs.Rings.{and_then_rings, grown, rings, grow, with_rings}
use Rattle.feature_model.proofs.RingLaws.{take_first-is, take_first-none, takes-length, takes_or_none, grown-closes}
use Rattle.feature_model.proofs.RingLaws.{grown-adds, grown-open, rings-starts}

-- a part that is taken is one fewer
taken-length : (end : ℕ) (unused : List Piece) (part : Piece) (rest : List Piece)
    → take_first end unused ≡ Some (part, rest) → length unused ≡ suc (length rest)
taken-length end unused part rest found = by_case (takes_or_none end unused)
  where
    by_case : ((p : Piece) × (r : List Piece) × TakesFirst end unused p r) ⊎ (list_any (fits end) unused ≡ false)
        → length unused ≡ suc (length rest)
    by_case (inl (p, r, takes)) =
        let same : r ≡ rest =
        ap (λ (q : Piece × List Piece). q.1)
        (same_Some (p, r) (part, rest) (sym (take_first-is end unused p r takes) ∙ found)) in
        takes-length end unused p r takes ∙ ap (λ (xs : List Piece). suc (length xs)) same
    by_case (inr none) = absurd (cc (found, take_first-none end unused none))

pub ring-closed : (ring : Begun) (unused : List Piece) → ends_meet ring.points ≡ true
    → grow ring unused ≡ and_then_rings ring.points (rings unused)
ring-closed ring unused closed = grown-closes (length unused) ring unused closed (omega arith)

pub ring-adds : (ring : Begun) (unused rest : List Piece) (part : Piece) → ends_meet ring.points ≡ false
    → take_first (last_node ring.points) unused ≡ Some (part, rest) → grow ring unused ≡ grow (extended ring part) rest
ring-adds ring unused rest part ajar found =
    let fewer = taken-length (last_node ring.points) unused part rest found in
    ap (λ n. grown n ring unused) fewer ∙ grown-adds (length rest) ring unused part rest ajar found

pub ring-open : (ring : Begun) (unused : List Piece) → ends_meet ring.points ≡ false
    → take_first (last_node ring.points) unused ≡ None → grow ring unused ≡ Err ring.number
ring-open ring unused ajar none = grown-open (length unused) ring unused ajar none

pub ring-starts : (part : Piece) (unused : List Piece) → rings (part ∷ unused) ≡ grow part unused
ring-starts part unused = rings-starts part unused

-- a ring more is done
pub ring-done : (done : List (List Point)) (ring : List Point) (outcome : Joined)
    → with_rings (done ++ ring ∷ []) outcome ≡ with_rings done (and_then_rings ring outcome)
ring-done [] ring outcome = refl
ring-done (first ∷ done) ring outcome = ap (and_then_rings first) (ring-done done ring outcome)

pub rings-ended : (done : List (List Point)) → with_rings done (Ok []) ≡ Ok done
rings-ended [] = refl
rings-ended (ring ∷ done) = ap (and_then_rings ring) (rings-ended done)

pub rings-open : (done : List (List Point)) (start : ℕ) → with_rings done (Err start) ≡ Err start
rings-open [] start = refl
rings-open (ring ∷ done) start = ap (and_then_rings ring) (rings-open done start)

pub ruleset step_laws = (ring-closed, ring-adds, ring-open, ring-starts, ring-done, rings-ended, rings-open)
