-- Parts that are used up one after another: what is left to join.
use Rattle.std.proofs.Common.{◌≡◌, ℕ, suc, ◌+◌, Bool, true, false, List, [], ◌∷◌, ◌++◌}
use Rattle.std.proofs.Common.{length, Some, None, refl, sym, ap, ◌∙◌, arith}
use Rattle.std.specs.Prelude.{◌&&◌, ◌||◌}
use Rattle.std.specs.List.{list_any}
use Rattle.std.proofs.lemmas.Bool.{or_parts, and_parts, not_from_false}
use Rattle.mf_base.specs.declared.kind.Role.{Role}
use Rattle.feature_model.specs.Rings.{Piece, fits, take_first}
use Rattle.feature_model.proofs.RingLaws.{take_first-is, take_first-none}
use Rattle.ring_assembly.specs.Marked.{State, used, Marked, points_in, is_free, has_end, suits, with_piece}
use Rattle.ring_assembly.specs.Marked.{free_pieces, used_up}

-- a part as a piece, with its place
abbrev pub piece_of : ℕ → Marked → Piece
piece_of n m = record { number = n; points = points_in m.units }

next-free : (role : Role) (n : ℕ) (m : Marked) (parts : List Marked)
    → free_pieces role n (m ∷ parts) ≡ with_piece (is_free role m.state) (piece_of n m) (free_pieces role (n + 1) parts)
unfolding free_pieces
next-free role n m parts = refl

no-free : (role : Role) (n : ℕ) → free_pieces role n [] ≡ []
unfolding free_pieces
no-free role n = refl

-- a piece stands before others wherever these end
with-append : (b : Bool) (p : Piece) (xs ys : List Piece) → with_piece b p (xs ++ ys) ≡ with_piece b p xs ++ ys
with-append true p xs ys = refl
with-append false p xs ys = refl

free-append : (role : Role) (n : ℕ) (xs ys : List Marked)
    → free_pieces role n (xs ++ ys) ≡ free_pieces role n xs ++ free_pieces role (n + length xs) ys
free-append role n [] ys =
    let same : n ≡ n + 0 = omega arith in
    ap (λ k. free_pieces role k ys) same
    ∙ ap (λ ps. ps ++ free_pieces role (n + 0) ys) (sym (no-free role n))
free-append role n (m ∷ xs) ys =
    let same : n + 1 + length xs ≡ n + suc (length xs) = omega arith in
    next-free role n m (xs ++ ys)
    ∙ ap (with_piece (is_free role m.state) (piece_of n m))
    (free-append role (n + 1) xs ys
    ∙ ap (λ k. free_pieces role (n + 1) xs ++ free_pieces role k ys) same)
    ∙ with-append (is_free role m.state) (piece_of n m) (free_pieces role (n + 1) xs)
    (free_pieces role (n + suc (length xs)) ys)
    ∙ ap (λ ps. ps ++ free_pieces role (n + suc (length xs)) ys) (sym (next-free role n m xs))

-- ---- parts of which none is looked for

none-free : (role : Role) (n : ℕ) (parts : List Marked) → list_any (suits role None) parts ≡ false
    → free_pieces role n parts ≡ []
none-free role n [] none = no-free role n
none-free role n (m ∷ parts) none =
    let both = or_parts (suits role None m) (list_any (suits role None) parts) none in
    next-free role n m parts
    ∙ ap (λ b. with_piece b (piece_of n m) (free_pieces role (n + 1) parts)) (unfree (is_free role m.state) both.0)
    ∙ none-free role (n + 1) parts both.1
  where
    unfree : (b : Bool) → (b && true) ≡ false → b ≡ false
    unfree true e = e
    unfree false e = refl

none-fits : (role : Role) (n end : ℕ) (parts : List Marked) → list_any (suits role (Some end)) parts ≡ false
    → list_any (fits end) (free_pieces role n parts) ≡ false
none-fits role n end [] none = ap (list_any (fits end)) (no-free role n)
none-fits role n end (m ∷ parts) none =
    let both = or_parts (suits role (Some end) m) (list_any (suits role (Some end)) parts) none in
    ap (list_any (fits end)) (next-free role n m parts)
    ∙ by_free (is_free role m.state) both.0 (none-fits role (n + 1) end parts both.1)
  where
    by_free : (b : Bool) → (b && has_end (Some end) (points_in m.units)) ≡ false
        → list_any (fits end) (free_pieces role (n + 1) parts) ≡ false
        → list_any (fits end) (with_piece b (piece_of n m) (free_pieces role (n + 1) parts)) ≡ false
    by_free true unfit more = either_none (fits end (piece_of n m)) _ unfit more
      where
        either_none : (a b : Bool) → a ≡ false → b ≡ false → (a || b) ≡ false
        either_none a b ea eb = ap (λ x. x || b) ea ∙ eb
    by_free false unfit more = more

-- ---- a part that is used up

module _ (role : Role) (before after : List Marked) (m : Marked) where
  abbrev all : List Marked
  all = before ++ m ∷ after

  abbrev left : List Marked
  left = before ++ used_up m ∷ after

  abbrev piece : Piece
  piece = piece_of (length before) m

  abbrev pieces_before : List Piece
  pieces_before = free_pieces role 0 before

  abbrev pieces_after : List Piece
  pieces_after = free_pieces role (length before + 1) after

  free-middle : (other : Marked)
      → free_pieces role 0 (before ++ other ∷ after)
      ≡ pieces_before ++ with_piece (is_free role other.state) (piece_of (length before) other) pieces_after
  free-middle other =
      let same : 0 + length before ≡ length before = omega arith in
      free-append role 0 before (other ∷ after)
      ∙ ap (λ k. pieces_before ++ free_pieces role k (other ∷ after)) same
      ∙ ap (λ ps. pieces_before ++ ps) (next-free role (length before) other after)

  unused : (s : State) → Bool
  unused s = is_free role s

  used-none : (r : Role) → is_free r used ≡ false
  used-none Role.Outer = refl
  used-none Role.Inner = refl

  free-left : free_pieces role 0 left ≡ pieces_before ++ pieces_after
  free-left = free-middle (used_up m)
      ∙ ap (λ b. pieces_before ++ with_piece b (piece_of (length before) (used_up m)) pieces_after) (used-none role)

  free-all : is_free role m.state ≡ true → free_pieces role 0 all ≡ pieces_before ++ piece ∷ pieces_after
  free-all is = free-middle m ∙ ap (λ b. pieces_before ++ with_piece b piece pieces_after) is

  -- no part of the role is lost but this one, and none of another role
  pub free-other : is_free role m.state ≡ false → free_pieces role 0 left ≡ free_pieces role 0 all
  free-other is = free-left
      ∙ sym (free-middle m ∙ ap (λ b. pieces_before ++ with_piece b piece pieces_after) is)

  -- the first free part starts a ring
  pub free-starts : list_any (suits role None) before ≡ false → is_free role m.state ≡ true
      → free_pieces role 0 all ≡ piece ∷ free_pieces role 0 left
  free-starts none is =
      let first = none-free role 0 before none in
      free-all is ∙ ap (λ ps. ps ++ piece ∷ pieces_after) first
      ∙ sym (ap (λ ps. piece ∷ ps) (free-left ∙ ap (λ ps. ps ++ pieces_after) first))

  -- the first free part that fits is taken
  pub free-taken : (end : ℕ) → list_any (suits role (Some end)) before ≡ false → suits role (Some end) m ≡ true
      → take_first end (free_pieces role 0 all) ≡ Some (piece, free_pieces role 0 left)
  free-taken end none is =
      let both = and_parts (is_free role m.state) (has_end (Some end) (points_in m.units)) is in
      take_first-is end (free_pieces role 0 all) piece (free_pieces role 0 left) (
        pieces_before,
        pieces_after,
        free-all both.0,
        free-left,
        both.1,
        not_from_false (list_any (fits end) pieces_before) (none-fits role 0 end before none),
      )

-- where no free part fits, none is taken
pub free-none : (role : Role) (end : ℕ) (parts : List Marked) → list_any (suits role (Some end)) parts ≡ false
    → take_first end (free_pieces role 0 parts) ≡ None
free-none role end parts none =
    take_first-none end (free_pieces role 0 parts) (none-fits role 0 end parts none)

-- where no part of the role is free, nothing is left
pub free-done : (role : Role) (parts : List Marked) → list_any (suits role None) parts ≡ false
    → free_pieces role 0 parts ≡ []
free-done role parts none = none-free role 0 parts none
