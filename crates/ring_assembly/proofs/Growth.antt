-- A ring that grows: its ends, and its points in units.
use Rattle.std.proofs.Common.{◌≡◌, ◌⊎◌, inl, inr, ℕ, ◌+◌, ◌<◌, Bool, true, false, List, [], ◌∷◌, ◌++◌}
use Rattle.std.proofs.Common.{length, reverse, drop, refl, sym, ap, ◌∙◌, arith, append-nil, append_assoc}
use Rattle.std.specs.Prelude.{◌==◌, ◌||◌, if◌then◌else◌}
use Rattle.std.proofs.lemmas.Bool.{cases_Bool, eqb-true, eq-eqb}
use Rattle.std.proofs.lemmas.List.{reverse-append, drop-append-le}
use Rattle.feature_model.specs.Points.{Point}
use Rattle.feature_model.specs.Rings.{Piece, first_node, last_node, fits, added}
use Rattle.mf_rows.specs.Units.{Unit16, point_in}
use Rattle.ring_assembly.specs.Marked.{points_in}
use Rattle.ring_assembly.specs.Added.{added_units}

reverse-cons : {A : Type 0} (x : A) (xs : List A) → reverse (x ∷ xs) ≡ reverse xs ++ x ∷ []
reverse-cons x xs = reverse-append (x ∷ []) xs

pub points-append : (xs ys : List Unit16) → points_in (xs ++ ys) ≡ points_in xs ++ points_in ys
points-append [] ys = refl
points-append (x ∷ xs) ys = ap (λ ps. point_in x ∷ ps) (points-append xs ys)

points-reverse : (xs : List Unit16) → points_in (reverse xs) ≡ reverse (points_in xs)
points-reverse [] = refl
points-reverse (x ∷ xs) =
    ap points_in (reverse-cons x xs) ∙ points-append (reverse xs) (x ∷ [])
    ∙ ap (λ ps. ps ++ point_in x ∷ []) (points-reverse xs) ∙ sym (reverse-cons (point_in x) (points_in xs))

points-drop : (xs : List Unit16) → points_in (drop 1 xs) ≡ drop 1 (points_in xs)
points-drop [] = refl
points-drop (x ∷ xs) = refl

-- what is added of a part, in units
pub added-is : (end number : ℕ) (units : List Unit16)
    → points_in (added_units end units) ≡ added end (record { number = number; points = points_in units })
added-is end number units = by_first (first_node (points_in units) == end)
  where
    by_first : (b : Bool)
        → points_in (drop 1 (if b then units else reverse units))
        ≡ drop 1 (if b then points_in units else reverse (points_in units))
    by_first true = points-drop units
    by_first false = points-drop (reverse units) ∙ ap (drop 1) (points-reverse units)

-- ---- the ends of a ring that a part is added to

pub first-kept : (ring more : List Point) → 0 < length ring → first_node (ring ++ more) ≡ first_node ring
first-kept [] more some = absurd (omega (arith, some))
first-kept (p ∷ ring) more some = refl

last-append : (xs : List Point) (y : Point) (ys : List Point) → last_node (xs ++ y ∷ ys) ≡ last_node (y ∷ ys)
last-append [] y ys = refl
last-append (x ∷ []) y ys = refl
last-append (x ∷ z ∷ xs) y ys = last-append (z ∷ xs) y ys

length-reverse : {A : Type 0} (x : A) (xs : List A) → 0 < length (reverse (x ∷ xs))
length-reverse x xs = omega (arith, ap length (reverse-cons x xs), length-more (reverse xs) x)
  where
    length-more : {A : Type 0} (xs : List A) (x : A) → length (xs ++ x ∷ []) ≡ length xs + 1
    length-more [] x = refl
    length-more (y ∷ xs) x = omega (arith, length-more xs x)

module _ (ring : List Point) (end : ℕ) (ends : last_node ring ≡ end) where
  -- a part as it stands
  last-forward : (points : List Point) → first_node points ≡ end
      → last_node (ring ++ drop 1 points) ≡ last_node points
  last-forward [] first = ap last_node (append-nil ring) ∙ ends ∙ sym first
  last-forward (p ∷ []) first = ap last_node (append-nil ring) ∙ ends ∙ sym first
  last-forward (p ∷ q ∷ points) first = last-append ring q points

  -- a part reversed
  last-backward : (points : List Point) → (first_node points == end) ≡ false → last_node points ≡ end
      → last_node (ring ++ drop 1 (reverse points)) ≡ first_node points
  last-backward [] other last = absurd (cc (sym (eq-eqb 0 end last) ∙ other))
  last-backward (p ∷ []) other last = absurd (cc (sym (eq-eqb p.node end last) ∙ other))
  last-backward (p ∷ q ∷ points) other last =
      let turned : drop 1 (reverse (p ∷ q ∷ points)) ≡ drop 1 (reverse (q ∷ points)) ++ p ∷ [] =
      ap (drop 1) (reverse-cons p (q ∷ points))
      ∙ drop-append-le 1 (reverse (q ∷ points)) (p ∷ []) (omega (arith, length-reverse q points)) in
      ap (λ ps. last_node (ring ++ ps)) turned
      ∙ ap last_node (sym (append_assoc ring (drop 1 (reverse (q ∷ points))) (p ∷ [])))
      ∙ last-append (ring ++ drop 1 (reverse (q ∷ points))) p []

  -- the node at which a ring ends once a part is added
  pub last-added : (part : Piece) → fits end part ≡ true
      → last_node (ring ++ added end part)
      ≡ (if first_node part.points == end then last_node part.points else first_node part.points)
  last-added part fit = by_first (cases_Bool (first_node part.points == end))
    where
      last-fits : (first_node part.points == end) ≡ false → (last_node part.points == end) ≡ true
      last-fits other = sym (ap (λ b. b || (last_node part.points == end)) other) ∙ fit

      by_first : ((first_node part.points == end) ≡ true) ⊎ ((first_node part.points == end) ≡ false)
          → last_node (ring ++ added end part)
          ≡ (if first_node part.points == end then last_node part.points else first_node part.points)
      by_first (inl e) =
          ap (λ b. last_node (ring ++ drop 1 (if b then part.points else reverse part.points))) e
          ∙ last-forward part.points (eqb-true (first_node part.points) end e)
          ∙ ap (λ b. if b then last_node part.points else first_node part.points) (sym e)
      by_first (inr e) =
          ap (λ b. last_node (ring ++ drop 1 (if b then part.points else reverse part.points))) e
          ∙ last-backward part.points e (eqb-true (last_node part.points) end (last-fits e))
          ∙ ap (λ b. if b then last_node part.points else first_node part.points) (sym e)
