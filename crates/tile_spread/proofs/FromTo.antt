-- Numbers from one to another, and rows for one after another.
use Rattle.std.proofs.Common.{◌≡◌, ℕ, suc, ◌+◌, ◌-◌, ◌≤◌, ◌<◌, List, [], ◌∷◌, ◌++◌}
use Rattle.std.proofs.Common.{sym, ap, ◌∙◌, arith}
use Rattle.std.specs.Prelude.{flat_map}
use Rattle.std.specs.List.{range_with_len}
use Rattle.std.proofs.lemmas.List.{append-nil}
use Rattle.std.proofs.lemmas.List.Concat.{flat_map-cons}
use Rattle.map_model.specs.TileRects.{from_to}

-- the first, and those behind it
from_to-next : (a b : ℕ) → a ≤ b → from_to a b ≡ a ∷ from_to (a + 1) b
from_to-next a b le =
    let next : suc b - a ≡ suc (suc b - (a + 1)) = omega (arith, le) in
    ap (range_with_len a) next

-- none, behind the last
from_to-none : (a b : ℕ) → b < a → from_to a b ≡ []
from_to-none a b lt =
    let none : suc b - a ≡ 0 = omega (arith, lt) in
    ap (range_with_len a) none

module _ {A : Type 0} (f : ℕ → List A) where
  -- what is made of the first, and what is left
  pub made-next : (a b : ℕ) → a ≤ b → flat_map f (from_to a b) ≡ f a ++ flat_map f (from_to (a + 1) b)
  made-next a b le =
      ap (λ (ns : List ℕ). flat_map f ns) (from_to-next a b le) ∙ flat_map-cons f a (from_to (a + 1) b)

  -- nothing is left
  pub made-all : (a b : ℕ) (now all : List A) → b < a → now ++ flat_map f (from_to a b) ≡ all → now ≡ all
  made-all a b now all lt was =
      sym (ap (λ (ns : List ℕ). now ++ flat_map f ns) (from_to-none a b lt) ∙ append-nil now) ∙ was
