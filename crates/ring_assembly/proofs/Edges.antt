-- One edge.
use Rattle.std.proofs.Common.{◌≡◌, ◌∙◌, ℤ, ◌-ℤ◌, ◌*ℤ◌, FitsSigned, to_z, of_z, Bool, true, false, not, refl, sym, ap}
use Rattle.std.specs.Prelude.{◌&&◌, int_lt, int_le}
use Rattle.std.specs.Int.{w32}
use Rattle.std.proofs.lemmas.Int.{to_z-of_z}
use mathlib.Core.Bool.{beq}
use Rattle.mf_base.specs.declared.place.Place.{Place}
use Rattle.feature_model.specs.Inside.{is_one_of, crosses_up, crosses}
use Rattle.ring_assembly.proofs.Crossings.{not_same}

-- a coordinate, as it is passed
abbrev pub read : ℤ → ℤ
read z = to_z w32 (of_z w32 z)

pub between : (p a b : ℤ) → FitsSigned w32 p → FitsSigned w32 a → FitsSigned w32 b
    → not (beq (int_lt (read p) (read a)) (int_lt (read p) (read b))) ≡ is_one_of (int_lt p a) (int_lt p b)
between p a b fp fa fb =
    ap (λ z. not (beq (int_lt z (read a)) (int_lt z (read b)))) (to_z-of_z w32 p fp)
    ∙ ap (λ z. not (beq (int_lt p z) (int_lt p (read b)))) (to_z-of_z w32 a fa)
    ∙ ap (λ z. not (beq (int_lt p a) (int_lt p z))) (to_z-of_z w32 b fb)
    ∙ not_same (int_lt p a) (int_lt p b)

module _ (p a b : Place) (found : Bool) (is : found ≡ is_one_of (int_lt p.lat a.lat) (int_lt p.lat b.lat)) where
  abbrev west : ℤ
  west = (p.lon -ℤ a.lon) *ℤ (b.lat -ℤ a.lat)

  abbrev edge : ℤ
  edge = (b.lon -ℤ a.lon) *ℤ (p.lat -ℤ a.lat)

  pub up-then : (w e : ℤ) → w ≡ west → e ≡ edge → found ≡ true → int_lt w e ≡ crosses_up p a b
  up-then w e is_w is_e holds =
      ap (λ z. int_lt z e) is_w ∙ ap (λ z. int_lt west z) is_e
      ∙ ap (λ x. x && int_lt west edge) (sym holds ∙ is)

  pub up-else : found ≡ false → found ≡ crosses_up p a b
  up-else fails = fails ∙ ap (λ x. x && int_lt west edge) (sym fails ∙ is)

-- an edge as it stands, or exchanged
pub crosses-then : (p a b : Place) (found : Bool) → int_le a.lat b.lat ≡ true → found ≡ crosses_up p a b
    → found ≡ crosses p (a, b)
unfolding crosses
crosses-then p a b found up is = is ∙ (rw up refl)

pub crosses-else : (p a b : Place) (found : Bool) → int_le a.lat b.lat ≡ false → found ≡ crosses_up p b a
    → found ≡ crosses p (a, b)
unfolding crosses
crosses-else p a b found up is = is ∙ (rw up refl)
