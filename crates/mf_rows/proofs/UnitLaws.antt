-- Units of parts, as they are read.
use Rattle.std.proofs.Common.{◌≡◌, ℕ, Bool, true, false, List, ◌++◌, drop, replicate, bytes_eq, Some, None, refl, sym}
use Rattle.std.proofs.Common.{ap, ◌∙◌}
use Rattle.mf_base.specs.declared.kind.Role.{Role}
use Rattle.mf_base.specs.Spelling.{big_endian}
use Rattle.mf_rows.specs.Fields.{field_bytes, number}
use Rattle.mf_rows.specs.Places.{number_at}
use Rattle.mf_rows.specs.Units.{part_unit, part_in, role_number}
use Rattle.mf_rows.proofs.Placed.{then}

-- a unit of zeros into which number and role were put
pub unit-of-part : (role : Role) (r points : ℕ) (mid new : List ℕ) → r ≡ role_number role
    → drop 1 mid ≡ field_bytes (number 8 points) ++ drop 9 (replicate 16 0)
    → drop 0 new ≡ field_bytes (number 1 r) ++ drop 1 mid → new ≡ part_unit role points
unfolding part_unit big_endian
unit-of-part role r points mid new is first last =
    then (field_bytes (number 1 (role_number role))) (last
    ∙ ap (λ n. field_bytes (number 1 n) ++ drop 1 mid) is)
    (then (field_bytes (number 8 points)) {y = drop 9 (replicate 16 0)} first refl)

test : (unit u : List ℕ) (n : ℕ) (role : Role) (b : Bool) → n ≡ number_at 1 8 unit → u ≡ part_unit role n
    → b ≡ bytes_eq unit u → bytes_eq unit (part_unit role (number_at 1 8 unit)) ≡ b
test unit u n role b at is e = ap (λ k. bytes_eq unit (part_unit role k)) (sym at) ∙ ap (bytes_eq unit) (sym is) ∙ sym e

module _ (unit u : List ℕ) (n : ℕ) (at : n ≡ number_at 1 8 unit) (is : u ≡ part_unit Role.Outer n) where
  pub outer-part : (b : Bool) → b ≡ bytes_eq unit u → b ≡ true → Some (Role.Outer, n) ≡ part_in unit
  unfolding part_in
  outer-part b e holds = rw (test unit u n Role.Outer b at is e, holds, at) refl

  module _ (b : Bool) (e : b ≡ bytes_eq unit u) (no : b ≡ false) (v : List ℕ) (this : v ≡ part_unit Role.Inner n)
      (d : Bool) (f : d ≡ bytes_eq unit v) where
    pub inner-part : d ≡ true → Some (Role.Inner, n) ≡ part_in unit
    unfolding part_in
    inner-part holds = rw (test unit u n Role.Outer b at is e, no, test unit v n Role.Inner d at this f, holds, at) refl

    pub no-part : d ≡ false → None ≡ part_in unit
    unfolding part_in
    no-part neither = rw (test unit u n Role.Outer b at is e, no, test unit v n Role.Inner d at this f, neither) refl
