-- The field in front of bytes, step by step.
use Rattle.std.proofs.Common.{◌≡◌, ◌⊎◌, ℕ, ◌+◌, length, sym, Result, Option, [], ◌∷◌, ◌/◌, ◌%◌, ◌<◌, ◌≤◌, ◌^◌, List}
use Rattle.std.proofs.Common.{drop, refl, arith, subst, inl, inr, Ok, Err, nat_lt, nat_le}
use Rattle.std.proofs.lemmas.Bool.{lt-leb, le-ltb, and_left, and_right}
use Rattle.osm_model.specs.declared.faults.WireFault.{WireFault}
use Rattle.osm_model.specs.declared.faults.WireFault.TheVariants.{Kind}
use Rattle.pbf_wire.specs.declared.fields.Field as reader_field
use Rattle.pbf_wire.specs.Shown.{Gives, GivesNext}
use Rattle.osm_model.specs.Wire.{Value, number_front, value_front, field_front, fields}
use Rattle.osm_model.specs.Reading.{stops_at}
use Rattle.osm_model.proofs.FieldLaws.{is_number}
use Rattle.osm_model.proofs.MessageLaws.{fields-stop}

pub front-no_key : (bytes : List ℕ) (fault : WireFault) → number_front bytes ≡ Err fault → field_front bytes ≡ Err fault
unfolding field_front
front-no_key bytes fault e = rw e refl

-- the key's field number does not exist
pub front-no_number : (bytes : List ℕ) (key at : ℕ) → number_front bytes ≡ Ok (key, at)
    → (key / 8 < 1) ⊎ ((1 ≤ key / 8) × (2 ^ 29 ≤ key / 8)) → field_front bytes ≡ Err Kind
unfolding field_front
front-no_number bytes key at e (inl low) =
    rw e (rw (and_left (nat_le 1 (key / 8)) (nat_lt (key / 8) (2 ^ 29)) (lt-leb 1 (key / 8) low)) refl)
front-no_number bytes key at e (inr (least, high)) =
    rw e (rw (and_right (nat_le 1 (key / 8)) (nat_lt (key / 8) (2 ^ 29)) (le-ltb (key / 8) (2 ^ 29) high)) refl)

pub front-no_value : (bytes : List ℕ) (key at : ℕ) (fault : WireFault) → number_front bytes ≡ Ok (key, at)
    → 1 ≤ key / 8 → key / 8 < 2 ^ 29 → value_front (key % 8) (drop at bytes) ≡ Err fault → field_front bytes ≡ Err fault
unfolding field_front
front-no_value bytes key at fault e least most value = rw e (rw (is_number (key / 8) least most) (rw value refl))

pub front-field : (bytes : List ℕ) (key at : ℕ) (value : Value) (size : ℕ) → number_front bytes ≡ Ok (key, at)
    → 1 ≤ key / 8 → key / 8 < 2 ^ 29 → value_front (key % 8) (drop at bytes) ≡ Ok (value, size)
    → field_front bytes ≡ Ok (record { number = key / 8; value = value }, at + size)
unfolding field_front
front-field bytes key at value size e least most read = rw e (rw (is_number (key / 8) least most) (rw read refl))

-- a fault that was handed on
pub gives-fault : {A B : Type 0} (Shows : A → B
    → Type 0) (r : Result (A × ℕ) WireFault) (fault : WireFault) (front : Result (B × ℕ) WireFault) → r ≡ Err fault
    → front ≡ Err fault → Gives Shows r front
gives-fault Shows r fault front e is = subst (λ x. Gives Shows x front) (sym e) is

fields-fault : (bytes : List ℕ) (fault : WireFault) → 0 < length bytes → field_front bytes ≡ Err fault
    → fields bytes ≡ stops_at fault
fields-fault [] fault some e = absurd (omega arith)
fields-fault (b ∷ rest) fault some e = fields-stop b rest fault e

pub gives-next_fault : (left : List ℕ) (r : Result (Option reader_field.Field) WireFault) (fault : WireFault)
    → 0 < length left → r ≡ Err fault → field_front left ≡ Err fault → GivesNext (fields left) r (fields left)
gives-next_fault left r fault some e front =
    subst (λ x. GivesNext (fields left) x (fields left)) (sym e) (fields-fault left fault some front, refl)
