-- Reading from left to right: a value and the bytes after it, or the first fault. This project's profile.
use Rattle.std.specs.Prelude.{ℕ, zero, suc, ◌-◌, List, [], ◌∷◌, length, take, drop, nat_lt, Bool, true, false, Result}
use Rattle.std.specs.Prelude.{Ok, Err, Option, Some, None, if◌then◌else◌}
use Rattle.mf_base.specs.Steps.{◌>>=◌, require, told_as}
use Rattle.byteorder.specs.Endian.{big_number}

-- A field that has no spelling: why, and how many bytes were left where it starts.
pub record Stop (Kind : Type 0) : Type 0 where
  pub kind : Kind
  pub left : ℕ

-- a reading of so many bytes, its fault by the place where the field starts
abbrev pub with_place : {Kind Fault X : Type 0} → (ℕ → Kind → Fault) → ℕ → Result X (Stop Kind) → Result X Fault
with_place fault size (Ok x) = Ok x
with_place fault size (Err e) = Err (fault (size - e.left) e.kind)

-- what a reader answers: a value and the bytes after it
abbrev pub Read : Type 0 → Type 0 → Type 0
Read Kind X = Result (X × List ℕ) (Stop Kind)

-- the fault of the field that starts at these bytes
abbrev pub stop : {Kind : Type 0} → Kind → List ℕ → Stop Kind
stop kind bytes = record { kind = kind; left = length bytes }

-- the field that starts at these bytes stands only where the test passes
abbrev pub want : {Kind : Type 0} → Bool → Kind → List ℕ → Result (Unit {0}) (Stop Kind)
want passes kind bytes = require passes (stop kind bytes)

-- what is read, its fault told as this one
abbrev pub or_stop : {E Kind X : Type 0} → Kind → List ℕ → Result X E → Result X (Stop Kind)
or_stop kind bytes read = told_as (λ e. stop kind bytes) read

-- what stands at the front and takes so many bytes, and the bytes after it
abbrev pub with_rest : {E X : Type 0} → List ℕ → Result (X × ℕ) E → Result (X × List ℕ) E
with_rest bytes (Ok found) = Ok (found.0, drop found.1 bytes)
with_rest bytes (Err e) = Err e

-- so many bytes
abbrev pub fixed : {Kind : Type 0} → Kind → ℕ → List ℕ → Read Kind (List ℕ)
fixed short width bytes =
    if nat_lt (length bytes) width then Err (stop short bytes) else Ok (take width bytes, drop width bytes)

-- a number of so many bytes, the highest first
abbrev pub fixed_number : {Kind : Type 0} → Kind → ℕ → List ℕ → Read Kind ℕ
fixed_number short width bytes = do
  field ← fixed short width bytes
  Ok (big_number width field.0, field.1)

-- so many values of one kind, one after another
unfoldable pub times : {Kind X : Type 0} → ℕ → (List ℕ → Read Kind X) → List ℕ → Read Kind (List X)
times zero read bytes = Ok ([], bytes)
times (suc n) read bytes = do
  first ← read bytes
  others ← times n read first.1
  Ok (first.0 ∷ others.0, others.1)

-- a value for read_each element of a list, one after another
unfoldable pub read_each : {Kind C X : Type 0} → (C → List ℕ → Read Kind X) → List C → List ℕ → Read Kind (List X)
read_each read [] bytes = Ok ([], bytes)
read_each read (c ∷ cs) bytes = do
  first ← read c bytes
  others ← read_each read cs first.1
  Ok (first.0 ∷ others.0, others.1)

-- a field that is there where the flag is set
abbrev pub where_set : {Kind X : Type 0} → Bool → (List ℕ → Read Kind X) → List ℕ → Read Kind (Option X)
where_set true read bytes = do
  x ← read bytes
  Ok (Some x.0, x.1)
where_set false read bytes = Ok (None, bytes)
