-- An object that stands next, by its id and by what it is.
use Rattle.std.proofs.Common.{◌≡◌, ℕ, List, Option, Some, None, Result, Ok, refl}
use Rattle.std.specs.Prelude.{nat_abs, ok_or, option_map}
use Rattle.mf_base.specs.declared.kind.EntityKind.{EntityKind}
use Rattle.mf_base.specs.Steps.{◌>>=◌, refuse}
use Rattle.osm_model.specs.declared.faults.EntityFault.{EntityFault}
use Rattle.osm_model.specs.declared.faults.EntityFault.TheVariants.{Missing}
use Rattle.osm_model.specs.Wire.{int64}
use Rattle.osm_model.specs.Entities.{Entity}
use Rattle.osm_model.specs.Objects.{Object}
use Rattle.osm_model.specs.Order.{order_fault}
use Rattle.osm_entity.specs.Answers.{placed}
use Rattle.osm_entity.specs.PlacedIds.{placed_id}

-- the object of this kind and of the number of its id, which is told by the id
abbrev pub told_object : EntityKind → Option ℕ → (ℕ → Result Entity EntityFault) → Result Object EntityFault
told_object kind number tell =
    ok_or (option_map int64 number) Missing >>= λ n. Ok (record { kind = kind; id = n; entity = tell (nat_abs n) })

behind : (place : Option EntityFault) (id : ℕ) (tell : ℕ → Result Entity EntityFault)
    → (refuse place >>= λ u. tell id) ≡ ((refuse place >>= λ u. Ok id) >>= tell)
behind None id tell = refl
behind (Some fault) id tell = refl

pub placed-object : (before : List Entity) (kind : EntityKind) (number : Option ℕ)
    (tell : ℕ → Result Entity EntityFault)
    → placed before (told_object kind number tell) ≡ (placed_id before kind number >>= tell)
placed-object before kind None tell = refl
placed-object before kind (Some n) tell = behind (order_fault before kind (int64 n)) (nat_abs (int64 n)) tell
