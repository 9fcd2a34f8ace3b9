use Rattle.std.proofs.Common.{inl, inr, refl}
use Rattle.osm_model.specs.Wire.{i64, i32}
use Rattle.pbf_wire.proofs.fields.first_value.Goals as goal

pub returns-in-1-clause-front : goal.returns-in-1-clause-front
returns-in-1-clause-front c = rw c.in-1.is (c.fixed_of.ensures.front i64 (λ b. (b, inl refl)))

pub returns-in-5-clause-front : goal.returns-in-5-clause-front
returns-in-5-clause-front c = rw c.in-5.is (c.fixed_of-in-5.ensures.front i32 (λ b. (b, inr refl)))
