use Rattle.pbf_wire.proofs.ValueLaws.{values-append, bytes-append}
use Rattle.pbf_wire.proofs.laws.values_in_order.Goals as goal

pub returns : goal.returns
returns c = record { values = values-append; bytes = bytes-append }
