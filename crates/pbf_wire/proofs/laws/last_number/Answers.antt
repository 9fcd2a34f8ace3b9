use Rattle.pbf_wire.proofs.ValueLaws.{number-last, number-other, number-absent}
use Rattle.pbf_wire.proofs.laws.last_number.Goals as goal

pub returns : goal.returns
returns c = record { last = number-last; others = number-other; absent = number-absent }
