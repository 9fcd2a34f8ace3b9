use Rattle.std.proofs.Common.{sym}
use Rattle.map_header.proofs.Putting.{length-place}
use Rattle.map_header.proofs.options.start_size.Goals as goal

pub returns-in-Some-clause-size : goal.returns-in-Some-clause-size
returns-in-Some-clause-size c = rw c.in-Some.is (sym (length-place c.in-Some.field-0.lat c.in-Some.field-0.lon))
