use Rattle.std.proofs.Common.{sym}
use Rattle.mf_base.proofs.ByteLaws.{length-big_endian}
use Rattle.map_header.proofs.options.zoom_size.Goals as goal

pub returns-in-Some-clause-size : goal.returns-in-Some-clause-size
returns-in-Some-clause-size c = rw c.in-Some.is (sym (length-big_endian 1 c.in-Some.field-0))
