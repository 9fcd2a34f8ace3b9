use Rattle.std.proofs.Common.{refl}
use Rattle.mf_base.specs.Spelling.{big_endian}
use Rattle.ring_assembly.specs.Laid.{foot_row}
use Rattle.ring_assembly.proofs.laid.row_of_foot.Goals as goal

pub returns : goal.returns
unfolding foot_row big_endian
returns c = rw (c.write_u64-2.ensures, c.write_u64.ensures, c.number_of_home.ensures) refl
