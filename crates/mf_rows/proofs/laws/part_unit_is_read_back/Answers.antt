use Rattle.mf_rows.proofs.PartsAgain.{part_told, part_alone}
use Rattle.mf_rows.proofs.laws.part_unit_is_read_back.Goals as goal

pub returns-clause-only : goal.returns-clause-only
returns-clause-only c = part_alone

pub returns-clause-back : goal.returns-clause-back
returns-clause-back c = part_told
