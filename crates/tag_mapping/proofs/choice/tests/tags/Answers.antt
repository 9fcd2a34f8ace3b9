use Rattle.std.proofs.Common.{refl}
use Rattle.mf_base.specs.NumberReading.{varint_front}
use Rattle.mf_base.specs.Packed.{runs}
use Rattle.mf_base.specs.Entries.{text_at}
use Rattle.tag_mapping.proofs.choice.tests.tags.Goals as goal

pub pairs-requires-clause-texts : goal.pairs-requires-clause-texts
unfolding varint_front runs text_at
pairs-requires-clause-texts c = refl
