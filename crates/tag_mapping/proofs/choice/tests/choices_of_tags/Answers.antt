use Rattle.std.proofs.Common.{refl}
use Rattle.mf_base.specs.NumberReading.{varint_front}
use Rattle.mf_base.specs.Packed.{runs}
use Rattle.mf_base.specs.Entries.{text_at}
use Rattle.tag_mapping.proofs.choice.tests.choices_of_tags.Goals as goal

pub tags-requires : goal.tags-requires
unfolding varint_front runs text_at
tags-requires g c = (refl, refl, refl)

pub tags-requires-2 : goal.tags-requires-2
unfolding varint_front runs text_at
tags-requires-2 g c = (refl, refl, refl)

pub tags-requires-3 : goal.tags-requires-3
unfolding varint_front runs text_at
tags-requires-3 g c = (refl, refl, refl)

pub tags-requires-4 : goal.tags-requires-4
unfolding varint_front runs text_at
tags-requires-4 g c = (refl, refl, refl)

pub tags-requires-5 : goal.tags-requires-5
unfolding varint_front runs text_at
tags-requires-5 g c = (refl, refl, refl)

pub tags-requires-6 : goal.tags-requires-6
unfolding varint_front runs text_at
tags-requires-6 g c = (refl, refl, refl)
