use Rattle.std.proofs.Common.{refl}
use Rattle.mf_base.specs.NumberReading.{varint_front}
use Rattle.mf_base.specs.Packed.{runs}
use Rattle.mf_base.specs.Entries.{text_at}
use Rattle.mf_base.proofs.tag_cursor.tests.tags_of_one_list.Goals as goal

pub pairs-tags-requires-clause-texts : goal.pairs-tags-requires-clause-texts
unfolding varint_front runs text_at
pairs-tags-requires-clause-texts g c = refl

pub pairs-tags-requires-clause-whole : goal.pairs-tags-requires-clause-whole
unfolding varint_front runs text_at
pairs-tags-requires-clause-whole g c = refl

pub pairs-tags-requires-clause-as_many : goal.pairs-tags-requires-clause-as_many
unfolding varint_front runs text_at
pairs-tags-requires-clause-as_many g c = refl

pub pairs-tags-requires-clause-told : goal.pairs-tags-requires-clause-told
unfolding varint_front runs text_at
pairs-tags-requires-clause-told g c = refl

pub pairs-none-requires-clause-whole : goal.pairs-none-requires-clause-whole
unfolding varint_front runs text_at
pairs-none-requires-clause-whole g c = refl

pub pairs-none-requires-clause-as_many : goal.pairs-none-requires-clause-as_many
unfolding varint_front runs text_at
pairs-none-requires-clause-as_many g c = refl

pub pairs-none-requires-clause-told : goal.pairs-none-requires-clause-told
unfolding varint_front runs text_at
pairs-none-requires-clause-told g c = refl
