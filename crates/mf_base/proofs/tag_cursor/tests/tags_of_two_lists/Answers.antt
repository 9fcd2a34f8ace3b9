use Rattle.std.proofs.Common.{refl}
use Rattle.mf_base.specs.NumberReading.{varint_front}
use Rattle.mf_base.specs.Packed.{runs}
use Rattle.mf_base.specs.Entries.{text_at}
use Rattle.mf_base.proofs.tag_cursor.tests.tags_of_two_lists.Goals as goal

pub columns-tags-requires-clause-texts : goal.columns-tags-requires-clause-texts
unfolding varint_front runs text_at
columns-tags-requires-clause-texts g c = refl

pub columns-tags-requires-clause-whole_keys : goal.columns-tags-requires-clause-whole_keys
unfolding varint_front runs text_at
columns-tags-requires-clause-whole_keys g c = refl

pub columns-tags-requires-clause-whole_vals : goal.columns-tags-requires-clause-whole_vals
unfolding varint_front runs text_at
columns-tags-requires-clause-whole_vals g c = refl

pub columns-tags-requires-clause-as_many : goal.columns-tags-requires-clause-as_many
unfolding varint_front runs text_at
columns-tags-requires-clause-as_many g c = refl

pub columns-tags-requires-clause-told : goal.columns-tags-requires-clause-told
unfolding varint_front runs text_at
columns-tags-requires-clause-told g c = refl
