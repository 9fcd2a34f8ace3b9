use Rattle.std.proofs.Common.{◌∙◌, ap, length, arith}
use Rattle.std.specs.Prelude.{nat_lt}
use Rattle.std.specs.List.{position_or_len}
use Rattle.mf_base.specs.declared.kept.Kept.{Kept}
use Rattle.tag_mapping.proofs.Keeping.{kept-among, kept-behind}
use Rattle.tag_mapping.proofs.choosing.keep.Goals as goal

pub returns-then-place-lt15 : goal.returns-then-place-lt15
returns-then-place-lt15 c =
    kept-among c.args.kept c.args.tags.now.items c.truncate.new.self.items c.insert.new.self.items
    c.place_of-place.result
    (c.place_of-place.ensures.place
    ∙ ap (position_or_len (λ (k : Kept). nat_lt c.args.kept.tag k.tag)) c.as_slice.ensures.value)
    c.if-place-lt15.true c.truncate.ensures.items c.insert.ensures.items

pub returns-else-place-lt15 : goal.returns-else-place-lt15
returns-else-place-lt15 c =
    kept-behind c.args.kept c.args.tags.now.items c.place_of-place.result
    (c.place_of-place.ensures.place
    ∙ ap (position_or_len (λ (k : Kept). nat_lt c.args.kept.tag k.tag)) c.as_slice.ensures.value)
    (omega (arith, c.place_of-place.ensures.within, ap length c.as_slice.ensures.value))
    (omega (arith, c.as_slice.ensures.fits, ap length c.as_slice.ensures.value))
    c.if-place-lt15.false
