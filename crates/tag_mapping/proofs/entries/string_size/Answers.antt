use Rattle.std.proofs.Common.{length, arith}
use Rattle.tag_mapping.proofs.ShortTexts.{length-two}
use Rattle.tag_mapping.proofs.entries.string_size.Goals as goal

pub returns-clause-most : goal.returns-clause-most
returns-clause-most c =
    let most = length-two (length c.args.text.now) (omega (arith, c.requires)) in
    omega (arith, c.requires, most, c.size_vbe_u.ensures.size)
