use Rattle.std.proofs.Common.{length, arith, length-append}
use Rattle.mf_base.specs.Spelling.{vbe_unsigned, string}
use Rattle.tile_body.proofs.texts.size_string.Goals as goal

pub returns : goal.returns
unfolding string
returns c = record {
  size = let sum = length-append (vbe_unsigned (length c.args.text.now)) c.args.text.now in
      omega (arith, sum, c.from.ensures, c.size_vbe_u.ensures.size);
}
