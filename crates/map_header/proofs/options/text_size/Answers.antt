use Rattle.std.proofs.Common.{ℕ, ap, arith, length}
use Rattle.mf_base.specs.Spelling.{vbe_unsigned}
use Rattle.map_header.proofs.Putting.{length-string}
use Rattle.map_header.proofs.options.text_size.Goals as goal

pub returns-in-Some-clause-size : goal.returns-in-Some-clause-size
returns-in-Some-clause-size c =
    let size = ap (λ (n : ℕ). length (vbe_unsigned n)) c.len-length.ensures.value in
    rw c.in-Some.is
    (omega (
      arith,
      length-string c.in-Some.text.bytes,
      size,
      c.from.ensures,
      c.size_vbe_u.ensures.size,
      c.len-length.ensures.value,
    ))
