use Rattle.std.proofs.Common.{arith}
use Rattle.map_header.specs.Shown.{settings_of}
use Rattle.map_header.proofs.HeaderBytes.{header_size-is}
use Rattle.map_header.proofs.header.header_size.Goals as goal

pub returns-clause-size : goal.returns-clause-size
returns-clause-size g c =
    omega (
      arith,
      c.size_of_middle.ensures.size,
      c.len.ensures.value,
      header_size-is (settings_of c.args.set.now) (g.T.TagSource.names c.args.tags.now),
    )
