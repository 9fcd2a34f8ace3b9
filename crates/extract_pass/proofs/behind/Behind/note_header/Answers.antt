use Rattle.std.proofs.Common.{rules, refl}
use Rattle.extract_pass.proofs.BehindBlobs.{header-sound, header-boxed, header-behind}
use Rattle.extract_pass.proofs.behind.Behind.note_header.Goals as goal

pub returns-in-Ok : goal.returns-in-Ok
returns-in-Ok c es box behind =
    let raw = c.args.raw.now in
    let found = c.in-Ok.found in (
      header-sound es raw found c.read_header.result c.read_header.ensures c.in-Ok.is,
      header-behind c.args.self.now _ es box raw found behind
          (header-boxed raw found c.read_header.result c.read_header.ensures c.in-Ok.is) refl (search rules),
    )
