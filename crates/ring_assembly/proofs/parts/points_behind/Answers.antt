use Rattle.std.proofs.Common.{rules, ◌≡◌, ◌∙◌, drop}
use Rattle.byteorder.specs.Endian.{big_number}
use Rattle.ring_assembly.proofs.Marks.{points-told}
use Rattle.ring_assembly.proofs.parts.points_behind.Goals as goal

pub returns : goal.returns
returns c = λ state points few is.
    let told : c.read_u64.result ≡ big_number 8 (drop 1 c.args.unit.now) = search rules in
    told ∙ points-told state points c.args.unit.now few is
