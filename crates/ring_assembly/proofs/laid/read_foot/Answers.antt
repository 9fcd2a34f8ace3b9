use Rattle.std.proofs.Common.{◌≡◌, ◌∙◌, rules, take, drop}
use Rattle.byteorder.specs.Endian.{big_number}
use Rattle.ring_assembly.proofs.LastRings.{home-told, points-told}
use Rattle.ring_assembly.proofs.laid.read_foot.Goals as goal

pub returns : goal.returns
returns c = λ home points fits few is.
    let first : c.read_u64.result ≡ big_number 8 (take 8 c.args.row.now) = search rules in
    let second : c.read_u64-2.result ≡ big_number 8 (drop 8 c.args.row.now) = search rules in (
      c.home_told.ensures home fits (first ∙ home-told home points c.args.row.now fits is),
      second ∙ points-told home points c.args.row.now few is,
    )
