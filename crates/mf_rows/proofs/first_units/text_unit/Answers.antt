use Rattle.std.proofs.Common.{rules, ◌+◌, ◌≤◌, ◌<◌, ◌∙◌, arith}
use Rattle.std.proofs.lemmas.List.{length-set}
use Rattle.std.proofs.Math.ListN.{get_or}
use Rattle.mf_rows.specs.Records.{texts_told}
use Rattle.mf_rows.specs.RecordUnits.{text_bytes}
use Rattle.mf_rows.proofs.FirstUnits.{byte-put, target-is}
use Rattle.mf_rows.proofs.first_units.text_unit.Goals as goal

pub loop-i-preserved : goal.loop-i-preserved
loop-i-preserved c =
    let below : c.loop-i.i < 16 = search rules in (
      byte-put c.loop-i.unit (λ k. get_or (text_bytes (texts_told c.args.block.now c.args.spans.now)) (c.args.at + k) 0)
          c.loop-i.i c.byte_at.result c.loop-i.invariant.1 below c.loop-i.invariant.0 c.byte_at.ensures,
      length-set c.loop-i.unit c.loop-i.i c.byte_at.result ∙ c.loop-i.invariant.1,
    )

pub returns : goal.returns
returns c =
    let all : 16 ≤ c.loop-i.i = search rules in
    target-is (text_bytes (texts_told c.args.block.now c.args.spans.now)) c.args.at c.loop-i.unit c.requires.within
    c.loop-i.invariant.1 (λ k below. c.loop-i.invariant.0 k (omega (arith, below, all)))
