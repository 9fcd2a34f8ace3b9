use Rattle.std.proofs.Common.{rules, ◌≡◌, ◌-◌, ◌*◌, ◌≤◌, ◌++◌, take, drop, replicate}
use Rattle.mf_rows.specs.Records.{texts_told}
use Rattle.mf_rows.specs.RecordUnits.{text_bytes}
use Rattle.mf_rows.specs.FirstUnits.{front_record}
use Rattle.mf_rows.proofs.FirstUnits.{text-unit}
use Rattle.mf_rows.proofs.first_units.first_unit.Goals as goal

pub returns-else-i-lt10 : goal.returns-else-i-lt10
returns-else-i-lt10 c =
    let texts = texts_told c.args.texts.now.block.now c.args.texts.now.spans.items in
    let past : 10 ≤ c.args.i = search rules in
    let is : c.text_unit.result ≡ take 16 (drop (16 * (c.args.i - 10)) (text_bytes texts ++ replicate 16 0)) =
    search rules in
    text-unit (front_record c.args.head.now texts) c.args.i c.text_unit.result past c.requires.within is
