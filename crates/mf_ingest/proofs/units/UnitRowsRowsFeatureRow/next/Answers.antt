use Rattle.std.proofs.Common.{◌≡◌, Some, length, ap, ◌∙◌, arith}
use Rattle.mf_rows.specs.Records.{texts_told}
use Rattle.mf_rows.specs.RecordUnits.{front_count}
use Rattle.mf_ingest.specs.FrontRows.{front_of, front_rows}
use Rattle.mf_ingest.proofs.Records.{rows-long, row-at}
use Rattle.mf_ingest.proofs.RowTurns.{row-given, none-given}
use Rattle.mf_ingest.proofs.units.UnitRowsRowsFeatureRow.next.Goals as goal

pub returns-then-place-first_units : goal.returns-then-place-first_units
returns-then-place-first_units c =
    let d = c.args.self.now.front.now in
    let long : length (front_rows d) ≡ front_count (front_of d) =
    rows-long d.head (texts_told d.texts.block.now d.texts.spans.items) in
    let count : c.first_units.result ≡ front_count (front_of d) = c.first_units.ensures in
    none-given (front_rows d) c.args.self.now.place (omega arith)

pub returns : goal.returns
returns c =
    let d = c.args.self.now.front.now in
    let i = c.args.self.now.place in
    row-given (front_rows d) i c.row_of.result
    (ap Some c.row_of.ensures ∙ row-at d.head (texts_told d.texts.block.now d.texts.spans.items) i
    c.first_unit-unit.result c.first_unit-unit.ensures)
