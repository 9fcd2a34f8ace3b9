use Rattle.std.proofs.Common.{◌≡◌, ℕ, ◌+◌, length, refl, sym, ap, ◌∙◌, arith}
use Rattle.std.proofs.lemmas.List.{length-append}
use Rattle.mf_rows.specs.Desks.{units_in}
use Rattle.mf_rows.specs.Units.{Unit16}
use Rattle.mf_rows.specs.declared.kinds.ShapeRow.{ShapeRow}
use Rattle.unit_rows.specs.Runs.{rows_of}
use Rattle.spill_parts.specs.Shaped.{shape_row_of}
use Rattle.unit_rows.proofs.RunsOf.{rows-counted}
use Rattle.mf_shape.proofs.Made.{made-spells, made-many, all-many}
use Rattle.mf_shape.proofs.nodes.put_feature.Goals as goal

pub put_units-requires-clause-few : goal.put_units-requires-clause-few
put_units-requires-clause-few g c =
    let d = c.args.records.now in
    let many : length c.units.result.now ≡ length d.loose =
    all-many d c.close_record.new.self c.set_feature.new.self c.args.counts.now.features c.args.weight
    c.units.result.now c.requires.none c.close_record.ensures.closed c.close_record.ensures.used
    c.set_feature.ensures.set c.units.ensures.spelled c.units.ensures.many
    (sym c.close_record.ensures.is ∙ c.if-not-close_record.false) in
    let none : units_in d.records ≡ 0 = ap units_in c.requires.none in
    omega (arith, many, none, c.spare.ensures.rest, c.spare.ensures.most)

pub returns-clause-made : goal.returns-clause-made
returns-clause-made g c r loose =
    let d = c.args.records.now in
    let n = c.args.counts.now.features in
    record {
      made = record {
        told = _;
        units = c.units.result.now;
        spells = made-spells d c.close_record.new.self c.set_feature.new.self n c.args.weight c.units.result.now
            c.requires.none c.close_record.ensures.closed c.close_record.ensures.used c.set_feature.ensures.set
            c.units.ensures.spelled c.units.ensures.many r loose;
      };
      told = refl;
      many = made-many d c.close_record.new.self c.set_feature.new.self n c.args.weight c.units.result.now
          c.requires.none c.close_record.ensures.closed c.close_record.ensures.used c.set_feature.ensures.set
          c.units.ensures.spelled c.units.ensures.many r loose;
      put = c.in_ok-put_units.ensures.put.rows_now;
      counts = ap (λ m. record { features = n + 1; skipped = c.args.counts.now.skipped; largest = m })
          c.max-counts.ensures;
    }

pub returns-clause-longer : goal.returns-clause-longer
returns-clause-longer g c =
    let d = c.args.records.now in
    let n = c.args.counts.now.features in
    let row : ℕ → Unit16 → ShapeRow = λ place unit. shape_row_of n (place, unit) in
    let many : length c.units.result.now ≡ length d.loose =
    all-many d c.close_record.new.self c.set_feature.new.self n c.args.weight
    c.units.result.now c.requires.none c.close_record.ensures.closed c.close_record.ensures.used
    c.set_feature.ensures.set c.units.ensures.spelled c.units.ensures.many
    (sym c.close_record.ensures.is ∙ c.if-not-close_record.false) in
    omega (
      arith,
      many,
      ap length c.in_ok-put_units.ensures.put.rows_now,
      length-append c.args.out.now.rows (rows_of row c.units.result.now),
      rows-counted row c.units.result.now,
    )
