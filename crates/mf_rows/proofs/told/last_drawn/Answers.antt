use Rattle.std.proofs.Common.{rules, ◌≡◌, ◌<◌, ◌^◌, sym, subst, length, []}
use Rattle.std.specs.Prelude.{IfSome, unwrap_or}
use Rattle.mf_rows.specs.Records.{drawn_parts}
use Rattle.mf_rows.specs.RecordUnits.{last_place}
use Rattle.mf_rows.proofs.ToldLaws.{line-place}
use Rattle.mf_rows.proofs.told.last_drawn.Goals as goal

pub returns-in-Way-clause-place : goal.returns-in-Way-clause-place
returns-in-Way-clause-place c =
    let few : length c.args.units.now < 2 ^ 63 = search rules in
    subst (λ kind. IfSome c.then_some-in-Way.result
    (λ n. n ≡ last_place (unwrap_or (drawn_parts kind c.args.units.now) []))) (sym c.in-Way.is)
    (line-place c.is_line.result c.args.units.now c.then_some-in-Way.result c.is_line.ensures few
    c.then_some-in-Way.ensures)
