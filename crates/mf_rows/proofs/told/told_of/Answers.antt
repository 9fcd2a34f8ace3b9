use Rattle.std.proofs.Common.{rules, ◌≡◌, ◌<◌, ◌^◌, ◌∙◌, sym, refl, length, ap, ◌+◌, ◌/◌, true, []}
use Rattle.std.specs.Prelude.{is_some, unwrap_or, drop}
use Rattle.mf_rows.specs.Records.{drawn_parts}
use Rattle.mf_rows.specs.Heads.{HeadTold}
use Rattle.mf_rows.specs.RecordUnits.{units_for, is_behind, last_place}
use Rattle.mf_rows.proofs.ToldLaws.{told-is}
use Rattle.mf_rows.proofs.told.told_of.Goals as goal

pub returns-in-Some-clause-some : goal.returns-in-Some-clause-some
returns-in-Some-clause-some c =
    let t : HeadTold = record { head = c.args.head; texts = c.args.texts } in
    let few : length c.args.units.now < 2 ^ 63 = search rules in
    let holds : is_behind t c.args.units.now ≡ true = sym c.last_behind.ensures.there ∙ ap is_some c.in-Some.is in
    told-is t c.args.units.now
    (record {
      head = c.args.head;
      lengths = c.args.texts;
      texts = (c.laid_texts-size.result.size + 15) / 16;
      part = c.in-Some.part;
    }) c.told-units few refl refl
    (ap units_for c.laid_texts-size.ensures.size) (c.in-Some.ensures.place
    ∙ ap (λ n. last_place (unwrap_or (drawn_parts c.args.head.kind (drop (units_for n) c.args.units.now)) []))
    c.laid_texts-size.ensures.size) holds
