use Rattle.std.proofs.Common.{◌≡◌, ◌<◌, ◌∙◌, sym, ap, refl, subst, rules, Err, [], length}
use Rattle.std.proofs.lemmas.List.{nil_from_length}
use Rattle.osm_model.specs.Wire.{fields, field_front}
use Rattle.osm_model.specs.Reading.{then_reads}
use Rattle.osm_model.proofs.MessageLaws.{fields-nil, fields-more}
use Rattle.std.proofs.lemmas.List.{take_rest}
use Rattle.pbf_wire.proofs.FieldReads.{gives-next_fault}
use Rattle.pbf_wire.proofs.fields.Fields.next.Goals as goal

pub returns-then-is_empty-clause-reads : goal.returns-then-is_empty-clause-reads
returns-then-is_empty-clause-reads c =
    let none : c.self.inside.rest.now ≡ [] = nil_from_length _ (search rules) in
    (ap fields (sym c.self.view_is ∙ none) ∙ fields-nil, refl)

pub returns-in_err-field-clause-reads : goal.returns-in_err-field-clause-reads
returns-in_err-field-clause-reads c =
    let e : c.from_residual.result ≡ Err c.in_err-field.field-0.0 = search rules in
    let some : 0 < length c.self.inside.rest.now = search rules in
    gives-next_fault _ _ _ (subst (λ b. 0 < length b) c.self.view_is some) e (sym (ap field_front c.self.view_is)
    ∙ (c.in_err-field.ensures {u = tt}).front)

pub returns-clause-reads : goal.returns-clause-reads
returns-clause-reads c =
    let (field, shows, read) = (c.in_ok-field.ensures {u = tt}).front in
    let bytes = c.self.inside.rest.now in (
      field,
      shows,
      ap fields (sym c.self.view_is) ∙ fields-more bytes field c.in_ok-field.size read
          ∙ ap (λ b. then_reads field (fields b)) (sym (take_rest bytes c.in_ok-field.size)),
    )
