use Rattle.std.proofs.Common.{◌≡◌, ◌∙◌, sym, ap, refl, rules, Err, ◌%◌, ◌/◌}
use Rattle.std.proofs.lemmas.List.{take_rest}
use Rattle.osm_model.specs.Wire.{value_front}
use Rattle.pbf_wire.specs.Shown.{ShowsField}
use Rattle.pbf_wire.proofs.FieldReads.{gives-fault, front-no_key, front-no_number, front-no_value, front-field}
use Rattle.pbf_wire.proofs.fields.first_field.Goals as goal

pub returns-in_err-key-clause-front : goal.returns-in_err-key-clause-front
returns-in_err-key-clause-front c =
    let e : c.from_residual.result ≡ Err c.in_err-key.field-0.0 = search rules in
    gives-fault ShowsField _ _ _ e (front-no_key c.args.bytes.now _ (sym (c.in_err-key.ensures {u = tt}).front))

pub returns-then-number-lt1-clause-front : goal.returns-then-number-lt1-clause-front
returns-then-number-lt1-clause-front c =
    front-no_number c.args.bytes.now _ _ (sym (c.in_ok-key.ensures {u = tt}).front) c.then-number-lt1.either

pub returns-in_err-value-clause-front : goal.returns-in_err-value-clause-front
returns-in_err-value-clause-front c =
    let e : c.from_residual-in_err-value.result ≡ Err c.in_err-value.field-0.0 = search rules in
    let value = sym (ap (value_front (c.in_ok-key.key % 8)) (take_rest c.args.bytes.now c.in_ok-key.at))
    ∙ (c.in_err-value.ensures {u = tt}).front in
    gives-fault ShowsField _ _ _ e
    (front-no_value c.args.bytes.now _ _ _
    (sym (c.in_ok-key.ensures {u = tt}).front) c.if-number-lt1.false c.if-number-ge-FIELD_NUMBER_LIMIT.false value)

pub returns-clause-front : goal.returns-clause-front
returns-clause-front c =
    let (value, shows, read) = (c.in_ok-value.ensures {u = tt}).front in
    let front = sym (ap (value_front (c.in_ok-key.key % 8)) (take_rest c.args.bytes.now c.in_ok-key.at)) ∙ read in (
      record { number = c.in_ok-key.key / 8; value = value },
      (refl, shows),
      front-field c.args.bytes.now _ _ value _
          (sym (c.in_ok-key.ensures {u = tt}).front) c.if-number-lt1.false c.if-number-ge-FIELD_NUMBER_LIMIT.false
          front,
    )
