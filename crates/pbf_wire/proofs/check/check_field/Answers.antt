use Rattle.std.proofs.Common.{◌∙◌, sym}
use Rattle.pbf_wire.proofs.CheckReads.{notes-more, field-checked, field-unknown}
use Rattle.pbf_wire.proofs.check.check_field.Goals as goal

pub returns-in-Some-clause-exact : goal.returns-in-Some-clause-exact
returns-in-Some-clause-exact c before shown (number, shows) notes =
    let place = sym c.place_of.ensures ∙ c.in-Some.is in
    field-checked _ before shown _ _ _ _ number place (c.check_value.ensures before shown.value shows (notes _ _ place))

pub returns-in-Some-clause-notes : goal.returns-in-Some-clause-notes
returns-in-Some-clause-notes c before notes =
    notes-more _ _ _ _ _ c.requires.same notes (sym c.place_of.ensures ∙ c.in-Some.is)

pub returns-in-None-clause-exact : goal.returns-in-None-clause-exact
returns-in-None-clause-exact c before shown (number, shows) notes =
    field-unknown _ before shown _ number (sym c.place_of.ensures ∙ c.in-None.is)
