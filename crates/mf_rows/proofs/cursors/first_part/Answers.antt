use Rattle.std.proofs.Common.{rules, ◌≡◌, ◌∙◌, ap, length}
use Rattle.std.proofs.lemmas.List.{nil_from_length}
use Rattle.mf_rows.specs.Units.{parts_in}
use Rattle.mf_rows.proofs.Parts.{parts_in-none}
use Rattle.mf_rows.proofs.cursors.first_part.Goals as goal

pub returns-in-None-clause-none : goal.returns-in-None-clause-none
returns-in-None-clause-none c = λ none.
    let empty : length c.args.units.now ≡ 0 = search rules in
    ap parts_in (nil_from_length c.args.units.now empty) ∙ parts_in-none
