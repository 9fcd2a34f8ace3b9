use Rattle.std.proofs.Common.{◌∙◌, ap, rules, []}
use Rattle.std.specs.Prelude.{slice_index_or}
use Rattle.ring_assembly.proofs.Takings.{used-there}
use Rattle.ring_assembly.proofs.parts.use_up.Goals as goal

pub returns : goal.returns
returns c =
    used-there c.args.records.now c.set_loose.new.self c.args.at _ c.used_unit-unit.result [] c.set_loose.ensures
    (search rules)
    (λ state points there. c.used_unit-unit.ensures state points
    (ap (λ us. slice_index_or us c.args.at []) c.loose.ensures ∙ there))
