use Rattle.std.proofs.Common.{◌∙◌, ap, ℕ}
use Rattle.mf_base.specs.declared.place.Place.{Place}
use Rattle.ring_assembly.proofs.Marks.{last-told}
use Rattle.ring_assembly.proofs.parts.last_node.Goals as goal

pub returns-in-Some : goal.returns-in-Some
returns-in-Some c =
    ap (λ (r : ℕ × Place). r.0) c.read_point_unit.ensures
    ∙ last-told c.args.points.now c.in-Some.unit.now c.in-Some.ensures.value
