use Rattle.std.proofs.Common.{◌≡◌, ◌∙◌, ap, rules, length, ℕ}
use Rattle.std.proofs.lemmas.List.{nil_from_length}
use Rattle.mf_base.specs.declared.place.Place.{Place}
use Rattle.ring_assembly.proofs.LastRings.{home-first, home-empty}
use Rattle.ring_assembly.proofs.laid.home_of.Goals as goal

pub returns-in-Some : goal.returns-in-Some
returns-in-Some c = λ laid are count.
    c.first_around.ensures laid are count
    ∙ home-first laid c.args.points.now c.in-Some.unit.now c.read_point_unit.result.1 c.in-Some.ensures.value
    (ap (λ (r : ℕ × Place). r.1) c.read_point_unit.ensures)

pub returns-in-None : goal.returns-in-None
returns-in-None c = λ laid are count.
    let none : length c.args.points.now ≡ 0 = search rules in
    home-empty laid c.args.points.now (nil_from_length c.args.points.now none)
