use Rattle.std.proofs.Common.{◌∙◌, ◌-◌, ◌∷◌, length, arith, subst, sym}
use Rattle.mf_rows.specs.Units.{Unit16}
use Rattle.ring_assembly.specs.PutBack.{Puts}
use Rattle.ring_assembly.proofs.Putting.{puts-part, unit-is}
use Rattle.ring_assembly.proofs.put_back.put_ring.Goals as goal

pub returns : goal.returns
returns c =
    let at = c.args.end - length c.args.points.now - 1 in
    subst (λ (u : Unit16). Puts c.args.records.now c.put_points.new.records at c.args.end (u ∷ c.args.points.now))
    (c.part_unit.ensures ∙ sym (unit-is c.args.role (length c.args.points.now)))
    (puts-part c.args.records.now c.set_loose.new.self c.put_points.new.records at c.args.end c.part_unit.result
    c.args.points.now c.requires.within (omega (arith, c.requires.room)) c.set_loose.ensures c.put_points.ensures)
