use Rattle.std.proofs.Common.{◌+◌, ◌*◌, ◌≤◌, length, ap, sym, subst, ◌∙◌}
use Rattle.mf_edge.specs.Spill.{part_limit}
use Rattle.unit_rows.proofs.RunsOf.{rows-counted}
use Rattle.unit_rows.proofs.give.put_units.Goals as goal

pub returns-clause-within : goal.returns-clause-within
returns-clause-within g c fits =
    c.put_rows.ensures.within (subst (λ n. g.K.RowKind.kind.width * (length c.args.out.now.rows + n) ≤ part_limit)
    (sym (ap length c.of-rows.ensures ∙ rows-counted (g.K.UnitRow.with_unit c.args.like.now) c.args.units.now)) fits)
