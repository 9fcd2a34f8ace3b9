use Rattle.std.proofs.Common.{◌/◌, ◌^◌, ◌-◌, ◌∙◌, ap, ℕ, w32}
use Rattle.std.proofs.lemmas.Int.{to_z-of_z}
use Rattle.map_model.specs.Mercator.{fine_row, row}
use Rattle.mercator_rows.proofs.rows.Rows.row.Goals as goal

pub returns : goal.returns
unfolding row
returns c = ap (λ (k : ℕ). k / 2 ^ (18 - c.args.z)) (c.fine_row.ensures
    ∙ ap fine_row (to_z-of_z w32 c.args.lat c.ranges.lat))
