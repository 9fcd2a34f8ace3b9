use Rattle.std.proofs.Common.{◌≡◌, ℕ, ◌+◌, ◌<◌, length}
use Rattle.std.proofs.Math.ListN.{get_or}
use Rattle.mf_rows.specs.Records.{texts_told}
use Rattle.mf_rows.specs.RecordUnits.{text_bytes}
use Rattle.mf_rows.proofs.first_units.text_unit.Given as goal

abbrev pub invariant-loop-i : goal.invariant-loop-i
invariant-loop-i l =
    ((k : ℕ) → k < l.i → get_or l.unit k 0 ≡ get_or (text_bytes (texts_told l.block l.spans)) (l.at + k) 0)
    × (length l.unit ≡ 16)
