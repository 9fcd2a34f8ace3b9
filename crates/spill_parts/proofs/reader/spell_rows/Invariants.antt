use Rattle.std.proofs.Common.{◌≡◌, ◌*◌, length, take}
use Rattle.std.specs.List.{AllByRecursion}
use Rattle.mf_rows.specs.RowKinds.{IsOf, rows_bytes}
use Rattle.spill_parts.proofs.reader.spell_rows.Given as goal

abbrev pub invariant-loop-row : goal.invariant-loop-row
invariant-loop-row g l = record {
  place : l.at ≡ g.K.RowKind.kind.width * l.row-index;
  same_length : length l.room ≡ length l.fn.room;
  bytes : take l.at l.room ≡ rows_bytes g.K.RowKind.kind (take l.row-index l.rows);
  known : AllByRecursion (IsOf g.K.RowKind.kind) (take l.row-index l.rows);
}
