use Rattle.std.proofs.Common.{◌≡◌, ◌≤◌, ◌+◌, ◌*◌, ◌^◌, sum, drop}
use Rattle.mf_compile.specs.Jobs.{desk_rooms, rows_in_use}
use Rattle.mf_compile.proofs.laws.spare_rows.Given as goal

abbrev pub invariant-loop-desk : goal.invariant-loop-desk
invariant-loop-desk l = record {
  rest : l.spare + rows_in_use l.desks + sum (desk_rooms (drop l.desk-index l.desks))
      ≡ sum (desk_rooms l.desks) + rows_in_use (drop l.desk-index l.desks);
  few : l.spare ≤ l.desk-index * 2 ^ 32;
}
