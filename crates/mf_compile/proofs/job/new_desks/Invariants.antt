use Rattle.std.proofs.Common.{◌≡◌, ◌≤◌, replicate, vec_len, vec_capacity}
use Rattle.mf_compile.specs.Jobs.{desk_rooms}
use Rattle.mf_compile.proofs.job.new_desks.Given as goal

abbrev pub invariant-loop : goal.invariant-loop
invariant-loop l = record {
  rooms : desk_rooms l.desks.items ≡ replicate l.counter l.rows;
  many : vec_len l.desks ≡ l.counter;
  room : l.count ≤ vec_capacity l.desks;
}
