use Rattle.std.proofs.Common.{◌≡◌, ◌+◌, ◌^◌, ◌<◌, length}
use Rattle.osm_entity.specs.Members.{members_left}
use Rattle.mf_ingest.specs.LeftRows.{members_from}
use Rattle.mf_ingest.proofs.members.MemberRowsRowsMemberRow.next.Given as goal

abbrev pub invariant-loop-member : goal.invariant-loop-member
invariant-loop-member l = record {
  same : members_from l.self.relation l.self.place (members_left l.self.members)
      ≡ members_from l.fn.self.relation l.fn.self.place (members_left l.fn.self.members);
  few : l.self.place + length (members_left l.self.members) < 2 ^ 32;
}

abbrev pub decreases-loop-member : goal.decreases-loop-member
decreases-loop-member l = length (members_left l.self.members)
