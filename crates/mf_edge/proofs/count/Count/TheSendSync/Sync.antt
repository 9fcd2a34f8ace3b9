-- A count has no bytes and owns nothing, so threads may share it.
use denote.Param.Send.{IsSync, part_keyless}
use Rattle.mf_edge.specs.contracts.count.Count.{the_row}
use Rattle.mf_edge.proofs.count.Count.TheSendSync.Send.{send}

pub sync : IsSync the_row
sync = record { shared = λ d b o κ q. part_keyless the_row send q d b o }
