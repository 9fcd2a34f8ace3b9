use Rattle.way_delta.proofs.Rings.{head-room, head-few, ring-room, puts-ring, puts-rings_all}
use Rattle.way_delta.proofs.put.put_rings.Goals as goal

pub put_head-requires-clause-few : goal.put_head-requires-clause-few
put_head-requires-clause-few c =
    head-few _ _ _ _ c.in-Some.role c.in-Some.points _ _ _ _ c.in-Some.ensures.first c.in-Some.ensures.rest
    c.loop-role.invariant c.requires.room

pub put_head-requires-clause-room : goal.put_head-requires-clause-room
put_head-requires-clause-room c =
    head-room _ _ _ _ c.in-Some.role c.in-Some.points _ _ _ _ c.in-Some.ensures.first c.in-Some.ensures.rest
    c.loop-role.invariant c.requires.room

pub put_ring-requires-clause-room : goal.put_ring-requires-clause-room
put_ring-requires-clause-room c =
    ring-room _ _ _ _ c.in-Some.role c.in-Some.points _ _ _ _ c.in-Some.ensures.first c.in-Some.ensures.rest
    c.loop-role.invariant c.requires.room _ c.put_head.ensures.appends

pub loop-role-preserved : goal.loop-role-preserved
loop-role-preserved c =
    puts-ring _ _ _ _ c.in-Some.role c.in-Some.points _ _ _ _ c.in-Some.ensures.first c.in-Some.ensures.rest
    c.loop-role.invariant c.requires.room _ _ _ c.put_head.ensures.appends c.put_head.ensures.ahead
    c.put_ring.ensures.appends

pub returns : goal.returns
returns c = record { appends = puts-rings_all _ _ _ _ _ _ _ c.in_default.ensures.first c.loop-role.invariant }
