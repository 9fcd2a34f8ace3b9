use Rattle.tile_index.proofs.Edges.{closed-is}
use Rattle.tile_index.proofs.water.is_closed.Goals as goal

pub returns-in-Some : goal.returns-in-Some
returns-in-Some c =
    closed-is c.args.points _ c.next.new.self c.last_place.result c.is_same.result c.in-Some.ensures.first
    c.next.ensures.rest c.last_place.ensures c.is_same.ensures
