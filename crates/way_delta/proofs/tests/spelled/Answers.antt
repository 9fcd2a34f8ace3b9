use Rattle.std.proofs.Common.{◌≡◌, rules, arith}
use Rattle.way_delta.proofs.OfDesk.{parts-few}
use Rattle.way_delta.proofs.tests.spelled.Goals as goal

pub spelled_of-requires-clause-few : goal.spelled_of-requires-clause-few
spelled_of-requires-clause-few c =
    let room : c.put_relation.new.records.capacity ≡ 64 = search rules in
    parts-few c.put_relation.new.records.records 0 c.view-view.result c.view-view.ensures
    (omega (arith, c.spare.ensures.rest, room))
