use Rattle.std.proofs.Common.{[], ◌∷◌}
use Rattle.mf_rows.specs.Kinds.{member_kind}
use Rattle.spill_parts.specs.Parts.{piece_of}
use Rattle.member_points.proofs.points.tests.are_made.Goals as goal

pub points_of_members-requires-clause-just : goal.points_of_members-requires-clause-just
points_of_members-requires-clause-just g c =
    let none = c.in_ok-start.ensures.empty in (
      [],
      c.in_ok-points.ensures.just (piece_of member_kind c.in_ok-members.members ∷ []) (c.in_ok-members.ensures.just [] (record {
        started = c.in_ok-start.ensures.ok.started_now;
        count = none.count;
        differ = tt;
        there = tt;
      })),
    )

pub are_rows-requires-clause-held : goal.are_rows-requires-clause-held
are_rows-requires-clause-held g c =
    let none = c.in_ok-start.ensures.empty in
    (c.in_ok-found.ensures.just []
    (c.in_ok-points.ensures.just (piece_of member_kind c.in_ok-members.members ∷ []) (c.in_ok-members.ensures.just [] (record {
      started = c.in_ok-start.ensures.ok.started_now;
      count = none.count;
      differ = tt;
      there = tt;
    })))).there.1.0
