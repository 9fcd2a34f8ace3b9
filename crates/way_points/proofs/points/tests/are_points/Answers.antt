use Rattle.std.proofs.Common.{[], ◌∷◌}
use Rattle.mf_rows.specs.Kinds.{node_kind}
use Rattle.spill_parts.specs.Parts.{piece_of}
use Rattle.way_points.proofs.points.tests.are_points.Goals as goal

pub points_of_ways-requires-clause-just : goal.points_of_ways-requires-clause-just
points_of_ways-requires-clause-just g c =
    let none = c.in_ok-start.ensures.empty in (
      [],
      c.in_ok-refs.ensures.just (piece_of node_kind c.in_ok-places.places ∷ []) (c.in_ok-places.ensures.just [] (record {
        started = c.in_ok-start.ensures.ok.started_now;
        count = none.count;
        differ = tt;
        there = tt;
      })),
    )

pub are_rows-requires-clause-held : goal.are_rows-requires-clause-held
are_rows-requires-clause-held g c =
    let none = c.in_ok-start.ensures.empty in
    (c.in_ok-found.ensures.just []
    (c.in_ok-refs.ensures.just (piece_of node_kind c.in_ok-places.places ∷ []) (c.in_ok-places.ensures.just [] (record {
      started = c.in_ok-start.ensures.ok.started_now;
      count = none.count;
      differ = tt;
      there = tt;
    })))).there.0
