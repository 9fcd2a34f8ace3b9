-- The members of a tile stand in its order, and the tiles of a rectangle are within it.
use Rattle.std.proofs.Common.{◌≡◌, ℕ, ◌≤◌, List, map, true, inl, inr}
use Rattle.std.proofs.Common.{subst, arith}
use Rattle.std.specs.Prelude.{leb}
use Rattle.std.specs.List.{enumerate_from}
use Rattle.std.proofs.lemmas.Bool.{leb-true, and_parts}
use Rattle.mf_base.specs.declared.tile.Interval.{Interval}
use Rattle.mf_base.specs.declared.tile.TilePlace.{TilePlace}
use Rattle.mf_base.proofs.Pairs.{all_pairs}
use Rattle.feature_model.specs.Features.{Feature}
use Rattle.feature_model.proofs.Rising.{all-imp, all-map, all-from, rises-map, rises-imp, rises-enumerate}
use Rattle.map_model.specs.Members.{members, StandsBefore, StandInOrder}
use Rattle.map_model.specs.NumberedMembers.{numbered_members, is_in_tile}
use Rattle.map_model.specs.Rectangles.{rect_of}
use Rattle.map_model.specs.TileRects.{meets}
use Rattle.map_model.proofs.NumberedMembers.{members-rise, members-all, numbered_members-shown, MemberBelow}

abbrev feature_at : ℕ × Feature → Feature
feature_at p = p.1

-- members by their keys stand one before another
before : (interval : Interval) (p q : ℕ × Feature) → MemberBelow feature_at (λ p. p.0) interval p q
    → StandsBefore interval (feature_at p) (feature_at q)
before interval p q (inl less) = inl less
before interval p q (inr (same, inl less)) = inr (same, omega (arith, less))
before interval p q (inr (same, inr (zoom, number))) = inr (same, omega (arith, zoom))

-- the members of a tile stand in its order
pub members-stand : (features : List Feature) (tile : TilePlace) → StandInOrder tile.interval (members features tile)
members-stand features tile =
    subst (StandInOrder tile.interval) (numbered_members-shown features tile) (record {
      zooms = all-map (λ (f : Feature). f.zoom ≤ tile.interval.max) feature_at (numbered_members features tile)
          (all-imp (λ p. (Unit {0}) × (is_in_tile tile (feature_at p) ≡ true))
          (λ p. (feature_at p).zoom ≤ tile.interval.max) (λ p is. leb-true p.1.zoom tile.interval.max
          (and_parts (leb p.1.zoom tile.interval.max)
          (meets (rect_of p.1) tile.interval.base tile.x tile.y) is.1).0)
          (numbered_members features tile)
          (members-all feature_at (λ p. p.0) (λ p. Unit {0}) (enumerate_from 0 features) tile
          (all-from (λ p. Unit {0}) (λ p. tt) (enumerate_from 0 features))));
      pairs = all_pairs (StandsBefore tile.interval) (map feature_at (numbered_members features tile))
          (rises-map (StandsBefore tile.interval) feature_at (numbered_members features tile)
          (rises-imp (λ p. Unit {0}) (MemberBelow feature_at (λ p. p.0) tile.interval)
          (λ p q. StandsBefore tile.interval (feature_at p) (feature_at q)) (λ p q _ _ below. before tile.interval p q below)
          (numbered_members features tile) (all-from (λ p. Unit {0}) (λ p. tt) (numbered_members features tile))
          (members-rise feature_at (λ p. p.0) (enumerate_from 0 features) tile (rises-enumerate 0 features))));
    })
