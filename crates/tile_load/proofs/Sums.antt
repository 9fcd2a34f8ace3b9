-- What members of a tile weigh together.
use Rattle.std.proofs.Common.{◌≡◌, ℕ, suc, ◌+◌, ◌-◌, ◌≤◌, ◌<◌, true, false, List, [], ◌∷◌, ◌++◌, ap, ◌∙◌}
use Rattle.std.proofs.Common.{inl, inr, arith}
use Rattle.std.specs.Prelude.{Bool, cond, flat_map, filter, sum_by}
use Rattle.std.specs.List.{range_with_len}
use Rattle.std.proofs.lemmas.Bool.{cases_lt}
use Rattle.mf_base.specs.declared.tile.TilePlace.{TilePlace}
use Rattle.feature_model.specs.Features.{Feature}
use Rattle.feature_model.proofs.Totals.{total, total-append, sum-total}
use Rattle.map_model.specs.Intervals.{zooms}
use Rattle.map_model.specs.NumberedMembers.{is_in_tile, members_by, in_tile_order_by, of_zoom_by}
use Rattle.map_model.specs.Members.{is_poi, is_way}
use Rattle.map_model.proofs.NumberedMembers.{members-total}

-- some, one more, and others
pub sum-parts : {X : Type 0} (f : X → ℕ) (done more : List X) (x : X)
    → sum_by f (done ++ x ∷ more) ≡ sum_by f done + f x + sum_by f more
sum-parts f done more x =
    let all = sum-total f (done ++ x ∷ more) in
    let parts = total-append f done (x ∷ more) in
    let front = sum-total f done in
    let behind = sum-total f more in
    omega (arith, all, parts, front, behind)

-- one more
pub sum-more : {X : Type 0} (f : X → ℕ) (done : List X) (x : X) → sum_by f (done ++ x ∷ []) ≡ sum_by f done + f x
sum-more f done x = sum-parts f done [] x ∙ omega arith

part-le : {X : Type 0} (f : X → ℕ) (p : X → Bool) (xs : List X) → total (λ x. cond (p x) (f x) 0) xs ≤ total f xs
part-le f p [] = omega arith
part-le f p (x ∷ xs) = by_test (p x) (part-le f p xs)
  where
    by_test : (b : Bool) → total (λ x. cond (p x) (f x) 0) xs ≤ total f xs
        → cond b (f x) 0 + total (λ x. cond (p x) (f x) 0) xs ≤ f x + total f xs
    by_test true more = omega (arith, more)
    by_test false more = omega (arith, more)

module _ {R : Type 0} (shown : R → Feature) (f : R → ℕ) where
  -- an interval that ends before it begins has no zoom levels, and so no members
  none-there : (list : List R) (tile : TilePlace) → tile.interval.max < tile.interval.min
      → members_by shown list tile ≡ []
  unfolding members_by in_tile_order_by
  none-there list tile past =
      let none : suc tile.interval.max - tile.interval.min ≡ 0 = omega (arith, past) in
      let no_zooms : zooms tile.interval ≡ [] = ap (range_with_len tile.interval.min) none in
      λ i. flat_map (λ zoom. of_zoom_by shown tile.interval zoom (filter (λ r. is_poi (shown r)) here)) (no_zooms i)
      ++ flat_map (λ zoom. of_zoom_by shown tile.interval zoom (filter (λ r. is_way (shown r)) here)) (no_zooms i)
    where
      here : List R
      here = filter (λ r. is_in_tile tile (shown r)) list

  -- the members of a tile are no more than all
  pub members-within : (list : List R) (tile : TilePlace) → sum_by f (members_by shown list tile) ≤ sum_by f list
  members-within list tile = elim (cases_lt tile.interval.max tile.interval.min) [
    | inl past ↦
        let none : sum_by f (members_by shown list tile) ≡ 0 = ap (sum_by f) (none-there list tile past) in
        omega (arith, none)
    | inr range ↦
        let members = sum-total f (members_by shown list tile) in
        let all = sum-total f list in
        let part = members-total shown f f list tile range in
        let le = part-le f (λ r. is_in_tile tile (shown r)) list in
        omega (arith, members, all, part, le)
  ]
