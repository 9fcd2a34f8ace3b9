-- One edge, and the edges of a ring one after another.
use Rattle.std.proofs.Common.{◌≡◌, ◌⊎◌, inl, inr, ℕ, ℤ, Bool, true, false, List, [], ◌∷◌, drop, length, Some}
use Rattle.std.proofs.Common.{refl, sym, ap, ◌∙◌}
use Rattle.std.specs.Prelude.{◌&&◌, nat_le, int_lt, slice_get, slice_index_or}
use Rattle.std.specs.Int.{int_min, int_max}
use Rattle.std.proofs.lemmas.Bool.{cases_Bool}
use Rattle.std.proofs.lemmas.Option.{none-some, same_Some}
use Rattle.mf_base.specs.declared.place.Place.{Place}
use Rattle.mf_base.specs.declared.tile.TilePlace.{TilePlace}
use Rattle.feature_model.specs.Inside.{Ring}
use Rattle.feature_model.specs.Points.{Point}
use Rattle.feature_model.specs.Blocks.{places}
use Rattle.map_model.specs.Mercator.{row, column}
use Rattle.map_model.specs.Rectangles.{rect_of_places}
use Rattle.map_model.specs.TileRects.{tile_rect, meets}
use Rattle.map_model.specs.Labels.{same_place, is_closed}
use Rattle.map_model.specs.SubFile.{edge_meets}
use Rattle.ring_assembly.proofs.Crossings.{pair_first}
use Rattle.tile_index.specs.Walks.{last_of}

-- ---- an edge

min-self : (z : ℤ) → int_min z z ≡ z
min-self z = by_order (cases_Bool (int_lt z z))
  where
    by_order : (int_lt z z ≡ true) ⊎ (int_lt z z ≡ false) → int_min z z ≡ z
    by_order (inl e) = rw e refl
    by_order (inr e) = rw e refl

max-self : (z : ℤ) → int_max z z ≡ z
max-self z = by_order (cases_Bool (int_lt z z))
  where
    by_order : (int_lt z z ≡ true) ⊎ (int_lt z z ≡ false) → int_max z z ≡ z
    by_order (inl e) = rw e refl
    by_order (inr e) = rw e refl

four : (a b c d : Bool) → (((a && b) && c) && d) ≡ ((a && b) && (c && d))
four true true c d = refl
four true false c d = refl
four false b c d = refl

module _ (tile : TilePlace) (a b : Place) where
  abbrev z : ℕ
  z = tile.interval.base

  -- tile (x, y) lies in these columns, and in these rows
  abbrev in_columns : ℕ → ℕ → Bool
  in_columns west east = nat_le west tile.x && nat_le tile.x east

  abbrev in_rows : ℕ → ℕ → Bool
  in_rows north south = nat_le north tile.y && nat_le tile.y south

  edge-is : edge_meets tile (a, b)
      ≡ (in_columns (column z (int_min a.lon b.lon)) (column z (int_max a.lon b.lon))
      && in_rows (row z (int_max a.lat b.lat)) (row z (int_min a.lat b.lat)))
  unfolding meets tile_rect rect_of_places
  edge-is =
      ap (λ w. ((nat_le (column z (int_min w b.lon)) tile.x
      && nat_le tile.x (column z (int_max (int_max a.lon a.lon) b.lon)))
      && nat_le (row z (int_max (int_max a.lat a.lat) b.lat)) tile.y)
      && nat_le tile.y (row z (int_min (int_min a.lat a.lat) b.lat))) (min-self a.lon)
      ∙ ap (λ w. ((nat_le (column z (int_min a.lon b.lon)) tile.x && nat_le tile.x (column z (int_max w b.lon)))
      && nat_le (row z (int_max (int_max a.lat a.lat) b.lat)) tile.y)
      && nat_le tile.y (row z (int_min (int_min a.lat a.lat) b.lat))) (max-self a.lon)
      ∙ ap (λ w. ((nat_le (column z (int_min a.lon b.lon)) tile.x
      && nat_le tile.x (column z (int_max a.lon b.lon))) && nat_le (row z (int_max w b.lat)) tile.y)
      && nat_le tile.y (row z (int_min (int_min a.lat a.lat) b.lat))) (max-self a.lat)
      ∙ ap (λ w. ((nat_le (column z (int_min a.lon b.lon)) tile.x
      && nat_le tile.x (column z (int_max a.lon b.lon))) && nat_le (row z (int_max a.lat b.lat)) tile.y)
      && nat_le tile.y (row z (int_min w b.lat))) (min-self a.lat)
      ∙ four (nat_le (column z (int_min a.lon b.lon)) tile.x) (nat_le tile.x (column z (int_max a.lon b.lon)))
      (nat_le (row z (int_max a.lat b.lat)) tile.y) (nat_le tile.y (row z (int_min a.lat b.lat)))

  module _ (west east north south : ℕ) (is_west : west ≡ column z (int_min a.lon b.lon))
      (is_east : east ≡ column z (int_max a.lon b.lon)) (is_north : north ≡ row z (int_max a.lat b.lat))
      (is_south : south ≡ row z (int_min a.lat b.lat)) where
    edge-of : edge_meets tile (a, b) ≡ (in_columns west east && in_rows north south)
    edge-of = edge-is
        ∙ ap (λ w. in_columns w (column z (int_max a.lon b.lon))
        && in_rows (row z (int_max a.lat b.lat)) (row z (int_min a.lat b.lat))) (sym is_west)
        ∙ ap (λ w. in_columns west w && in_rows (row z (int_max a.lat b.lat)) (row z (int_min a.lat b.lat)))
        (sym is_east)
        ∙ ap (λ w. in_columns west east && in_rows w (row z (int_min a.lat b.lat))) (sym is_north)
        ∙ ap (λ w. in_columns west east && in_rows north w) (sym is_south)

    pub edge-then : (columns rows : Bool) → columns ≡ in_columns west east → rows ≡ in_rows north south
        → columns ≡ true → rows ≡ edge_meets tile (a, b)
    edge-then columns rows is_columns is_rows holds =
        is_rows ∙ ap (λ w. w && in_rows north south) (sym holds ∙ is_columns) ∙ sym edge-of

    pub edge-else : (columns : Bool) → columns ≡ in_columns west east → columns ≡ false
        → columns ≡ edge_meets tile (a, b)
    edge-else columns is_columns fails =
        fails ∙ ap (λ w. w && in_rows north south) (sym fails ∙ is_columns) ∙ sym edge-of

-- ---- the last place of a ring

last-at : (first : Place) (behind : Ring) (other : Place)
    → slice_index_or (first ∷ behind) (length behind) other ≡ last_of first behind
last-at first [] other = refl
last-at first (next ∷ behind) other = last-at next behind other

pub closed-is : (points : List Point) (found : ℕ × Place) (later : List Point) (last : Place) (same : Bool)
    → Some found ≡ pair_first (slice_get points 0) → later ≡ drop 1 points
    → last ≡ last_of found.1 (places later) → same ≡ same_place found.1 last → same ≡ is_closed (places points)
closed-is [] found later last same head tail is_last is = absurd (none-some _ (sym head))
closed-is (q ∷ points) found later last same head tail is_last is =
    let one : found.1 ≡ q.place = ap (λ (f : ℕ × Place). f.1) (same_Some found (q.node, q.place) head) in
    is ∙ ap (same_place found.1) (is_last ∙ ap (λ (ps : List Point). last_of found.1 (places ps)) tail)
    ∙ ap (λ (p : Place). same_place p (last_of p (places points))) one
    ∙ ap (same_place q.place) (sym (last-at q.place (places points) q.place))
