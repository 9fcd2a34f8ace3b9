-- The points of one way among those of all ways.
use Rattle.std.proofs.Common.{◌≡◌, ℕ, ◌<◌, List, [], ◌∷◌, ◌++◌, refl, sym, ap, ◌∙◌, arith, append-nil, eq-eqb, ne_eqb}
use Rattle.std.specs.Prelude.{flat_map}
use Rattle.std.specs.List.{AllByRecursion}
use Rattle.mf_base.proofs.Pairs.{EachPair}
use Rattle.osm_model.specs.Entities.{Entity, Way, ways_of}
use Rattle.osm_model.specs.Order.{IsRising}
use Rattle.row_runs.specs.Runs.{rows_with}
use Rattle.way_points.specs.PointRows.{point_way, way_point_rows, point_rows}
use Rattle.way_points.proofs.InOrder.{ways-rise, rows-own}

-- of lists, each with a number of its own, the rows of a number are its list
module _ {W K : Type 0} (id : W → ℕ) (key : K → ℕ) (rows : W → List K)
    (own : (w : W) → AllByRecursion (λ (r : K). key r ≡ id w) (rows w)) where
  all_kept : (k : ℕ) (front rest : List K) → AllByRecursion (λ (r : K). key r ≡ k) front
      → rows_with key k (front ++ rest) ≡ front ++ rows_with key k rest
  all_kept k [] rest all = refl
  all_kept k (r ∷ front) rest all = rw (eq-eqb (key r) k all.0) (ap (λ l. r ∷ l) (all_kept k front rest all.1))

  none_kept : (k j : ℕ) (front rest : List K) → (j ≡ k → ⊥) → AllByRecursion (λ (r : K). key r ≡ j) front
      → rows_with key k (front ++ rest) ≡ rows_with key k rest
  none_kept k j [] rest other all = refl
  none_kept k j (r ∷ front) rest other all =
      rw (ne_eqb (key r) k (λ e. other (sym all.0 ∙ e))) (none_kept k j front rest other all.1)

  none_above : (k : ℕ) (ws : List W) → AllByRecursion (λ (w : W). k < id w) ws → rows_with key k (flat_map rows ws) ≡ []
  none_above k [] above = refl
  none_above k (w ∷ ws) above =
      none_kept k (id w) (rows w) (flat_map rows ws) (λ e. omega (arith, e, above.0)) (own w)
      ∙ none_above k ws above.1

  others : (w : W) (ws vs : List W) → AllByRecursion (λ (v : W). id w < id v) vs
      → AllByRecursion (λ (v : W). rows_with key (id v) (flat_map rows ws) ≡ rows v) vs
      → AllByRecursion (λ (v : W). rows_with key (id v) (rows w ++ flat_map rows ws) ≡ rows v) vs
  others w ws [] above found = tt
  others w ws (v ∷ vs) above found = (
    none_kept (id v) (id w) (rows w) (flat_map rows ws) (λ e. omega (arith, e, above.0)) (own w) ∙ found.0,
    others w ws vs above.1 found.1,
  )

  pub rows_of_each : (ws : List W) → EachPair (λ v w. id v < id w) ws
      → AllByRecursion (λ (w : W). rows_with key (id w) (flat_map rows ws) ≡ rows w) ws
  rows_of_each [] rises = tt
  rows_of_each (w ∷ ws) rises = (
    all_kept (id w) (rows w) (flat_map rows ws) (own w)
        ∙ ap (λ l. rows w ++ l) (none_above (id w) ws rises.0)
        ∙ append-nil (rows w),
    others w ws ws rises.0 (rows_of_each ws rises.1),
  )

-- The rows of a way among those of all ways are its points.
pub points_of_way : (entities : List Entity) → IsRising entities
    → AllByRecursion (λ (w : Way). rows_with point_way w.id (point_rows entities) ≡ way_point_rows entities w)
    (ways_of entities)
points_of_way entities rising =
    rows_of_each (λ (w : Way). w.id) point_way (way_point_rows entities) (rows-own entities) (ways_of entities)
    (ways-rise entities rising)
