-- The nodes of DenseNodes, one after another: the reader of entities goes through them by these laws.
use Rattle.std.proofs.Common.{◌≡◌, ◌≢◌, ◌⊎◌, inl, inr, ◌∙◌, ◌==◌, ℕ, List, [], ◌∷◌, length, refl, ap, Err, Option, ℤ}
use Rattle.std.proofs.Common.{pos, ◌+ℤ◌}
use Rattle.std.proofs.lemmas.Bool.{eq-eqb, ne_eqb, and_left, and_right}
use Rattle.osm_model.specs.declared.faults.EntityFault.TheVariants.{Columns}
use Rattle.osm_model.specs.Blocks.{PrimitiveBlock}
use Rattle.osm_model.specs.Objects.{TagRun, running_sums, running_sums_from, runs_of, next_run, other_runs, left_over}
use Rattle.osm_model.specs.Objects.{dense_node, zip_three, with_runs, dense_from, dense_columns}
use Rattle.osm_model.proofs.ColumnLaws.{column_from-cons}

pub columns-from : (b : PrimitiveBlock) (ids lats lons : List ℤ) (keys_vals : List ℕ) → length ids ≡ length lats
    → length ids ≡ length lons
    → dense_columns b ids lats lons keys_vals ≡ dense_from b (pos 0, pos 0, pos 0) ids lats lons (runs_of keys_vals)
unfolding dense_columns
columns-from b ids lats lons keys_vals e f =
    rw (eq-eqb (length ids) (length lats) e, eq-eqb (length ids) (length lons) f) refl

pub from-end : (b : PrimitiveBlock) (n : ℤ × ℤ × ℤ) (runs : Option (List TagRun))
    → dense_from b n [] [] [] runs ≡ left_over runs
unfolding dense_from with_runs running_sums
from-end b (id, lat, lon) runs = refl

pub from-next : (b : PrimitiveBlock) (n d : ℤ × ℤ × ℤ) (ids lats lons : List ℤ) (runs : Option (List TagRun))
    → dense_from b n (d.0 ∷ ids) (d.1 ∷ lats) (d.2 ∷ lons) runs
    ≡ dense_node b (n.0 +ℤ d.0, n.1 +ℤ d.1, n.2 +ℤ d.2) (next_run runs)
    ∷ dense_from b (n.0 +ℤ d.0, n.1 +ℤ d.1, n.2 +ℤ d.2) ids lats lons (other_runs runs)
unfolding dense_from with_runs
from-next b (id, lat, lon) (x, y, z) ids lats lons runs =
    ap (λ is. with_runs b (zip_three is (running_sums_from lat (y ∷ lats)) (running_sums_from lon (z ∷ lons))) runs)
    (column_from-cons id x ids)
    ∙ ap (λ is. with_runs b
    (zip_three ((id +ℤ x) ∷ running_sums_from (id +ℤ x) ids) is (running_sums_from lon (z ∷ lons))) runs)
    (column_from-cons lat y lats)
    ∙ ap (λ is. with_runs b
    (zip_three ((id +ℤ x) ∷ running_sums_from (id +ℤ x) ids) ((lat +ℤ y) ∷ running_sums_from (lat +ℤ y) lats) is)
    runs) (column_from-cons lon z lons)

pub columns-differ : (b : PrimitiveBlock) (ids lats lons : List ℤ) (keys_vals : List ℕ)
    → (length ids ≢ length lats) ⊎ (length ids ≢ length lons)
    → dense_columns b ids lats lons keys_vals ≡ Err Columns ∷ []
unfolding dense_columns
columns-differ b ids lats lons keys_vals (inl other) =
    rw (and_left (length ids == length lats) (length ids == length lons) (ne_eqb (length ids) (length lats) other)) refl
columns-differ b ids lats lons keys_vals (inr other) =
    rw (and_right (length ids == length lats) (length ids == length lons) (ne_eqb (length ids) (length lons) other))
    refl
