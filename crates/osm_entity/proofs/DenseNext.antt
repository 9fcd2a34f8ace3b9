-- The next of dense nodes, and those behind it.
use Rattle.std.proofs.Common.{◌≡◌, ◌∙◌, ◌∷◌, List, Option, Result, Ok, Err, ap, sym, subst}
use Rattle.std.proofs.Common.{◌≢◌, ℕ, pos, [], map, length, refl, inl, inr}
use Rattle.std.proofs.lemmas.List.{length-map}
use Rattle.mf_base.specs.Spelling.{unzigzag_of}
use Rattle.osm_model.specs.declared.faults.MessageFault.{MessageFault}
use Rattle.osm_model.specs.declared.faults.EntityFault.TheVariants as faults
use Rattle.osm_model.specs.declared.tables.TheConstants.{DENSE_NODES}
use Rattle.osm_model.specs.declared.numbers.TheConstants.{DENSE_ID, DENSE_LAT, DENSE_LON, DENSE_KEYS_VALS}
use Rattle.osm_model.specs.Wire.{Field}
use Rattle.osm_model.specs.Tables.{message, packed_of}
use Rattle.osm_model.specs.Objects.{dense_objects, dense_columns, runs_of}
use Rattle.osm_model.proofs.DenseLaws.{columns-from, columns-differ}
use Rattle.osm_entity.specs.Dense.{GivesDense}
use Rattle.osm_model.specs.declared.faults.EntityFault.{EntityFault}
use Rattle.osm_model.specs.Blocks.{PrimitiveBlock}
use Rattle.osm_model.specs.Entities.{Entity}
use Rattle.osm_model.specs.Objects.{Object, dense_node, dense_from, next_run, other_runs}
use Rattle.osm_entity.specs.Answers.{placed}
use Rattle.osm_entity.specs.DenseColumns.{numbers_shown, sums_of, signed_in, BeginWith}
use Rattle.osm_entity.specs.Dense.{dense_left, runs_left, nodes_of_columns, IsBehind, GivesNode}
use Rattle.osm_entity.specs.declared.node_numbers.NodeNumbers.{NodeNumbers}
use Rattle.osm_entity.specs.declared.node_view.NodeView.{NodeView}
use Rattle.osm_entity.specs.declared.columns.Columns.{Columns}
use Rattle.osm_entity.specs.declared.dense.Dense.{Dense}
use Rattle.osm_entity.proofs.DenseReads.{dense-next}

-- the object of the node of these differences
abbrev pub object_of : PrimitiveBlock → Dense → NodeNumbers → Result Object EntityFault
object_of b old d = dense_node b (sums_of (numbers_shown old.before) (numbers_shown d)) (next_run (runs_left old))

objects_behind : (b : PrimitiveBlock) (old new : Dense) (d : NodeNumbers) (columns : Columns)
    → IsBehind old d columns new
    → dense_from b (sums_of (numbers_shown old.before) (numbers_shown d)) (signed_in columns.ids.now)
    (signed_in columns.lats.now) (signed_in columns.lons.now) (other_runs (runs_left old)) ≡ dense_left b new
objects_behind b old new d columns behind =
    ap (λ n. dense_from b n (signed_in columns.ids.now) (signed_in columns.lats.now) (signed_in columns.lons.now)
    (other_runs (runs_left old))) (sym behind.numbers)
    ∙ ap (λ runs. nodes_of_columns b new.before columns runs) (sym behind.runs)
    ∙ ap (λ (cs : Columns). nodes_of_columns b new.before cs (runs_left new)) (sym behind.columns_left)

from-first : (b : PrimitiveBlock) (old : Dense) (d : NodeNumbers) (columns : Columns) → BeginWith old.columns d columns
    → dense_left b old
    ≡ object_of b old d
    ∷ dense_from b (sums_of (numbers_shown old.before) (numbers_shown d)) (signed_in columns.ids.now)
    (signed_in columns.lats.now) (signed_in columns.lons.now) (other_runs (runs_left old))
from-first b old d columns begins =
    dense-next b (numbers_shown old.before) (numbers_shown d) (signed_in old.columns.ids.now)
    (signed_in old.columns.lats.now) (signed_in old.columns.lons.now) (signed_in columns.ids.now)
    (signed_in columns.lats.now) (signed_in columns.lons.now) (runs_left old) begins.ids begins.lats begins.lons

pub next-left : (b : PrimitiveBlock) (old new : Dense) (d : NodeNumbers) (columns : Columns)
    → BeginWith old.columns d columns → IsBehind old d columns new
    → dense_left b old ≡ object_of b old d ∷ dense_left b new
next-left b old new d columns begins behind =
    from-first b old d columns begins ∙ ap (λ xs. object_of b old d ∷ xs) (objects_behind b old new d columns behind)

pub next-fault : (before : List Entity) (b : PrimitiveBlock) (old : Dense) (d : NodeNumbers) (columns : Columns)
    (answer : Result (Option NodeView) EntityFault) (fault : EntityFault) (rest : List (Result Object EntityFault))
    → BeginWith old.columns d columns → Err fault ≡ placed before (object_of b old d) → answer ≡ Err fault
    → GivesNode before (dense_left b old) answer rest
next-fault before b old d columns answer fault rest begins told is =
    subst (λ r. GivesNode before (dense_left b old) r rest) (sym is)
    (object_of b old d, _, from-first b old d columns begins, sym told)

-- ---- the message

pub objects-refused : (b : PrimitiveBlock) (bytes : List ℕ) (fault : MessageFault)
    → message DENSE_NODES bytes ≡ Err fault
    → dense_objects b bytes ≡ Err (faults.Wire fault) ∷ []
unfolding dense_objects
objects-refused b bytes fault e = rw (e, dense_objects) refl

pub objects-are : (b : PrimitiveBlock) (bytes : List ℕ) (fs : List Field) (ids lats lons keys_vals : List ℕ)
    (answer : Result Dense EntityFault) → message DENSE_NODES bytes ≡ Ok fs → ids ≡ packed_of DENSE_ID fs
    → lats ≡ packed_of DENSE_LAT fs → lons ≡ packed_of DENSE_LON fs → keys_vals ≡ packed_of DENSE_KEYS_VALS fs
    → GivesDense b (dense_columns b (map unzigzag_of ids) (map unzigzag_of lats) (map unzigzag_of lons) keys_vals)
    answer
    → GivesDense b (dense_objects b bytes) answer
unfolding dense_objects
objects-are b bytes fs ids lats lons keys_vals answer e is_ids is_lats is_lons is_kv told =
    subst (λ xs. GivesDense b xs answer) (rw (e, is_ids, is_lats, is_lons, is_kv, dense_objects) refl) told

differ : (xs ys : List ℕ) → length xs ≢ length ys
    → length (map unzigzag_of xs) ≢ length (map unzigzag_of ys)
differ xs ys other e = other (sym (length-map xs unzigzag_of) ∙ e ∙ length-map ys unzigzag_of)

pub lats-differ : (b : PrimitiveBlock) (ids lats lons keys_vals : List ℕ) → length lats ≢ length ids
    → dense_columns b (map unzigzag_of ids) (map unzigzag_of lats) (map unzigzag_of lons) keys_vals
    ≡ Err faults.Columns ∷ []
lats-differ b ids lats lons keys_vals other =
    columns-differ b (map unzigzag_of ids) (map unzigzag_of lats) (map unzigzag_of lons) keys_vals
    (inl (differ ids lats (λ e. other (sym e))))

pub lons-differ : (b : PrimitiveBlock) (ids lats lons keys_vals : List ℕ) → length lons ≢ length ids
    → dense_columns b (map unzigzag_of ids) (map unzigzag_of lats) (map unzigzag_of lons) keys_vals
    ≡ Err faults.Columns ∷ []
lons-differ b ids lats lons keys_vals other =
    columns-differ b (map unzigzag_of ids) (map unzigzag_of lats) (map unzigzag_of lons) keys_vals
    (inr (differ ids lons (λ e. other (sym e))))

pub columns-same : (b : PrimitiveBlock) (ids lats lons keys_vals : List ℕ) → length lats ≡ length ids
    → length lons ≡ length ids
    → dense_columns b (map unzigzag_of ids) (map unzigzag_of lats) (map unzigzag_of lons) keys_vals
    ≡ dense_from b (pos 0, pos 0, pos 0) (map unzigzag_of ids) (map unzigzag_of lats) (map unzigzag_of lons)
    (runs_of keys_vals)
columns-same b ids lats lons keys_vals e f =
    columns-from b (map unzigzag_of ids) (map unzigzag_of lats) (map unzigzag_of lons) keys_vals
    (length-map ids unzigzag_of ∙ sym e ∙ sym (length-map lats unzigzag_of))
    (length-map ids unzigzag_of ∙ sym f ∙ sym (length-map lons unzigzag_of))
