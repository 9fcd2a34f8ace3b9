-- The dense nodes that are left, in the words of the definitions. This project's own.
use Rattle.std.specs.Prelude.{◌≡◌, false, List, [], ◌∷◌, Option, Some, None, option_map, Result, Ok, Err}
use Rattle.osm_model.specs.declared.faults.EntityFault.{EntityFault}
use Rattle.osm_model.specs.Blocks.{PrimitiveBlock}
use Rattle.osm_model.specs.Entities.{Entity}
use Rattle.osm_model.specs.Objects.{Object, TagRun, dense_from, other_runs}
use Rattle.mf_base.specs.declared.kind.EntityKind.TheVariants as kinds
use Rattle.osm_model.specs.Order.{has_later_kind}
use Rattle.osm_entity.specs.Answers.{placed}
use Rattle.osm_entity.specs.Node.{node_told}
use Rattle.osm_entity.specs.DenseColumns.{numbers_shown, sums_of, signed_in}
use Rattle.osm_entity.specs.TagRun.{runs_of_list}
use Rattle.osm_entity.specs.declared.node_numbers.NodeNumbers.{NodeNumbers}
use Rattle.osm_entity.specs.declared.node_view.NodeView.{NodeView}
use Rattle.osm_entity.specs.declared.columns.Columns.{Columns}
use Rattle.osm_entity.specs.declared.dense.Dense.{Dense}

-- the runs of keys and values that are left
abbrev pub runs_left : Dense → Option (List TagRun)
runs_left dense = runs_of_list (option_map (λ list. list.now) dense.keys_vals)

-- the nodes of columns behind the numbers of one, with these runs
abbrev pub nodes_of_columns : PrimitiveBlock → NodeNumbers → Columns → Option (List TagRun)
    → List (Result Object EntityFault)
nodes_of_columns in_block before columns runs =
    dense_from in_block (numbers_shown before) (signed_in columns.ids.now) (signed_in columns.lats.now)
    (signed_in columns.lons.now) runs

-- the nodes that are left
abbrev pub dense_left : PrimitiveBlock → Dense → List (Result Object EntityFault)
dense_left in_block dense = nodes_of_columns in_block dense.before dense.columns (runs_left dense)

-- What is left behind the node of these differences.
pub record IsBehind (old : Dense) (d : NodeNumbers) (columns : Columns) (new : Dense) : Type 0 where
  pub columns_left : new.columns ≡ columns
  pub numbers : numbers_shown new.before ≡ sums_of (numbers_shown old.before) (numbers_shown d)
  pub runs : runs_left new ≡ other_runs (runs_left old)

-- Of the objects that are left, the first is this node behind these entities, and the others are left; or none is left;
-- or the first has this fault.
abbrev pub GivesNode : List Entity → List (Result Object EntityFault) → Result (Option NodeView) EntityFault
    → List (Result Object EntityFault) → Type 0
GivesNode before left (Ok (Some view)) rest =
    (told : Result Object EntityFault) × (left ≡ told ∷ rest) × (placed before told ≡ Ok (node_told view))
    × (has_later_kind kinds.Node before ≡ false)
GivesNode before left (Ok None) rest = (left ≡ []) × (rest ≡ left)
GivesNode before left (Err fault) rest =
    (told : Result Object EntityFault) × (others : List (Result Object EntityFault)) × (left ≡ told ∷ others)
    × (placed before told ≡ Err fault)

-- The objects are the nodes that are left, or one fault.
abbrev pub GivesDense : PrimitiveBlock → List (Result Object EntityFault) → Result Dense EntityFault → Type 0
GivesDense in_block objects (Ok dense) = objects ≡ dense_left in_block dense
GivesDense in_block objects (Err fault) = objects ≡ Err fault ∷ []
