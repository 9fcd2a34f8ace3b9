-- The kinds of the objects of messages.
use Rattle.std.proofs.Common.{◌≡◌, ℕ, ℤ, List, Bool, true, false, Option, Some, None, Result, Ok, Err, refl}
use Rattle.std.proofs.Common.{sym}
use Rattle.std.proofs.Common.{subst, cond}
use Rattle.std.specs.Prelude.{int_le, pos}
use Rattle.std.proofs.lemmas.Option.{none-some}
use Rattle.mf_base.specs.Steps.{◌>>=◌, refuse}
use Rattle.mf_base.specs.declared.kind.EntityKind.{EntityKind}
use Rattle.mf_base.specs.declared.kind.EntityKind.TheVariants as kinds
use Rattle.mf_base.proofs.StepLaws.{bind_ok, refuse_ok, err_is_no_ok, ok_is}
use Rattle.osm_model.specs.declared.faults.EntityFault.{EntityFault}
use Rattle.osm_model.specs.declared.faults.EntityFault.TheVariants as faults
use Rattle.osm_model.specs.Blocks.{PrimitiveBlock}
use Rattle.osm_model.specs.Entities.{Entity}
use Rattle.mf_base.specs.Steps.{told_as, require}
use Rattle.mf_base.specs.Ranges.{is_signed_64}
use Rattle.std.specs.Prelude.{◌&&◌}
use Rattle.osm_model.specs.declared.tables.TheConstants.{NODE, WAY, RELATION}
use Rattle.osm_model.specs.declared.numbers.TheConstants.{NODE_ID, NODE_LAT, NODE_LON, NODE_KEYS, NODE_VALS, WAY_ID}
use Rattle.osm_model.specs.declared.numbers.TheConstants.{WAY_KEYS, WAY_VALS, WAY_REFS, RELATION_ID, RELATION_KEYS}
use Rattle.osm_model.specs.declared.numbers.TheConstants.{RELATION_VALS, RELATION_ROLES_SID, RELATION_MEMIDS}
use Rattle.osm_model.specs.declared.numbers.TheConstants.{RELATION_TYPES}
use Rattle.osm_model.specs.Tables.{message, packed_of, packed_sint64_of}
use Rattle.osm_model.specs.Objects.{sint64_at, int64_at, node_of, way_of, relation_of, members_of, indexed_tags}
use Rattle.osm_model.specs.Objects.{running_sums, run_tags}
use Rattle.osm_model.specs.Objects.{Object, TagRun, node_object, way_object, relation_object, dense_node}
use Rattle.osm_model.specs.Order.{order_fault, has_later_kind, last_id}
use Rattle.osm_entity.specs.Answers.{placed}

-- the object that is told, if one is, is of this kind
abbrev KindIs : EntityKind → Result Object EntityFault → Type 0
KindIs k told = (object : Object) → told ≡ Ok object → object.kind ≡ k

kind-bind : {A : Type 0} (k : EntityKind) (r : Result A EntityFault) (next : A → Result Object EntityFault)
    → ((x : A) → KindIs k (next x)) → KindIs k (r >>= next)
kind-bind k (Ok x) next each object e = each x object e
kind-bind k (Err fault) next each object e = absurd (err_is_no_ok fault object e)

kind-ok : (k : EntityKind) (o : Object) → o.kind ≡ k → KindIs k (Ok o)
kind-ok k o is object e = subst (λ (x : Object). x.kind ≡ k) (ok_is o object e) is

node_kind : (b : PrimitiveBlock) (bytes : List ℕ) → KindIs kinds.Node (node_object b bytes)
unfolding node_object
node_kind b bytes =
    kind-bind kinds.Node (told_as faults.Wire (message NODE bytes)) _
    (λ fs. kind-bind kinds.Node (sint64_at NODE_ID fs) _ (λ id. kind-bind kinds.Node (sint64_at NODE_LAT fs) _
    (λ lat. kind-bind kinds.Node (sint64_at NODE_LON fs) _ (λ lon. kind-ok kinds.Node (record {
      kind = kinds.Node;
      id = id;
      entity = node_of b.head id lat lon (indexed_tags b.strings (packed_of NODE_KEYS fs) (packed_of NODE_VALS fs));
    }) refl))))

way_kind : (b : PrimitiveBlock) (bytes : List ℕ) → KindIs kinds.Way (way_object b bytes)
unfolding way_object
way_kind b bytes =
    kind-bind kinds.Way (told_as faults.Wire (message WAY bytes)) _
    (λ fs. kind-bind kinds.Way (int64_at WAY_ID fs) _ (λ id. kind-ok kinds.Way (record {
      kind = kinds.Way;
      id = id;
      entity = way_of id (running_sums (packed_sint64_of WAY_REFS fs))
          (indexed_tags b.strings (packed_of WAY_KEYS fs) (packed_of WAY_VALS fs));
    }) refl))

relation_kind : (b : PrimitiveBlock) (bytes : List ℕ) → KindIs kinds.Relation (relation_object b bytes)
unfolding relation_object
relation_kind b bytes =
    kind-bind kinds.Relation (told_as faults.Wire (message RELATION bytes)) _
    (λ fs. kind-bind kinds.Relation (int64_at RELATION_ID fs) _ (λ id. kind-ok kinds.Relation (record {
      kind = kinds.Relation;
      id = id;
      entity = relation_of id (members_of b.strings (packed_of RELATION_ROLES_SID fs)
          (packed_sint64_of RELATION_MEMIDS fs) (packed_of RELATION_TYPES fs))
          (indexed_tags b.strings (packed_of RELATION_KEYS fs) (packed_of RELATION_VALS fs));
    }) refl))

dense_kind : (b : PrimitiveBlock) (n : ℤ × ℤ × ℤ) (run : TagRun) → KindIs kinds.Node (dense_node b n run)
dense_kind b (id, lat, lon) run =
    kind-bind kinds.Node (require (is_signed_64 id && is_signed_64 lat && is_signed_64 lon) faults.Range) _
    (λ u. kind-ok kinds.Node (record {
      kind = kinds.Node;
      id = id;
      entity = node_of b.head id lat lon (run_tags b.strings run);
    }) refl)

none_later : (later : Bool) (o : Option EntityFault) → cond later (Some faults.KindOrder) o ≡ None → later ≡ false
none_later true o e = absurd (none-some faults.KindOrder (sym e))
none_later false o e = refl

-- no entity of a later kind stands before one that is in order
in_kind_order : (before : List Entity) (k : EntityKind) (told : Result Object EntityFault) (e : Entity)
    → KindIs k told → placed before told ≡ Ok e → has_later_kind k before ≡ false
in_kind_order before k (Err fault) e kind is = absurd (err_is_no_ok fault e is)
in_kind_order before k (Ok object) e kind is =
    let (u, tested, rest) = bind_ok (refuse (order_fault before object.kind object.id)) (λ v. object.entity) e is in
    subst (λ j. has_later_kind j before ≡ false) (kind object refl)
    (none_later (has_later_kind object.kind before)
    (cond (int_le object.id (pos (last_id object.kind before)))
    (Some (faults.OutOfOrder (last_id object.kind before) object.id)) None)
    (refuse_ok (order_fault before object.kind object.id) u tested))

pub node-later : (before : List Entity) (b : PrimitiveBlock) (bytes : List ℕ) (e : Entity)
    → placed before (node_object b bytes) ≡ Ok e → has_later_kind kinds.Node before ≡ false
node-later before b bytes e is = in_kind_order before kinds.Node (node_object b bytes) e (node_kind b bytes) is

pub way-later : (before : List Entity) (b : PrimitiveBlock) (bytes : List ℕ) (e : Entity)
    → placed before (way_object b bytes) ≡ Ok e → has_later_kind kinds.Way before ≡ false
way-later before b bytes e is = in_kind_order before kinds.Way (way_object b bytes) e (way_kind b bytes) is

pub relation-later : (before : List Entity) (b : PrimitiveBlock) (bytes : List ℕ) (e : Entity)
    → placed before (relation_object b bytes) ≡ Ok e → has_later_kind kinds.Relation before ≡ false
relation-later before b bytes e is =
    in_kind_order before kinds.Relation (relation_object b bytes) e (relation_kind b bytes) is

pub dense-later : (before : List Entity) (b : PrimitiveBlock) (n : ℤ × ℤ × ℤ) (run : TagRun) (e : Entity)
    → placed before (dense_node b n run) ≡ Ok e → has_later_kind kinds.Node before ≡ false
dense-later before b n run e is = in_kind_order before kinds.Node (dense_node b n run) e (dense_kind b n run) is

pub ruleset later_kinds = (node-later, way-later, relation-later, dense-later)
