-- What is told of an object has its kind and its id.
use Rattle.std.proofs.Common.{◌≡◌, ◌&&◌, ℕ, List, refl, subst, Result, Ok, Err, ℤ}
use Rattle.std.specs.Prelude.{nat_abs}
use Rattle.std.specs.List.{list_all}
use Rattle.mf_base.specs.declared.kind.EntityKind.{EntityKind}
use Rattle.mf_base.specs.Steps.{◌>>=◌, require, told_as}
use Rattle.mf_base.specs.Ranges.{is_signed_64}
use Rattle.mf_base.specs.Tags.{Tag}
use Rattle.mf_base.proofs.StepLaws.{bind_ok, ok_is, err_is_no_ok}
use Rattle.mf_base.specs.declared.kind.EntityKind.TheVariants as kinds
use Rattle.osm_model.specs.declared.tables.TheConstants.{NODE, WAY, RELATION}
use Rattle.osm_model.specs.declared.faults.EntityFault.{EntityFault}
use Rattle.osm_model.specs.declared.faults.EntityFault.TheVariants as entity_faults
use Rattle.osm_model.specs.Wire.{Field}
use Rattle.osm_model.specs.Tables.{message, packed_of, packed_sint64_of}
use Rattle.osm_model.specs.Blocks.{BlockHead, PrimitiveBlock, is_coordinate, place_of}
use Rattle.osm_model.specs.Objects.{sint64_at, int64_at, indexed_tags, run_tags, running_sums, members_of, Object}
use Rattle.osm_model.specs.Objects.{TagRun, node_of, node_object, dense_node, way_of, way_object, relation_of}
use Rattle.osm_model.specs.Objects.{relation_object, block_objects}
use Rattle.osm_model.proofs.ObjectWalk.{Holds, AllHold, block_holds}
use Rattle.osm_model.specs.Entities.{Member, Entity, node, way, relation, kind_of, id_of}

-- what an object is has its kind and its id
abbrev pub IsItself : EntityKind → ℤ → Result Entity EntityFault → Type 0
IsItself kind id told = (e : Entity) → told ≡ Ok e → (kind_of e ≡ kind) × (id_of e ≡ nat_abs id)

abbrev pub Consistent : Object → Type 0
Consistent o = IsItself o.kind o.id o.entity

abbrev found_node : BlockHead → ℤ → ℤ → ℤ → List Tag → Entity
found_node head id lat lon tags = node (record { id = nat_abs id; place = place_of head lat lon; tags = tags })

node_is : (head : BlockHead) (id lat lon : ℤ) (told : Result (List Tag) EntityFault)
    → IsItself kinds.Node id (node_of head id lat lon told)
node_is head id lat lon (Ok tags) e h =
    let (u, tested, last) =
    bind_ok (require (is_coordinate head lat lon) entity_faults.Coordinate)
    (λ v. Ok (found_node head id lat lon tags)) e h in
    let P : Entity → Type 0 = λ x. (kind_of x ≡ kinds.Node) × (id_of x ≡ nat_abs id) in
    subst P (ok_is (found_node head id lat lon tags) e last) (refl, refl)
node_is head id lat lon (Err fault) e h = let (u, tested, last) =
    bind_ok (require (is_coordinate head lat lon) entity_faults.Coordinate) (λ v. Err fault) e h in
    absurd (err_is_no_ok fault e last)

way_is : (id : ℤ) (refs : List ℤ) (told : Result (List Tag) EntityFault) → IsItself kinds.Way id (way_of id refs told)
way_is id refs (Ok tags) e h =
    let found : Entity = way (record { id = nat_abs id; refs = refs; tags = tags }) in
    let (u, tested, last) = bind_ok (require (list_all is_signed_64 refs) entity_faults.Range) (λ v. Ok found) e h in
    let P : Entity → Type 0 = λ x. (kind_of x ≡ kinds.Way) × (id_of x ≡ nat_abs id) in
    subst P (ok_is found e last) (refl, refl)
way_is id refs (Err fault) e h = absurd (err_is_no_ok fault e h)

relation_is : (id : ℤ) (members : Result (List Member) EntityFault) (told : Result (List Tag) EntityFault)
    → IsItself kinds.Relation id (relation_of id members told)
relation_is id (Ok members) (Ok tags) e h =
    let found : Entity = relation (record { id = nat_abs id; members = members; tags = tags }) in
    let P : Entity → Type 0 = λ x. (kind_of x ≡ kinds.Relation) × (id_of x ≡ nat_abs id) in
    subst P (ok_is found e h) (refl, refl)
relation_is id (Err fault) (Ok tags) e h = absurd (err_is_no_ok fault e h)
relation_is id members (Err fault) e h = absurd (err_is_no_ok fault e h)

abbrev node_at : PrimitiveBlock → List Field → ℤ → ℤ → ℤ → Object
node_at b parts id lat lon =
    record {
      kind = kinds.Node;
      id = id;
      entity =
          node_of b.head id lat lon (indexed_tags b.strings (packed_of 2 parts) (packed_of 3 parts));
    }

node_tells : (b : PrimitiveBlock) (bytes : List ℕ) → Holds Consistent (node_object b bytes)
unfolding node_object
node_tells b bytes object h =
    let (parts, read, r1) =
    bind_ok (told_as entity_faults.Wire (message NODE bytes))
    (λ p. sint64_at 1 p >>= λ id. sint64_at 8 p >>= λ lat. sint64_at 9 p
    >>= λ lon. Ok (node_at b p id lat lon)) object h in
    let (id, has_id, r2) =
    bind_ok (sint64_at 1 parts)
    (λ i. sint64_at 8 parts >>= λ lat. sint64_at 9 parts >>= λ lon. Ok (node_at b parts i lat lon)) object r1 in
    let (lat, has_lat, r3) =
    bind_ok (sint64_at 8 parts) (λ y. sint64_at 9 parts >>= λ lon. Ok (node_at b parts id y lon)) object r2 in
    let (lon, has_lon, last) = bind_ok (sint64_at 9 parts) (λ x. Ok (node_at b parts id lat x)) object r3 in
    subst Consistent {x = node_at b parts id lat lon} (ok_is (node_at b parts id lat lon) object last)
    (node_is b.head id lat lon (indexed_tags b.strings (packed_of 2 parts) (packed_of 3 parts)))

abbrev way_at : PrimitiveBlock → List Field → ℤ → Object
way_at b parts id =
    record {
      kind = kinds.Way;
      id = id;
      entity =
          way_of id (running_sums (packed_sint64_of 8 parts))
          (indexed_tags b.strings (packed_of 2 parts) (packed_of 3 parts));
    }

way_tells : (b : PrimitiveBlock) (bytes : List ℕ) → Holds Consistent (way_object b bytes)
unfolding way_object
way_tells b bytes object h =
    let (parts, read, r1) =
    bind_ok (told_as entity_faults.Wire (message WAY bytes))
    (λ p. int64_at 1 p >>= λ id. Ok (way_at b p id)) object h in
    let (id, has_id, last) = bind_ok (int64_at 1 parts) (λ i. Ok (way_at b parts i)) object r1 in
    subst Consistent (ok_is (way_at b parts id) object last)
    (way_is id (running_sums (packed_sint64_of 8 parts))
    (indexed_tags b.strings (packed_of 2 parts) (packed_of 3 parts)))

abbrev relation_at : PrimitiveBlock → List Field → ℤ → Object
relation_at b parts id =
    record {
      kind = kinds.Relation;
      id = id;
      entity =
          relation_of id (members_of b.strings (packed_of 8 parts) (packed_sint64_of 9 parts) (packed_of 10 parts))
          (indexed_tags b.strings (packed_of 2 parts) (packed_of 3 parts));
    }

relation_tells : (b : PrimitiveBlock) (bytes : List ℕ) → Holds Consistent (relation_object b bytes)
unfolding relation_object
relation_tells b bytes object h =
    let (parts, read, r1) =
    bind_ok (told_as entity_faults.Wire (message RELATION bytes))
    (λ p. int64_at 1 p >>= λ id. Ok (relation_at b p id)) object h in
    let (id, has_id, last) = bind_ok (int64_at 1 parts) (λ i. Ok (relation_at b parts i)) object r1 in
    subst Consistent (ok_is (relation_at b parts id) object last)
    (relation_is id (members_of b.strings (packed_of 8 parts) (packed_sint64_of 9 parts) (packed_of 10 parts))
    (indexed_tags b.strings (packed_of 2 parts) (packed_of 3 parts)))

abbrev dense_at : PrimitiveBlock → ℤ → ℤ → ℤ → TagRun → Object
dense_at b id lat lon run =
    record { kind = kinds.Node; id = id; entity = node_of b.head id lat lon (run_tags b.strings run) }

dense_tells : (b : PrimitiveBlock) (n : ℤ × ℤ × ℤ) (run : TagRun) → Holds Consistent (dense_node b n run)
dense_tells b (id, lat, lon) run object h =
    let (u, tested, last) =
    bind_ok (require (is_signed_64 id && is_signed_64 lat && is_signed_64 lon) entity_faults.Range)
    (λ v. Ok (dense_at b id lat lon run)) object h in
    subst Consistent (ok_is (dense_at b id lat lon run) object last)
    (node_is b.head id lat lon (run_tags b.strings run))

pub block_tell : (b : PrimitiveBlock) → AllHold Consistent (block_objects b)
block_tell b =
    block_holds Consistent b (record {
      node = node_tells b;
      dense = dense_tells b;
      way = way_tells b;
      relation =
          relation_tells b;
    })
