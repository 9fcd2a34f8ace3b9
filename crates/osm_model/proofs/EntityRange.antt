-- Each entity of an accepted input has an id in range, places on the earth and texts: the law on accepted entities.
use Rattle.std.proofs.Common.{◌≡◌, ◌∙◌, ◌&&◌, ℕ, ◌<◌, ◌^◌, List, [], ◌∷◌, ◌++◌, refl, sym, subst, arith, false, Bool}
use Rattle.std.proofs.Common.{Result, Ok, Err, None, ℤ, pos, negsuc}
use Rattle.std.specs.Prelude.{nat_abs, int_le}
use Rattle.std.specs.List.{All, AllByRecursion, list_all}
use Rattle.std.proofs.lemmas.Bool.{false≢true, leb-false, and_parts}
use Rattle.std.proofs.lemmas.List.Sums.{AllPass-from_list_all}
use Rattle.mf_base.specs.declared.kind.EntityKind.TheVariants as kinds
use Rattle.mf_base.specs.Tags.{Tags}
use Rattle.mf_base.specs.Ranges.{is_signed_64}
use Rattle.mf_base.specs.Steps.{◌>>=◌, require, refuse, told_as}
use Rattle.mf_base.proofs.StepLaws.{bind_ok, require_ok, refuse_ok, told_ok, ok_is}
use Rattle.osm_model.specs.declared.faults.EntityFault.{EntityFault}
use Rattle.osm_model.specs.declared.faults.EntityFault.TheVariants as entity_faults
use Rattle.osm_model.specs.declared.faults.BlockFault.{BlockFault}
use Rattle.osm_model.specs.declared.faults.InputCode.TheVariants as input_codes
use Rattle.osm_model.specs.declared.numbers.TheConstants.{NODE_ID, NODE_LAT, NODE_LON, NODE_KEYS, NODE_VALS, WAY_ID}
use Rattle.osm_model.specs.declared.numbers.TheConstants.{WAY_REFS, WAY_KEYS, WAY_VALS, RELATION_ID, RELATION_ROLES_SID}
use Rattle.osm_model.specs.declared.numbers.TheConstants.{RELATION_MEMIDS, RELATION_TYPES, RELATION_KEYS, RELATION_VALS}
use Rattle.osm_model.specs.declared.tables.TheConstants.{NODE, WAY, RELATION}
use Rattle.osm_model.specs.Reading.{Reading}
use Rattle.osm_model.specs.Wire.{Field}
use Rattle.osm_model.specs.Tables.{message, packed_of, packed_sint64_of}
use Rattle.osm_model.specs.Frames.{Content, header, primitive, unread, Frame, frames}
use Rattle.osm_model.specs.Blocks.{BlockHead, PrimitiveBlock, is_coordinate, place_of, block}
use Rattle.osm_model.specs.Entities.{Member, Entity, node, way, relation}
use Rattle.osm_model.specs.Accepted.{AreTexts, HasParts, IsAccepted}
use Rattle.osm_model.specs.Objects.{Object, TagRun, sint64_at, int64_at, indexed_tags, run_tags, running_sums}
use Rattle.osm_model.specs.Objects.{members_of, node_of, node_object, dense_node, way_of, way_object, relation_of}
use Rattle.osm_model.specs.Objects.{relation_object, block_objects}
use Rattle.osm_model.specs.Order.{last_id, order_fault, entity_behind, in_order}
use Rattle.osm_model.specs.Input.{block_fault, entities_in, content_fault, content_entities, entities_of, sound_frames}
use Rattle.osm_model.specs.Input.{good_frames, input_entities, AreSound}
use Rattle.osm_model.proofs.TableLaws.{some_no_none}
use Rattle.osm_model.proofs.PlaceRange.{place-on_earth}
use Rattle.osm_model.proofs.NumberRange.{IsBelow, signed-below, sint64-below, int64-below}
use Rattle.osm_model.proofs.TextLaws.{AreStrings, IsMember, all_of, block-strings, indexed-texts, run-texts}
use Rattle.osm_model.proofs.TextLaws.{members-are}
use Rattle.osm_model.proofs.ObjectWalk.{Holds, AllHold, block_holds}
use Rattle.osm_model.proofs.TellingLaws.{Consistent, block_tell}
use Rattle.osm_model.proofs.OrderLaws.{in_order-nil, in_order-err, in_order-refused, in_order-next}
use Rattle.osm_model.proofs.RisingLaws.{order_parts}
use Rattle.osm_model.proofs.InputLaws.{raw_entities-in_order, sound_to}
use Rattle.osm_model.proofs.InputRises.{fault-refused}

-- what was told has parts
abbrev PartsHold : Result Entity EntityFault → Type 0
PartsHold told = (e : Entity) → told ≡ Ok e → HasParts e

-- tags that were told are texts
abbrev TagsHold : Result Tags EntityFault → Type 0
TagsHold told = (tags : Tags) → told ≡ Ok tags → AreTexts tags

-- the id is below 2^63, and what the object is has parts
abbrev pub IsObject : Object → Type 0
IsObject o = IsBelow o.id × PartsHold o.entity

-- ---- nodes

abbrev found_node : BlockHead → ℤ → ℤ → ℤ → Tags → Entity
found_node head id lat lon tags = node (record { id = nat_abs id; place = place_of head lat lon; tags = tags })

node-parts : (head : BlockHead) (id lat lon : ℤ) (told : Result Tags EntityFault) → TagsHold told
    → PartsHold (node_of head id lat lon told)
node-parts head id lat lon told texts e h =
    let (u, near, r1) =
    bind_ok (require (is_coordinate head lat lon) entity_faults.Coordinate)
    (λ _. told >>= λ tags. Ok (found_node head id lat lon tags)) e h in
    let (tags, are, last) = bind_ok told (λ tags. Ok (found_node head id lat lon tags)) e r1 in
    subst HasParts (ok_is (found_node head id lat lon tags) e last) (
      place-on_earth head lat lon (require_ok (is_coordinate head lat lon) entity_faults.Coordinate u near),
      texts tags are,
    )

abbrev node_at : PrimitiveBlock → List Field → ℤ → ℤ → ℤ → Object
node_at b fs id lat lon =
    record {
      kind = kinds.Node;
      id = id;
      entity =
          node_of b.head id lat lon (indexed_tags b.strings (packed_of NODE_KEYS fs) (packed_of NODE_VALS fs));
    }

node-is : (b : PrimitiveBlock) → AreStrings b.strings → (bytes : List ℕ) → Holds IsObject (node_object b bytes)
unfolding node_object
node-is b are bytes object h =
    let (fs, read, r1) =
    bind_ok (told_as entity_faults.Wire (message NODE bytes))
    (λ p. sint64_at NODE_ID p >>= λ id. sint64_at NODE_LAT p >>= λ lat. sint64_at NODE_LON p
    >>= λ lon. Ok (node_at b p id lat lon)) object h in
    let (id, has_id, r2) =
    bind_ok (sint64_at NODE_ID fs)
    (λ i. sint64_at NODE_LAT fs >>= λ lat. sint64_at NODE_LON fs
    >>= λ lon. Ok (node_at b fs i lat lon)) object r1 in
    let (lat, has_lat, r3) =
    bind_ok (sint64_at NODE_LAT fs) (λ y. sint64_at NODE_LON fs >>= λ lon. Ok (node_at b fs id y lon)) object r2 in
    let (lon, has_lon, last) = bind_ok (sint64_at NODE_LON fs) (λ x. Ok (node_at b fs id lat x)) object r3 in
    let below = sint64-below NODE bytes fs
    (told_ok entity_faults.Wire (message NODE bytes) fs read) NODE_ID id has_id in
    subst IsObject {x = node_at b fs id lat lon} (ok_is (node_at b fs id lat lon) object last) (
      below,
      node-parts b.head id lat lon (indexed_tags b.strings (packed_of NODE_KEYS fs) (packed_of NODE_VALS fs))
          (indexed-texts b.strings are (packed_of NODE_KEYS fs) (packed_of NODE_VALS fs)),
    )

abbrev dense_at : PrimitiveBlock → ℤ → ℤ → ℤ → TagRun → Object
dense_at b id lat lon run =
    record { kind = kinds.Node; id = id; entity = node_of b.head id lat lon (run_tags b.strings run) }

dense-is : (b : PrimitiveBlock) → AreStrings b.strings → (n : ℤ × ℤ × ℤ) (run : TagRun)
    → Holds IsObject (dense_node b n run)
dense-is b are (id, lat, lon) run object h =
    let wide : Bool = is_signed_64 id && is_signed_64 lat && is_signed_64 lon in
    let (u, tested, last) = bind_ok (require wide entity_faults.Range) (λ v. Ok (dense_at b id lat lon run)) object h in
    let two = and_parts (is_signed_64 id && is_signed_64 lat) (is_signed_64 lon)
    (require_ok wide entity_faults.Range u tested) in
    let one = and_parts (is_signed_64 id) (is_signed_64 lat) two.0 in
    subst IsObject {x = dense_at b id lat lon run} (ok_is (dense_at b id lat lon run) object last)
    (signed-below id one.0, node-parts b.head id lat lon (run_tags b.strings run) (run-texts b.strings are run))

-- ---- ways

abbrev found_way : ℤ → List ℤ → Tags → Entity
found_way id refs tags = way (record { id = nat_abs id; refs = refs; tags = tags })

way-parts : (id : ℤ) (refs : List ℤ) (told : Result Tags EntityFault) → TagsHold told → PartsHold (way_of id refs told)
way-parts id refs told texts e h =
    let (tags, are, r1) =
    bind_ok told (λ t. require (list_all is_signed_64 refs) entity_faults.Range
    >>= λ _. Ok (found_way id refs t)) e h in
    let (u, narrow, last) =
    bind_ok (require (list_all is_signed_64 refs) entity_faults.Range) (λ _. Ok (found_way id refs tags)) e r1 in
    subst HasParts (ok_is (found_way id refs tags) e last) (
      AllPass-from_list_all is_signed_64 refs
          (require_ok (list_all is_signed_64 refs) entity_faults.Range u narrow),
      texts tags are,
    )

abbrev way_at : PrimitiveBlock → List Field → ℤ → Object
way_at b fs id =
    record {
      kind = kinds.Way;
      id = id;
      entity =
          way_of id (running_sums (packed_sint64_of WAY_REFS fs))
          (indexed_tags b.strings (packed_of WAY_KEYS fs) (packed_of WAY_VALS fs));
    }

way-is : (b : PrimitiveBlock) → AreStrings b.strings → (bytes : List ℕ) → Holds IsObject (way_object b bytes)
unfolding way_object
way-is b are bytes object h =
    let (fs, read, r1) =
    bind_ok (told_as entity_faults.Wire (message WAY bytes))
    (λ p. int64_at WAY_ID p >>= λ id. Ok (way_at b p id)) object h in
    let (id, has_id, last) = bind_ok (int64_at WAY_ID fs) (λ i. Ok (way_at b fs i)) object r1 in
    let below = int64-below WAY bytes fs (told_ok entity_faults.Wire (message WAY bytes) fs read) WAY_ID id has_id in
    subst IsObject {x =
    way_at b fs id} (ok_is (way_at b fs id) object last) (
      below,
      way-parts id (running_sums (packed_sint64_of WAY_REFS fs))
          (indexed_tags b.strings (packed_of WAY_KEYS fs) (packed_of WAY_VALS fs))
          (indexed-texts b.strings are (packed_of WAY_KEYS fs) (packed_of WAY_VALS fs)),
    )

-- ---- relations

abbrev found_relation : ℤ → List Member → Tags → Entity
found_relation id members tags = relation (record { id = nat_abs id; members = members; tags = tags })

relation-parts : (id : ℤ) (members : Result (List Member) EntityFault) (told : Result Tags EntityFault)
    → ((ms : List Member) → members ≡ Ok ms → All IsMember ms) → TagsHold told → PartsHold (relation_of id members told)
relation-parts id members told all texts e h =
    let (tags, are, r1) = bind_ok told (λ t. members >>= λ ms. Ok (found_relation id ms t)) e h in
    let (ms, told_members, last) = bind_ok members (λ m. Ok (found_relation id m tags)) e r1 in
    subst HasParts (ok_is (found_relation id ms tags) e last) (all ms told_members, texts tags are)

abbrev relation_at : PrimitiveBlock → List Field → ℤ → Object
relation_at b fs id =
    record {
      kind = kinds.Relation;
      id = id;
      entity =
          relation_of id
          (members_of b.strings (packed_of RELATION_ROLES_SID fs) (packed_sint64_of RELATION_MEMIDS fs)
          (packed_of RELATION_TYPES fs)) (indexed_tags b.strings (packed_of RELATION_KEYS fs) (packed_of RELATION_VALS fs));
    }

relation-is : (b : PrimitiveBlock) → AreStrings b.strings → (bytes : List ℕ) → Holds IsObject (relation_object b bytes)
unfolding relation_object
relation-is b are bytes object h =
    let (fs, read, r1) =
    bind_ok (told_as entity_faults.Wire (message RELATION bytes))
    (λ p. int64_at RELATION_ID p >>= λ id. Ok (relation_at b p id)) object h in
    let (id, has_id, last) = bind_ok (int64_at RELATION_ID fs) (λ i. Ok (relation_at b fs i)) object r1 in
    let below = int64-below RELATION bytes fs
    (told_ok entity_faults.Wire (message RELATION bytes) fs read) RELATION_ID id has_id in
    let roles : List ℕ = packed_of RELATION_ROLES_SID fs in
    let ids : List ℤ = packed_sint64_of RELATION_MEMIDS fs in
    let types : List ℕ = packed_of RELATION_TYPES fs in
    subst IsObject {x = relation_at b fs id} (ok_is (relation_at b fs id) object last) (
      below,
      relation-parts id (members_of b.strings roles ids types)
          (indexed_tags b.strings (packed_of RELATION_KEYS fs) (packed_of RELATION_VALS fs))
          (members-are b.strings are roles ids types)
          (indexed-texts b.strings are (packed_of RELATION_KEYS fs) (packed_of RELATION_VALS fs)),
    )

block-objects : (b : PrimitiveBlock) → AreStrings b.strings → AllHold IsObject (block_objects b)
block-objects b are =
    block_holds IsObject b (record {
      node = node-is b are;
      dense = dense-is b are;
      way = way-is b are;
      relation =
          relation-is b are;
    })

-- ---- the order

id_range : (id : ℤ) (n : ℕ) → int_le id (pos n) ≡ false → IsBelow id → (n < nat_abs id) × (nat_abs id < 2 ^ 63)
id_range (pos m) n e below = (leb-false m n e, below)
id_range (negsuc m) n e below = absurd (false≢true (sym e))

accepted-behind : (before : List Entity) (object : Object) (e : Entity) → Consistent object → IsObject object
    → entity_behind before object ≡ Ok e → IsAccepted e
accepted-behind before object e told is h =
    let (u, tested, rest) = bind_ok (refuse (order_fault before object.kind object.id)) (λ v. object.entity) e h in
    let above = (order_parts before object.kind object.id
    (refuse_ok (order_fault before object.kind object.id) u tested)).1 in
    let range = id_range object.id (last_id object.kind before) above is.0 in
    let same = (told e rest).1 in
    record { least = omega (arith, same, range.0); most = omega (arith, same, range.1); parts = is.1 e rest }

in_order-accepted : (objects : List (Result Object EntityFault)) (before : List Entity) → AllHold Consistent objects
    → AllHold IsObject objects → AllByRecursion IsAccepted (in_order before objects).items
in_order-accepted [] before told are =
    subst (λ (r : Reading Entity EntityFault). AllByRecursion IsAccepted r.items) (sym (in_order-nil before)) tt
in_order-accepted (Err fault ∷ others) before told are =
    subst (λ (r : Reading Entity EntityFault). AllByRecursion IsAccepted r.items)
    (sym (in_order-err before fault others)) tt
in_order-accepted (Ok object ∷ others) before told are =
    go (λ o. in_order-accepted others o told.1 are.1) (entity_behind before object) refl
  where
    go : ((o : List Entity) → AllByRecursion IsAccepted (in_order o others).items) → (r : Result Entity EntityFault)
        → entity_behind before object ≡ r → AllByRecursion IsAccepted (in_order before (Ok object ∷ others)).items
    go later (Err fault) e =
        subst (λ (r : Reading Entity EntityFault). AllByRecursion IsAccepted r.items)
        (sym (in_order-refused before object others fault e)) tt
    go later (Ok entity) e =
        subst (λ (r : Reading Entity EntityFault). AllByRecursion IsAccepted r.items)
        (sym (in_order-next before object others entity e))
        (accepted-behind before object entity (told.0 object refl) (are.0 object refl) e, later (before ++ entity ∷ []))

-- ---- an input

all-append : (xs ys : List Entity) → AllByRecursion IsAccepted xs → AllByRecursion IsAccepted ys
    → AllByRecursion IsAccepted (xs ++ ys)
all-append [] ys h k = k
all-append (x ∷ xs) ys h k = (h.0, all-append xs ys h.1 k)

raw_accepted : (before : List Entity) (raw : List ℕ) → block_fault before raw ≡ None
    → AllByRecursion IsAccepted (entities_in raw)
raw_accepted before raw none = go (block raw) refl
  where
    go : (r : Result PrimitiveBlock BlockFault) → block raw ≡ r → AllByRecursion IsAccepted (entities_in raw)
    go (Ok b) e =
        subst (AllByRecursion IsAccepted) (sym (raw_entities-in_order before raw b e none))
        (in_order-accepted (block_objects b) before (block_tell b) (block-objects b (block-strings raw b e)))
    go (Err fault) e = absurd (some_no_none (input_codes.Block fault) (sym (fault-refused before raw fault e) ∙ none))

content_accepted : (before : List Entity) (c : Content) → content_fault before c ≡ None
    → AllByRecursion IsAccepted (content_entities c)
content_accepted before (header raw) none = tt
content_accepted before (primitive raw) none = raw_accepted before raw none
content_accepted before (unread type) none = tt

sound_accepted : (before : List Entity) (fs : List Frame) → AreSound before fs
    → AllByRecursion IsAccepted (entities_of fs)
sound_accepted before [] h = tt
sound_accepted before (f ∷ fs) h =
    all-append (content_entities f.content) (entities_of fs) (content_accepted before f.content h.0)
    (sound_accepted (before ++ content_entities f.content) fs h.1)

pub input_accepted : (bytes : List ℕ) → All IsAccepted (input_entities bytes)
unfolding input_entities good_frames
input_accepted bytes =
    let h = sound_to (frames bytes).items [] in
    all_of IsAccepted (entities_of (sound_frames [] (frames bytes).items).items)
    (sound_accepted [] (sound_frames [] (frames bytes).items).items h.sound)
