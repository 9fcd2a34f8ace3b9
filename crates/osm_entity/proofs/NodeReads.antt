-- A node, step by step.
use Rattle.std.proofs.Common.{◌≡◌, ◌∙◌, ℕ, ℤ, List, Option, Some, None, Result, Ok, Err, refl, ap, sym, subst}
use Rattle.std.proofs.Common.{FitsSigned, to_z, of_z, w64}
use Rattle.std.specs.Prelude.{nat_abs, MatchResult}
use Rattle.std.proofs.lemmas.Int.{to_z-of_z}
use Rattle.mf_base.specs.Steps.{◌>>=◌, refuse, require}
use Rattle.mf_base.proofs.StepLaws.{ok_is}
use Rattle.std.proofs.Common.{Bool, true, false}
use Rattle.mf_base.specs.Tags.{Tags}
use Rattle.mf_base.specs.Spelling.{unzigzag_of}
use Rattle.mf_base.specs.declared.place.Place.{Place}
use Rattle.mf_base.specs.declared.kind.EntityKind.{EntityKind}
use Rattle.mf_base.specs.declared.kind.EntityKind.TheVariants as kinds
use Rattle.osm_model.specs.declared.faults.EntityFault.{EntityFault}
use Rattle.osm_model.specs.declared.faults.EntityFault.TheVariants.{Coordinate}
use Rattle.osm_model.specs.Blocks.{BlockHead, PrimitiveBlock, is_coordinate, place_of}
use Rattle.osm_model.specs.Entities.{Entity, Node, node}
use Rattle.osm_model.specs.Order.{order_fault, entity_behind}
use Rattle.osm_model.specs.declared.faults.MessageFault.{MessageFault}
use Rattle.osm_model.specs.declared.faults.EntityFault.TheVariants.{Wire}
use Rattle.osm_model.specs.declared.tables.TheConstants.{NODE}
use Rattle.osm_model.specs.declared.numbers.TheConstants.{NODE_ID, NODE_KEYS, NODE_VALS, NODE_LAT, NODE_LON}
use Rattle.osm_model.specs.Wire.{Field}
use Rattle.osm_model.specs.Tables.{message, number_of, packed_of}
use Rattle.osm_model.specs.Objects.{node_object, indexed_tags}
use Rattle.osm_entity.specs.Answers.{placed}
use Rattle.osm_entity.specs.Place.{checked_place}
use Rattle.osm_entity.specs.Node.{node_front, node_at, stored_object}

-- what is told of an id by the check of its order
abbrev pub IsChecked : List Entity → EntityKind → ℤ → Result ℕ EntityFault → Type 0
IsChecked before kind id r = MatchResult r (λ n. (order_fault before kind id ≡ None) × (n ≡ nat_abs id))
    (λ fault. order_fault before kind id ≡ Some fault)

pub checked_ok : (before : List Entity) (kind : EntityKind) (id : ℤ) (r : Result ℕ EntityFault) (n : ℕ)
    → FitsSigned w64 id → IsChecked before kind (to_z w64 (of_z w64 id)) r → r ≡ Ok n
    → (order_fault before kind id ≡ None) × (n ≡ nat_abs id)
checked_ok before kind id r n f told is =
    subst (λ z. (order_fault before kind z ≡ None) × (n ≡ nat_abs z)) (to_z-of_z w64 id f)
    (subst (IsChecked before kind (to_z w64 (of_z w64 id))) is told)

pub checked_err : (before : List Entity) (kind : EntityKind) (id : ℤ) (r : Result ℕ EntityFault) (fault : EntityFault)
    → FitsSigned w64 id → IsChecked before kind (to_z w64 (of_z w64 id)) r → r ≡ Err fault
    → order_fault before kind id ≡ Some fault
checked_err before kind id r fault f told is =
    subst (λ z. order_fault before kind z ≡ Some fault) (to_z-of_z w64 id f)
    (subst (IsChecked before kind (to_z w64 (of_z w64 id))) is told)

pub front-far : (before : List Entity) (head : BlockHead) (id lat lon : ℤ) (fault : EntityFault)
    → order_fault before kinds.Node id ≡ None → checked_place head lat lon ≡ Err fault
    → Err fault ≡ node_front before head id lat lon
front-far before head id lat lon fault first e = rw (first, e) refl

pub front-is : (before : List Entity) (head : BlockHead) (id lat lon : ℤ) (n : ℕ) (place : Place)
    → order_fault before kinds.Node id ≡ None → n ≡ nat_abs id → checked_place head lat lon ≡ Ok place
    → Ok (n, place) ≡ node_front before head id lat lon
front-is before head id lat lon n place first is e = rw (first, e, is) refl

-- ---- a node, from its id on

no_answer : {A : Type 0} (f : EntityFault) (x : A) → ◌≡◌ {A = Result A EntityFault} (Err f) (Ok x) → ⊥
no_answer f x e = cc

pub as_fault : {A B : Type 0} (f g : EntityFault) → ◌≡◌ {A = Result A EntityFault} (Err f) (Err g)
    → ◌≡◌ {A = Result B EntityFault} (Err f) (Err g)
as_fault f g e = ap Err (same f g e)
  where
    same : {A : Type 0} (f g : EntityFault) → ◌≡◌ {A = Result A EntityFault} (Err f) (Err g) → f ≡ g
    same f g e = cc

-- the front of a node, and what follows it, by the fault of its order and whether it is on the earth
abbrev near : Bool → Place → Result Place EntityFault
near c place = require c Coordinate >>= λ v. Ok place

abbrev front_by : Option EntityFault → Bool → ℕ → Place → Result (ℕ × Place) EntityFault
front_by o c n place = do
  _ ← refuse o
  p ← near c place
  Ok (n, p)

abbrev tagged_by : Option EntityFault → Bool → ℕ → Place → Result Tags EntityFault → Result Entity EntityFault
tagged_by o c n place told = do
  _ ← refuse o
  _ ← require c Coordinate
  tags ← told
  Ok (node (record { id = n; place = place; tags = tags }))

pub front_err : (before : List Entity) (b : PrimitiveBlock) (id lat lon : ℤ) (fault : EntityFault)
    (told : Result Tags EntityFault) → node_front before b.head id lat lon ≡ Err fault
    → Err fault ≡ entity_behind before (node_at b id lat lon told)
front_err before b id lat lon fault told = go (order_fault before kinds.Node id) (is_coordinate b.head lat lon)
  where
    go : (o : Option EntityFault) (c : Bool)
        → front_by o c (nat_abs id) (place_of b.head lat lon) ≡ Err fault
        → Err fault ≡ tagged_by o c (nat_abs id) (place_of b.head lat lon) told
    go None true e = absurd (no_answer fault (nat_abs id, place_of b.head lat lon) (sym e))
    go None false e = sym (as_fault Coordinate fault e)
    go (Some f) c e = sym (as_fault f fault e)

pub front_ok : (before : List Entity) (b : PrimitiveBlock) (id lat lon : ℤ) (n : ℕ) (place : Place)
    (told : Result Tags EntityFault) → node_front before b.head id lat lon ≡ Ok (n, place)
    → entity_behind before (node_at b id lat lon told)
    ≡ (told >>= λ tags. Ok (node (record { id = n; place = place; tags = tags })))
front_ok before b id lat lon n place told = go (order_fault before kinds.Node id) (is_coordinate b.head lat lon)
  where
    go : (o : Option EntityFault) (c : Bool)
        → front_by o c (nat_abs id) (place_of b.head lat lon) ≡ Ok (n, place)
        → tagged_by o c (nat_abs id) (place_of b.head lat lon) told
        ≡ (told >>= λ tags. Ok (node (record { id = n; place = place; tags = tags })))
    go None true e =
        ap (λ (p : ℕ × Place). told >>= λ tags. Ok (node (record { id = p.0; place = p.1; tags = tags })))
        (ok_is (nat_abs id, place_of b.head lat lon) (n, place) e)
    go None false e = absurd (no_answer Coordinate (n, place) e)
    go (Some f) c e = absurd (no_answer f (n, place) e)

pub tagged-no_tags : (before : List Entity) (b : PrimitiveBlock) (id lat lon : ℤ) (n : ℕ) (place : Place)
    (fault : EntityFault) (told : Result Tags EntityFault) → node_front before b.head id lat lon ≡ Ok (n, place)
    → Err fault ≡ told → Err fault ≡ entity_behind before (node_at b id lat lon told)
tagged-no_tags before b id lat lon n place fault told front e =
    ap (λ r. r >>= λ tags. Ok (node (record { id = n; place = place; tags = tags }))) e
    ∙ sym (front_ok before b id lat lon n place told front)

pub tagged-is : (before : List Entity) (b : PrimitiveBlock) (id lat lon : ℤ) (n : ℕ) (place : Place) (tags : Tags)
    (shown : Node) (told : Result Tags EntityFault) → node_front before b.head id lat lon ≡ Ok (n, place)
    → Ok tags ≡ told → shown ≡ record { id = n; place = place; tags = tags }
    → Ok (node shown) ≡ entity_behind before (node_at b id lat lon told)
tagged-is before b id lat lon n place tags shown told front e is =
    ap (λ v. Ok (node v)) is
    ∙ ap (λ r. r >>= λ tags. Ok (node (record { id = n; place = place; tags = tags }))) e
    ∙ sym (front_ok before b id lat lon n place told front)

abbrev read : ℤ → ℤ
read z = to_z w64 (of_z w64 z)

pub front_read : (before : List Entity) (head : BlockHead) (id lat lon : ℤ) (r : Result (ℕ × Place) EntityFault)
    → FitsSigned w64 id → FitsSigned w64 lat → FitsSigned w64 lon
    → r ≡ node_front before head (read id) (read lat) (read lon) → r ≡ node_front before head id lat lon
front_read before head id lat lon r e f h is =
    is ∙ rw (to_z-of_z w64 id e, to_z-of_z w64 lat f, to_z-of_z w64 lon h) refl

-- ---- a node, as it is stored

pub stored-is : (before : List Entity) (b : PrimitiveBlock) (id lat lon : Option ℕ) (i y x : ℕ) (p q r : ℤ)
    (keys vals : List ℕ) (answer : Result Entity EntityFault) → id ≡ Some i → lat ≡ Some y → lon ≡ Some x
    → p ≡ unzigzag_of i → q ≡ unzigzag_of y → r ≡ unzigzag_of x
    → FitsSigned w64 p → FitsSigned w64 q → FitsSigned w64 r
    → answer ≡ entity_behind before (node_at b (read p) (read q) (read r) (indexed_tags b.strings keys vals))
    → answer ≡ placed before (stored_object b id lat lon keys vals)
stored-is before b id lat lon i y x p q r keys vals answer is_id is_lat is_lon is_p is_q is_r e f h is =
    is
    ∙ rw (to_z-of_z w64 p e, to_z-of_z w64 q f, to_z-of_z w64 r h, is_id, is_lat, is_lon, ← is_p, ← is_q, ← is_r) refl

pub node-refused : (before : List Entity) (b : PrimitiveBlock) (bytes : List ℕ) (fault : MessageFault)
    → message NODE bytes ≡ Err fault → Err (Wire fault) ≡ placed before (node_object b bytes)
unfolding node_object
node-refused before b bytes fault e = rw (e, node_object) refl

pub node-stored : (before : List Entity) (b : PrimitiveBlock) (bytes : List ℕ) (fs : List Field)
    (id lat lon : Option ℕ) (keys vals : List ℕ) (answer : Result Entity EntityFault) → message NODE bytes ≡ Ok fs
    → id ≡ number_of NODE_ID fs → lat ≡ number_of NODE_LAT fs → lon ≡ number_of NODE_LON fs
    → keys ≡ packed_of NODE_KEYS fs → vals ≡ packed_of NODE_VALS fs
    → answer ≡ placed before (stored_object b id lat lon keys vals) → answer ≡ placed before (node_object b bytes)
unfolding node_object
node-stored before b bytes fs id lat lon keys vals answer e is_id is_lat is_lon is_keys is_vals is =
    is ∙ rw (e, is_id, is_lat, is_lon, is_keys, is_vals, node_object) refl
