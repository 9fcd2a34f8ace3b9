-- A pass over the objects of a block comes to what the block spells, behind the entities before it.
use Rattle.std.proofs.Common.{◌≡◌, ◌∙◌, ◌≤◌, ◌∷◌, ◌++◌, length, arith, ℕ, List, [], Some, None, Result, Ok, Err, refl, sym, ap}
use Rattle.std.proofs.Common.{append-nil, append_assoc, subst}
use Rattle.std.proofs.lemmas.Option.{none-some, same_Some}
use Rattle.std.specs.Prelude.{filter_map, option_map}
use Rattle.mf_base.specs.Steps.{fault_of}
use Rattle.osm_model.specs.declared.faults.BlockFault.{BlockFault}
use Rattle.osm_model.specs.declared.faults.BlockFault.TheVariants.{Wire}
use Rattle.osm_model.specs.declared.faults.MessageFault.{MessageFault}
use Rattle.osm_model.specs.declared.numbers.TheConstants.{BLOCK_PRIMITIVEGROUP}
use Rattle.osm_model.specs.declared.tables.TheConstants.{PRIMITIVE_BLOCK}
use Rattle.osm_model.specs.Wire.{fields}
use Rattle.osm_model.specs.Tables.{message, bytes_of}
use Rattle.osm_model.specs.declared.faults.EntityFault.{EntityFault}
use Rattle.osm_model.specs.declared.faults.InputCode.TheVariants as input_codes
use Rattle.osm_model.specs.Reading.{Reading, stops_at, then_reads, with_front}
use Rattle.osm_model.specs.Frames.{primitive}
use Rattle.osm_model.specs.Blocks.{BlockHead, PrimitiveBlock, block, block_head, block_strings}
use Rattle.osm_model.specs.Entities.{Entity}
use Rattle.osm_model.specs.Objects.{Object, told_entity, block_objects, block_entities}
use Rattle.osm_model.specs.Input.{content_fault, content_entities, block_fault, entities_in}
use Rattle.osm_model.specs.Order.{in_order, IsRising}
use Rattle.osm_model.proofs.OrderLaws.{in_order-all}
use Rattle.osm_model.proofs.BlockLaws.{block-fault, head-fault, block-whole}
use Rattle.osm_model.proofs.RisingLaws.{block-rises}
use Rattle.osm_entity.specs.InBlock.{texts_at}
use Rattle.extract_pass.specs.EntitySizes.{entities_size}
use Rattle.extract_pass.specs.BlobReading.{sound_in, sound_entities}
use Rattle.extract_pass.proofs.FieldSizes.{total, bytes_size, fields-size, bytes-of-size}
use Rattle.extract_pass.proofs.ObjectSizes.{objects_size, block-size, in_order-size}

-- ---- the objects of a block

-- Behind the entities before a block, of its objects these were given as entities, without a fault, and these are left.
abbrev pub AreGiven : List Entity → List (Result Object EntityFault) → List Entity → List (Result Object EntityFault)
    → Type 0
AreGiven before objects given left = in_order before objects ≡ with_front given (in_order (before ++ given) left)

pub given-first : (before : List Entity) (objects : List (Result Object EntityFault))
    → AreGiven before objects [] objects
given-first before objects = ap (λ es. in_order es objects) (sym (append-nil before))

pub given-next : (before given : List Entity) (e : Entity) (objects left rest : List (Result Object EntityFault))
    → AreGiven before objects given left
    → in_order (before ++ given) left ≡ then_reads e (in_order ((before ++ given) ++ e ∷ []) rest)
    → AreGiven before objects (given ++ e ∷ []) rest
given-next before given e objects left rest so next =
    let behind : Reading Entity EntityFault = in_order (before ++ (given ++ e ∷ [])) rest in
    so ∙ ap (with_front given) next
    ∙ ap (λ es. with_front given (then_reads e (in_order es rest))) (append_assoc before given (e ∷ []))
    ∙ ap (λ items. record { items = items; fault = behind.fault }) (sym (append_assoc given (e ∷ []) behind.items))

-- where all were given, or a fault is next, those that were given are all that stand in order
pub given-items : (before given : List Entity) (objects left : List (Result Object EntityFault))
    → AreGiven before objects given left → (in_order (before ++ given) left).items ≡ []
    → (in_order before objects).items ≡ given
given-items before given objects left so none =
    ap (λ (r : Reading Entity EntityFault). r.items) so ∙ ap (λ es. given ++ es) none ∙ append-nil given

pub given-fault : (before given : List Entity) (objects left : List (Result Object EntityFault)) (fault : EntityFault)
    → AreGiven before objects given left → in_order (before ++ given) left ≡ stops_at fault
    → (in_order before objects).fault ≡ Some fault
given-fault before given objects left fault so stop =
    ap (λ (r : Reading Entity EntityFault). r.fault) (so ∙ ap (with_front given) stop)

-- ---- a PrimitiveBlock

fault_in : (before : List Entity) (raw : List ℕ) (b : PrimitiveBlock) → block raw ≡ Ok b
    → block_fault before raw ≡ option_map input_codes.Entity (in_order before (block_objects b)).fault
unfolding block_fault
fault_in before raw b e = rw (e, block_fault) refl

told_in : (raw : List ℕ) (b : PrimitiveBlock) → block raw ≡ Ok b
    → entities_in raw ≡ filter_map told_entity (block_objects b)
unfolding entities_in block_entities
told_in raw b e = rw (e, entities_in) refl

refused_in : (before : List Entity) (raw : List ℕ) (fault : BlockFault) → block raw ≡ Err fault
    → block_fault before raw ≡ Some (input_codes.Block fault)
unfolding block_fault
refused_in before raw fault e = rw (e, block_fault) refl

items_in : (before : List Entity) (raw : List ℕ) (b : PrimitiveBlock) → block raw ≡ Ok b
    → sound_in before raw ≡ (in_order before (block_objects b)).items
unfolding sound_in
items_in before raw b e = rw (e, sound_in) refl

none_in : (before : List Entity) (raw : List ℕ) (fault : BlockFault) → block raw ≡ Err fault → sound_in before raw ≡ []
unfolding sound_in
none_in before raw fault e = rw (e, sound_in) refl

-- the fault up to the strings of a block is that of the block
pub block-refused : (before : List Entity) (raw : List ℕ) (fault : BlockFault) → block_strings raw ≡ Err fault
    → content_fault before (primitive raw) ≡ Some (input_codes.Block fault)
block-refused before raw fault e = refused_in before raw fault ((block-fault raw fault).1 e)

pub fault-is : (A : Type 0) (r : Result A BlockFault) (fault : BlockFault) → Some fault ≡ fault_of r → r ≡ Err fault
fault-is A (Ok x) fault e = absurd (none-some fault (sym e))
fault-is A (Err f) fault e = ap Err (same_Some f fault (sym e))

message_refused : (raw : List ℕ) (told : MessageFault) → message PRIMITIVE_BLOCK raw ≡ Err told
    → block_strings raw ≡ Err (Wire told)
unfolding block_strings
message_refused raw told e = rw (e, block_strings) refl

-- a fault of the head is one of the strings
pub head-refused : (raw : List ℕ) (fault : BlockFault) → block_head raw ≡ Err fault → block_strings raw ≡ Err fault
head-refused raw fault e =
    let h = (head-fault raw fault).0 e in message_refused raw h.0 h.1 ∙ ap Err (sym h.2)

pub sound-none : (es : List Entity) (raw : List ℕ) (fault : BlockFault) → block_strings raw ≡ Err fault
    → sound_entities es (primitive raw) ≡ []
sound-none es raw fault e = none_in es raw fault ((block-fault raw fault).1 e)

-- What a PrimitiveBlock without a fault comes to.
pub record IsSound (es : List Entity) (raw : List ℕ) (b : PrimitiveBlock) : Type 0 where
  pub sound : content_fault es (primitive raw) ≡ None
  pub told : content_entities (primitive raw) ≡ (in_order es (block_objects b)).items

pub primitive-sound : (es : List Entity) (raw : List ℕ) (b : PrimitiveBlock) → block raw ≡ Ok b
    → (in_order es (block_objects b)).fault ≡ None → IsSound es raw b
primitive-sound es raw b is none = record {
  sound = fault_in es raw b is ∙ ap (option_map input_codes.Entity) none;
  told = told_in raw b is ∙ in_order-all es (block_objects b) none;
}

-- The objects are those of the block that the bytes spell, and take no more bytes than these.
pub record HasObjects (raw : List ℕ) (objects : List (Result Object EntityFault)) : Type 0 where
  pub in_block : PrimitiveBlock
  pub is : block raw ≡ Ok in_block
  pub same : objects ≡ block_objects in_block
  pub few : objects_size objects ≤ length raw

-- the objects of a block with the groups of these bytes take no more bytes than these
of_block : (raw : List ℕ) (objects : List (Result Object EntityFault)) (b : PrimitiveBlock)
    → b.groups ≡ bytes_of BLOCK_PRIMITIVEGROUP (fields raw).items → objects ≡ block_objects b
    → objects_size objects ≤ length raw
of_block raw objects b groups same =
    let most = subst (λ gs. objects_size (block_objects b) ≤ total bytes_size gs) groups (block-size b) in
    omega (arith, ap objects_size same, most, bytes-of-size BLOCK_PRIMITIVEGROUP (fields raw).items, fields-size raw)

pub has-objects : (raw places : List ℕ) (head : BlockHead) (objects : List (Result Object EntityFault))
    → block_head raw ≡ Ok head → block_strings raw ≡ Ok (texts_at raw places)
    → ((b : PrimitiveBlock) → block raw ≡ Ok b → objects ≡ block_objects b) → HasObjects raw objects
has-objects raw places head objects is_head are_strings told =
    let b : PrimitiveBlock = record {
      head = head;
      strings = texts_at raw places;
      groups = bytes_of BLOCK_PRIMITIVEGROUP (fields raw).items;
    } in
    let is = block-whole raw b (record { head = is_head; strings = are_strings; groups = refl }) in
    let same = told b is in
    record { in_block = b; is = is; same = same; few = of_block raw objects b refl same }

-- the entities of these objects that stand in order take no more bytes
pub objects-fit : (before : List Entity) (raw : List ℕ) (objects : List (Result Object EntityFault))
    → HasObjects raw objects → entities_size (in_order before objects).items ≤ length raw
objects-fit before raw objects has = omega (arith, in_order-size before objects, has.few)

pub objects-rise : (es : List Entity) (raw : List ℕ) (objects : List (Result Object EntityFault))
    → HasObjects raw objects → IsRising es → IsRising (es ++ (in_order es objects).items)
objects-rise es raw objects has rising =
    subst (λ l. IsRising (es ++ (in_order es l).items)) (sym has.same) (block-rises es has.in_block rising)

-- the fault and the entities before it are those of its objects that stand in order
pub stop-in : (es : List Entity) (raw : List ℕ) (objects : List (Result Object EntityFault)) → HasObjects raw objects
    → content_fault es (primitive raw) ≡ option_map input_codes.Entity (in_order es objects).fault
stop-in es raw objects has =
    fault_in es raw has.in_block has.is ∙ ap (λ l. option_map input_codes.Entity (in_order es l).fault) (sym has.same)

pub sound-in : (es : List Entity) (raw : List ℕ) (objects : List (Result Object EntityFault)) → HasObjects raw objects
    → sound_entities es (primitive raw) ≡ (in_order es objects).items
sound-in es raw objects has =
    items_in es raw has.in_block has.is ∙ ap (λ l. (in_order es l).items) (sym has.same)
