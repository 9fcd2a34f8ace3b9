-- The entities of a block, one after another.
use Rattle.std.proofs.Common.{◌≡◌, ◌∙◌, ◌∷◌, ◌++◌, ℕ, List, [], false, Option, Some, None}
use Rattle.std.proofs.Common.{Result, Ok}
use Rattle.std.proofs.Common.{◌<◌, length, arith}
use Rattle.std.proofs.Common.{Err, ap, refl, sym, subst}
use Rattle.std.specs.Prelude.{flat_map}
use Rattle.mf_base.specs.Steps.{◌>>=◌, told_as}
use Rattle.mf_base.specs.Texts.{Text}
use Rattle.mf_base.proofs.StepLaws.{bind_ok, ok_is, told_ok, err_is_no_ok}
use Rattle.osm_model.specs.declared.faults.BlockFault.{BlockFault}
use Rattle.osm_model.specs.declared.faults.BlockFault.TheVariants as block_faults
use Rattle.osm_model.specs.declared.faults.MessageFault.{MessageFault}
use Rattle.osm_model.specs.declared.faults.EntityFault.{EntityFault}
use Rattle.osm_model.specs.declared.tables.TheConstants.{PRIMITIVE_BLOCK}
use Rattle.osm_model.specs.declared.numbers.TheConstants.{BLOCK_PRIMITIVEGROUP}
use Rattle.osm_model.specs.Reading.{then_reads, stops_at}
use Rattle.osm_model.specs.Wire.{Field, fields, fields_behind}
use Rattle.osm_model.specs.Tables.{message, message_fault, bytes_of, Table}
use Rattle.osm_model.specs.Blocks.{BlockHead, PrimitiveBlock, block, block_head, block_strings, block_head_of}
use Rattle.osm_model.specs.Blocks.{strings_of}
use Rattle.osm_model.specs.Entities as entities
use Rattle.osm_model.specs.Objects.{Object, block_objects, group_objects, field_objects}
use Rattle.osm_model.specs.Order.{in_order, has_later_kind}
use Rattle.osm_model.proofs.OrderLaws.{in_order-err, in_order-refused, in_order-next}
use Rattle.osm_entity.specs.InBlock.{texts_at}
use Rattle.osm_entity.specs.EntityViews.{entity_told, IsFirst, HasFault, GivesObject}
use Rattle.osm_entity.specs.BlockEntities.{groups_in, left_or_fault}
use Rattle.osm_entity.specs.declared.entity.Entity.{Entity}

-- ---- the block that was read

abbrev items_or : List ℕ → Option MessageFault → Result (List Field) MessageFault
items_or bytes o = elim o [ None ↦ Ok (fields bytes).items | Some fault ↦ Err fault ]

items-of : (table : Table) (bytes : List ℕ) (fs : List Field) → message table bytes ≡ Ok fs → fs ≡ (fields bytes).items
unfolding message
items-of table bytes fs e = go (message_fault table bytes) e
  where
    go : (o : Option MessageFault) → items_or bytes o ≡ Ok fs → fs ≡ (fields bytes).items
    go None e = sym (ok_is (fields bytes).items fs e)
    go (Some fault) e = absurd (err_is_no_ok fault fs e)

abbrev read_block : List ℕ → Result (List Field) BlockFault
read_block raw = told_as block_faults.Wire (message PRIMITIVE_BLOCK raw)

abbrev block_of_fields : List Field → List Text → PrimitiveBlock
block_of_fields fs strings = record {
  head = block_head_of fs;
  strings = strings;
  groups = bytes_of BLOCK_PRIMITIVEGROUP fs;
}

record BlockParts (raw : List ℕ) (b : PrimitiveBlock) : Type 0 where
  fs : List Field
  texts : List Text
  is_read : read_block raw ≡ Ok fs
  told : strings_of fs ≡ Ok texts
  is : block_of_fields fs texts ≡ b

parts : (raw : List ℕ) (b : PrimitiveBlock) → block raw ≡ Ok b → BlockParts raw b
unfolding block
parts raw b e =
    let (fs, read, rest) = bind_ok (read_block raw)
    (λ fs. strings_of fs >>= λ strings. Ok (block_of_fields fs strings)) b e in
    let (texts, told, is) = bind_ok (strings_of fs) (λ strings. Ok (block_of_fields fs strings)) b rest in
    record { fs = fs; texts = texts; is_read = read; told = told; is = ok_is (block_of_fields fs texts) b is }

head-is : (raw : List ℕ) (fs : List Field) → read_block raw ≡ Ok fs → block_head raw ≡ Ok (block_head_of fs)
unfolding block_head
head-is raw fs e = ap (λ r. r >>= λ fs. Ok (block_head_of fs)) e

strings-are : (raw : List ℕ) (fs : List Field) → read_block raw ≡ Ok fs → block_strings raw ≡ strings_of fs
unfolding block_strings
strings-are raw fs e = ap (λ r. r >>= strings_of) e

-- a block is its head, its strings and its groups
pub block-is : (raw places : List ℕ) (head : BlockHead) (b : PrimitiveBlock) → block_head raw ≡ Ok head
    → block_strings raw ≡ Ok (texts_at raw places) → block raw ≡ Ok b
    → record { head = head; strings = texts_at raw places; groups = bytes_of BLOCK_PRIMITIVEGROUP (fields raw).items }
    ≡ b
block-is raw places head b is_head are_strings e =
    let p = parts raw b e in
    let heads : block_head_of p.fs ≡ head =
    ok_is (block_head_of p.fs) head (sym (head-is raw p.fs p.is_read) ∙ is_head) in
    let strings : p.texts ≡ texts_at raw places = ok_is p.texts (texts_at raw places) (sym p.told
    ∙ sym (strings-are raw p.fs p.is_read) ∙ are_strings) in
    let items = items-of PRIMITIVE_BLOCK raw p.fs
    (told_ok block_faults.Wire (message PRIMITIVE_BLOCK raw) p.fs p.is_read) in
    ap (λ h. record {
      head = h;
      strings = texts_at raw places;
      groups = bytes_of BLOCK_PRIMITIVEGROUP (fields raw).items;
    }) (sym heads)
    ∙ ap (λ ss. record {
      head = block_head_of p.fs;
      strings = ss;
      groups = bytes_of BLOCK_PRIMITIVEGROUP (fields raw).items;
    }) (sym strings)
    ∙ ap (λ fs. record { head = block_head_of p.fs; strings = p.texts; groups = bytes_of BLOCK_PRIMITIVEGROUP fs })
    (sym items)
    ∙ p.is

groups-are : (b : PrimitiveBlock) (raw : List ℕ) → b.groups ≡ bytes_of BLOCK_PRIMITIVEGROUP (fields raw).items
    → groups_in b raw ≡ block_objects b
unfolding block_objects
groups-are b raw e = ap (flat_map (group_objects b)) (sym e)

-- all objects of the block
pub all-objects : (raw places : List ℕ) (head : BlockHead) (b shown : PrimitiveBlock) → block_head raw ≡ Ok head
    → block_strings raw ≡ Ok (texts_at raw places) → block raw ≡ Ok b
    → shown ≡ record {
      head = head;
      strings = texts_at raw places;
      groups = bytes_of BLOCK_PRIMITIVEGROUP (fields raw).items;
    }
    → groups_in shown raw ≡ block_objects b
all-objects raw places head b shown is_head are_strings e is =
    groups-are shown raw (ap (λ (x : PrimitiveBlock). x.groups) is)
    ∙ ap block_objects (is ∙ block-is raw places head b is_head are_strings e)

-- ---- an entity in its order

pub reads-first : (before : List entities.Entity) (left rest : List (Result Object EntityFault)) (e : Entity)
    → IsFirst before left e rest
    → in_order before left ≡ then_reads (entity_told e) (in_order (before ++ entity_told e ∷ []) rest)
reads-first before left rest e (Ok object, is, told, later) = ap (in_order before) is
    ∙ in_order-next before object rest (entity_told e) told
reads-first before left rest e (Err fault, is, told, later) = absurd (err_is_no_ok fault (entity_told e) told)

pub reads-fault : (before : List entities.Entity) (left : List (Result Object EntityFault)) (fault : EntityFault)
    → HasFault before left fault → in_order before left ≡ stops_at fault
reads-fault before left fault (Ok object, others, is, told) = ap (in_order before) is
    ∙ in_order-refused before object others fault told
reads-fault before left fault (Err f, others, is, told) = ap (in_order before) is
    ∙ in_order-err before f others ∙ ap stops_at (same f fault told)
  where
    same : (f g : EntityFault) → ◌≡◌ {A = Result entities.Entity EntityFault} (Err f) (Err g) → f ≡ g
    same f g e = cc

pub shown-is : (raw places others : List ℕ) (head : BlockHead) → places ≡ others
    → ◌≡◌ {A = PrimitiveBlock} (record {
      head = head;
      strings = texts_at raw places;
      groups = bytes_of BLOCK_PRIMITIVEGROUP (fields raw).items;
    })
    (record { head = head; strings = texts_at raw others; groups = bytes_of BLOCK_PRIMITIVEGROUP (fields raw).items })
shown-is raw places others head e =
    ap (λ ps. record {
      head = head;
      strings = texts_at raw ps;
      groups = bytes_of BLOCK_PRIMITIVEGROUP (fields raw).items;
    }) e

pub group-first : (b : PrimitiveBlock) (groups left bytes : List ℕ) (more : List (List ℕ)) (fault : EntityFault)
    → left ≡ groups → bytes_of BLOCK_PRIMITIVEGROUP (fields left).items ≡ bytes ∷ more
    → group_objects b bytes ≡ Err fault ∷ []
    → groups_in b groups ≡ Err fault ∷ flat_map (group_objects b) more
group-first b groups left bytes more fault e is told =
    ap (groups_in b) (sym e) ∙ ap (flat_map (group_objects b)) is
    ∙ ap (λ xs. xs ++ flat_map (group_objects b) more) told

-- ---- the next entity

-- the fault that was told is told again
pub record ToldAgain (before : List entities.Entity) (left : List (Result Object EntityFault)) (fault : EntityFault)
    : Type 0 where
  pub reads : in_order before left ≡ stops_at fault
  pub left_so : left ≡ Err fault ∷ []

pub told-again : (before : List entities.Entity) (o : Option EntityFault) (objects : List (Result Object EntityFault))
    (fault : EntityFault) → o ≡ Some fault → ToldAgain before (left_or_fault o objects) fault
told-again before o objects fault e = subst (λ o. ToldAgain before (left_or_fault o objects) fault) (sym e) (record {
  reads = in_order-err before fault [];
  left_so = refl;
})

-- the next entity, and what is left behind it
pub record NextEntity (before : List entities.Entity) (left rest : List (Result Object EntityFault)) (e : Entity)
    : Type 0 where
  pub reads : in_order before left ≡ then_reads (entity_told e) (in_order (before ++ entity_told e ∷ []) rest)
  pub later : has_later_kind (entities.kind_of (entity_told e)) before ≡ false
  pub shorter : length rest < length left

pub next-entity : (before : List entities.Entity) (o p : Option EntityFault)
    (left rest : List (Result Object EntityFault)) (e : Entity) (f : Option Entity) → o ≡ None → p ≡ None → f ≡ Some e
    → GivesObject before left (Ok f) rest → NextEntity before (left_or_fault o left) (left_or_fault p rest) e
next-entity before o p left rest e f is_o is_p is_f told =
    let first : IsFirst before left e rest = subst (λ f. GivesObject before left (Ok f) rest) is_f told in
    subst (λ o. NextEntity before (left_or_fault o left) (left_or_fault p rest) e) (sym is_o)
    (subst (λ p. NextEntity before left (left_or_fault p rest) e) (sym is_p) (record {
      reads = reads-first before left rest e first;
      later = first.3;
      shorter = omega (arith, ap length first.1);
    }))

pub next-fault : (before : List entities.Entity) (o : Option EntityFault) (left : List (Result Object EntityFault))
    (fault : EntityFault) → o ≡ None → HasFault before left fault
    → in_order before (left_or_fault o left) ≡ stops_at fault
next-fault before o left fault is told =
    ap (λ o. in_order before (left_or_fault o left)) is ∙ reads-fault before left fault told

no_fields : (fields []).items ≡ []
unfolding fields_behind
no_fields = refl

-- before the first group nothing is left of one
pub empty-first : (b : PrimitiveBlock) (others : List (Result Object EntityFault))
    → flat_map (field_objects b) (fields []).items ++ others ≡ others
empty-first b others = ap (λ fs. flat_map (field_objects b) fs ++ others) no_fields
