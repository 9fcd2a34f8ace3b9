-- A PrimitiveBlock is its head, its strings and its groups: readers of the one or the other cite this.
use Rattle.std.proofs.Common.{◌≡◌, ◌∙◌, ℕ, List, refl, sym, ap, Result, Ok, Err, Option, Some, None}
use Rattle.std.specs.Prelude.{◌↔◌}
use Rattle.mf_base.specs.Steps.{◌>>=◌, told_as}
use Rattle.mf_base.proofs.StepLaws.{err_is_no_ok, bind_ok, told_ok, ok_is}
use Rattle.osm_model.specs.declared.faults.MessageFault.{MessageFault}
use Rattle.osm_model.specs.declared.faults.BlockFault.{BlockFault}
use Rattle.osm_model.specs.declared.faults.BlockFault.TheVariants.{Wire}
use Rattle.osm_model.specs.declared.numbers.TheConstants.{BLOCK_PRIMITIVEGROUP}
use Rattle.osm_model.specs.declared.tables.TheConstants.{PRIMITIVE_BLOCK}
use Rattle.osm_model.specs.Wire.{Field, fields}
use Rattle.osm_model.specs.Tables.{Table, message, message_fault, bytes_of}
use Rattle.osm_model.specs.Blocks.{BlockHead, PrimitiveBlock, block, block_head, block_strings, block_head_of}
use Rattle.osm_model.specs.Blocks.{strings_of}
use Rattle.osm_model.proofs.TableMessageLaws.{message-none, message-some}

-- the fields of a message are all that are read
pub message-items : (table : Table) (bytes : List ℕ) (fs : List Field) → message table bytes ≡ Ok fs
    → fs ≡ (fields bytes).items
message-items table bytes fs e = go (message_fault table bytes) refl
  where
    go : (o : Option MessageFault) → message_fault table bytes ≡ o → fs ≡ (fields bytes).items
    go None is = ok_is _ _ (sym e ∙ message-none table bytes is)
    go (Some fault) is = absurd (err_is_no_ok fault fs (sym (message-some table bytes fault is) ∙ e))

-- ---- the three, from the fields

abbrev made : List Field → List (List ℕ) → PrimitiveBlock
made fs strings = record { head = block_head_of fs; strings = strings; groups = bytes_of BLOCK_PRIMITIVEGROUP fs }

abbrev block_from : Result (List Field) MessageFault → Result PrimitiveBlock BlockFault
block_from r = told_as Wire r >>= λ fs. strings_of fs >>= λ strings. Ok (made fs strings)

abbrev head_from : Result (List Field) MessageFault → Result BlockHead BlockFault
head_from r = told_as Wire r >>= λ fs. Ok (block_head_of fs)

abbrev strings_from : Result (List Field) MessageFault → Result (List (List ℕ)) BlockFault
strings_from r = told_as Wire r >>= strings_of

block-from : (raw : List ℕ) → block raw ≡ block_from (message PRIMITIVE_BLOCK raw)
unfolding block
block-from raw = refl

head-from : (raw : List ℕ) → block_head raw ≡ head_from (message PRIMITIVE_BLOCK raw)
unfolding block_head
head-from raw = refl

strings-from : (raw : List ℕ) → block_strings raw ≡ strings_from (message PRIMITIVE_BLOCK raw)
unfolding block_strings
strings-from raw = refl

-- ---- a block that is read

-- The bytes have this head, these strings and these groups.
pub record IsBlock (raw : List ℕ) (b : PrimitiveBlock) : Type 0 where
  pub head : block_head raw ≡ Ok b.head
  pub strings : block_strings raw ≡ Ok b.strings
  pub groups : b.groups ≡ bytes_of BLOCK_PRIMITIVEGROUP (fields raw).items

pub block-parts : (raw : List ℕ) (b : PrimitiveBlock) → block raw ≡ Ok b → IsBlock raw b
block-parts raw b e =
    let (fs, read, r1) = bind_ok _ _ _ (sym (block-from raw) ∙ e) in
    let (strings, told, last) = bind_ok _ _ _ r1 in
    let found : message PRIMITIVE_BLOCK raw ≡ Ok fs = told_ok Wire _ fs read in
    let same : made fs strings ≡ b = ok_is _ _ last in
    let items = message-items PRIMITIVE_BLOCK raw fs found in record {
      head = head-from raw ∙ ap head_from found ∙ ap (λ (x : PrimitiveBlock). Ok x.head) same;
      strings = strings-from raw ∙ ap strings_from found ∙ told ∙ ap (λ (x : PrimitiveBlock). Ok x.strings) same;
      groups = ap (λ (x : PrimitiveBlock). x.groups) (sym same) ∙ ap (bytes_of BLOCK_PRIMITIVEGROUP) items;
    }

pub block-whole : (raw : List ℕ) (b : PrimitiveBlock) → IsBlock raw b → block raw ≡ Ok b
block-whole raw b is =
    let (fs, read, r1) = bind_ok _ _ _ (sym (head-from raw) ∙ is.head) in
    let found : message PRIMITIVE_BLOCK raw ≡ Ok fs = told_ok Wire _ fs read in
    let head : block_head_of fs ≡ b.head = ok_is _ _ r1 in
    let strings : strings_of fs ≡ Ok b.strings = sym (strings-from raw ∙ ap strings_from found) ∙ is.strings in
    let groups : bytes_of BLOCK_PRIMITIVEGROUP fs ≡ b.groups =
    ap (bytes_of BLOCK_PRIMITIVEGROUP) (message-items PRIMITIVE_BLOCK raw fs found) ∙ sym is.groups in
    block-from raw ∙ ap block_from found ∙ ap (λ s. s >>= λ strings. Ok (made fs strings)) strings
    ∙ ap (λ h. Ok (record { head = h; strings = b.strings; groups = bytes_of BLOCK_PRIMITIVEGROUP fs })) head
    ∙ ap (λ g. Ok (record { head = b.head; strings = b.strings; groups = g })) groups

-- ---- its faults

err_as : {A B F : Type 0} (f g : F) → ◌≡◌ {A = Result A F} (Err f) (Err g) → ◌≡◌ {A = Result B F} (Err f) (Err g)
err_as f g e = cc

pub err_is : {A F : Type 0} (f g : F) → ◌≡◌ {A = Result A F} (Err f) (Err g) → f ≡ g
err_is f g e = cc

no_ok : {A F : Type 0} (f : F) (x : A) → ◌≡◌ {A = Result A F} (Ok x) (Err f) → ⊥
no_ok f x e = err_is_no_ok f x (sym e)

strings_fault : (fs : List Field) (s : Result (List (List ℕ)) BlockFault) (fault : BlockFault)
    → ((s >>= λ strings. Ok (made fs strings)) ≡ Err fault) ↔ (s ≡ Err fault)
strings_fault fs (Ok strings) fault =
    (λ e. absurd (no_ok fault (made fs strings) e), λ e. absurd (no_ok fault strings e))
strings_fault fs (Err told) fault = (err_as told fault, err_as told fault)

same_fault : (r : Result (List Field) MessageFault) (fault : BlockFault) → (block_from r ≡ Err fault)
    ↔ (strings_from r ≡ Err fault)
same_fault (Err told) fault = (err_as (Wire told) fault, err_as (Wire told) fault)
same_fault (Ok fs) fault = strings_fault fs (strings_of fs) fault

pub block-fault : (raw : List ℕ) (fault : BlockFault) → (block raw ≡ Err fault) ↔ (block_strings raw ≡ Err fault)
block-fault raw fault =
    let same = same_fault (message PRIMITIVE_BLOCK raw) fault in (
      λ e. strings-from raw ∙ same.0 (sym (block-from raw) ∙ e),
      λ e. block-from raw ∙ same.1 (sym (strings-from raw) ∙ e),
    )

head_fault : (r : Result (List Field) MessageFault) (fault : BlockFault) → (head_from r ≡ Err fault)
    ↔ ((told : MessageFault) × (r ≡ Err told) × (fault ≡ Wire told))
head_fault (Ok fs) fault = (λ e. absurd (no_ok fault (block_head_of fs) e), λ h. absurd (no_ok h.0 fs h.1))
head_fault (Err told) fault = (
  λ e. (told, refl, sym (err_is (Wire told) fault e)),
  λ h. ap (λ f. Err (Wire f)) (err_is told h.0 h.1)
      ∙ ap Err (sym h.2),
)

pub head-fault : (raw : List ℕ) (fault : BlockFault) → (block_head raw ≡ Err fault)
    ↔ ((told : MessageFault) × (message PRIMITIVE_BLOCK raw ≡ Err told) × (fault ≡ Wire told))
head-fault raw fault =
    let same = head_fault (message PRIMITIVE_BLOCK raw) fault in (
      λ e. same.0 (sym (head-from raw) ∙ e),
      λ h. head-from raw ∙ same.1 h,
    )

pub block-in_parts : (raw : List ℕ) (b : PrimitiveBlock) → (block raw ≡ Ok b)
    ↔ ((block_head raw ≡ Ok b.head) × (block_strings raw ≡ Ok b.strings)
    × (b.groups ≡ bytes_of BLOCK_PRIMITIVEGROUP (fields raw).items))
block-in_parts raw b = (
  λ e. let is = block-parts raw b e in (is.head, is.strings, is.groups),
  λ h. block-whole raw b (record { head = h.0; strings = h.1; groups = h.2 }),
)
