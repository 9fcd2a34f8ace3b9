-- Objects in order rise.
use Rattle.std.proofs.Common.{◌≡◌, ◌==◌, ℕ, ◌<◌, ◌≤◌, List, [], ◌∷◌, ◌++◌, refl, sym, ap, subst, ◌∙◌, arith, inl, inr}
use Rattle.std.proofs.Common.{true, false, Bool, cond, Result, Ok, Err, Option, Some, None, ℤ, pos, negsuc, nat_lt}
use Rattle.std.proofs.Common.{append_assoc, append-nil}
use Rattle.std.specs.Prelude.{⊤, nat_abs, int_le, map, unwrap_or, filter}
use Rattle.std.specs.List.{All, AllByRecursion, last_or}
use Rattle.std.proofs.lemmas.Bool.{leb-false, ltb-false, false≢true, or_parts}
use Rattle.std.proofs.lemmas.List.Elements.{All-head, All-tail, All-nil, All-cons}
use Rattle.mf_base.specs.declared.kind.EntityKind.{EntityKind}
use Rattle.mf_base.proofs.Pairs.{EachPair, each_pair, all_pairs}
use Rattle.mf_base.specs.Steps.{refuse}
use Rattle.mf_base.proofs.StepLaws.{bind_ok, refuse_ok, chosen}
use Rattle.mf_base.specs.declared.kind.EntityKind.TheVariants as kinds
use Rattle.osm_model.specs.declared.faults.EntityFault.{EntityFault}
use Rattle.osm_model.specs.declared.faults.EntityFault.TheVariants as entity_faults
use Rattle.osm_model.specs.Reading.{Reading}
use Rattle.osm_model.specs.Blocks.{PrimitiveBlock}
use Rattle.osm_model.specs.Objects.{Object, block_objects}
use Rattle.osm_model.specs.Entities.{Entity, kind_of, id_of}
use Rattle.osm_model.specs.Order.{rank, has_later_kind, ids_of, last_id, order_fault, entity_behind, in_order}
use Rattle.osm_model.specs.Order.{kind_and_id, Precedes, IsRising}
use Rattle.osm_model.proofs.TableLaws.{some_no_none}
use Rattle.osm_model.proofs.OrderLaws.{in_order-nil, in_order-err, in_order-refused, in_order-next}
use Rattle.osm_model.proofs.ObjectWalk.{AllHold}
use Rattle.osm_model.proofs.TellingLaws.{Consistent, block_tell}

-- the first object may stand before the second
abbrev Before : Entity → Entity → Type 0
Before d e = Precedes (kind_and_id d) (kind_and_id e)

-- each id is above 0, and each object may stand before all that follow: by recursion on the list
abbrev Rises : List Entity → Type 0
Rises [] = ⊤
Rises (e ∷ es) = (0 < id_of e) × AllByRecursion (λ later. Before e later) es × Rises es

rises_of_pairs : (es : List Entity) → All (λ e. 0 < id_of e) es → EachPair Before es → Rises es
rises_of_pairs [] some pairs = tt
rises_of_pairs (e ∷ es) some pairs =
    (All-head (λ x. 0 < id_of x) e es some, pairs.0, rises_of_pairs es (All-tail (λ x. 0 < id_of x) e es some) pairs.1)

rises : (es : List Entity) → IsRising es → Rises es
rises es h = rises_of_pairs es h.0 (each_pair Before es h.1)

rising_pairs : (es : List Entity) → Rises es → All (λ e. 0 < id_of e) es × EachPair Before es
rising_pairs [] h = (All-nil (λ x. 0 < id_of x), tt)
rising_pairs (e ∷ es) h = let others = rising_pairs es h.2 in
    (All-cons (λ x. 0 < id_of x) e es h.0 others.0, (h.1, others.1))

is_rising : (es : List Entity) → Rises es → IsRising es
is_rising es h = let parts = rising_pairs es h in (parts.0, all_pairs Before es parts.1)

pub rising_nil : IsRising []
rising_nil = is_rising [] tt

pub below_id : (id : ℤ) (n : ℕ) → int_le id (pos n) ≡ false → n < nat_abs id
below_id (pos m) n e = leb-false m n e
below_id (negsuc m) n e = absurd (false≢true (sym e))

-- kinds of one rank are one kind
one_rank : (j k : EntityKind) → (rank j == rank k) ≡ true → j ≡ k
one_rank kinds.Node kinds.Node e = refl
one_rank kinds.Node kinds.Way e = absurd (false≢true e)
one_rank kinds.Node kinds.Relation e = absurd (false≢true e)
one_rank kinds.Way kinds.Node e = absurd (false≢true e)
one_rank kinds.Way kinds.Way e = refl
one_rank kinds.Way kinds.Relation e = absurd (false≢true e)
one_rank kinds.Relation kinds.Node e = absurd (false≢true e)
one_rank kinds.Relation kinds.Way e = absurd (false≢true e)
one_rank kinds.Relation kinds.Relation e = refl

same_rank : (k : EntityKind) → (rank k == rank k) ≡ true
same_rank kinds.Node = refl
same_rank kinds.Way = refl
same_rank kinds.Relation = refl

no_later : (kind : EntityKind) (es : List Entity) → has_later_kind kind es ≡ false
    → AllByRecursion (λ d. rank (kind_of d) ≤ rank kind) es
no_later kind [] e = tt
no_later kind (d ∷ ds) e =
    let (here, later) = or_parts (nat_lt (rank kind) (rank (kind_of d))) (has_later_kind kind ds) e in
    (ltb-false (rank kind) (rank (kind_of d)) here, no_later kind ds later)

-- an id above the last of its kind is above all of its kind
abbrev OfKindBelow : EntityKind → ℕ → List Entity → Type 0
OfKindBelow kind n es = AllByRecursion (λ d. kind_of d ≡ kind → id_of d < n) es

abbrev OfKindAbove : EntityKind → ℕ → List Entity → Type 0
OfKindAbove kind n es = AllByRecursion (λ d. kind_of d ≡ kind → n < id_of d) es

preceded : (kind : EntityKind) (d : Entity) (es : List Entity) → kind_of d ≡ kind
    → AllByRecursion (λ later. Before d later) es → OfKindAbove kind (id_of d) es
preceded kind d [] same h = tt
preceded kind d (e ∷ es) same h = ((λ k. h.0.1 (same ∙ sym k)), preceded kind d es same h.1)

abbrev last_behind : Option ℕ → EntityKind → List Entity → ℕ
last_behind o kind es = unwrap_or (last_or o (ids_of kind es)) 0

abbrev AllBelow : EntityKind → ℕ → List Entity → Option ℕ → Type 0
AllBelow kind n es o = OfKindAbove kind (unwrap_or o 0) es → last_behind o kind es < n
    → (unwrap_or o 0 < n) × OfKindBelow kind n es

all_below : (kind : EntityKind) (n : ℕ) (es : List Entity) (o : Option ℕ) → Rises es → AllBelow kind n es o
all_below kind n [] o rising above h = (h, tt)
all_below kind n (d ∷ ds) o rising above h =
    go (λ p. all_below kind n ds p rising.2) (rank (kind_of d) == rank kind) refl h
  where
    go : ((p : Option ℕ) → AllBelow kind n ds p) → (c : Bool) → (rank (kind_of d) == rank kind) ≡ c
        → unwrap_or (last_or o
        (map id_of (cond c (d ∷ filter (λ e. rank (kind_of e) == rank kind) ds)
        (filter (λ e. rank (kind_of e) == rank kind) ds)))) 0 < n
        → (unwrap_or o 0 < n) × OfKindBelow kind n (d ∷ ds)
    go later true e least =
        let same = one_rank (kind_of d) kind e in
        let (here, others) = later (Some (id_of d)) (preceded kind d ds same rising.1) least in
        let first : unwrap_or o 0 < id_of d = above.0 same in
        (omega (arith, first, here), ((λ k. here), others))
    go later false e least =
        let (here, others) = later o above.1 least in
        (here, ((λ k. absurd (false≢true (sym e ∙ ap (λ j. rank j == rank kind) k ∙ same_rank kind))), others))

above_none : (kind : EntityKind) (es : List Entity) → Rises es → OfKindAbove kind 0 es
above_none kind [] rising = tt
above_none kind (e ∷ es) rising = ((λ k. rising.0), above_none kind es rising.2)

below_last : (kind : EntityKind) (n : ℕ) (es : List Entity) → Rises es → last_id kind es < n → OfKindBelow kind n es
below_last kind n es rising h = (all_below kind n es None rising (above_none kind es rising) h).1

pub order_parts : (before : List Entity) (kind : EntityKind) (id : ℤ) → order_fault before kind id ≡ None
    → (has_later_kind kind before ≡ false) × (int_le id (pos (last_id kind before)) ≡ false)
order_parts before kind id e =
    elim (chosen (has_later_kind kind before) (Some entity_faults.KindOrder)
    (cond (int_le id (pos (last_id kind before))) (Some (entity_faults.OutOfOrder (last_id kind before) id)) None)
    None e) [
      | inl back ↦ absurd (some_no_none entity_faults.KindOrder back.1)
      | inr on ↦
          elim (chosen (int_le id (pos (last_id kind before)))
          (Some (entity_faults.OutOfOrder (last_id kind before) id)) None None on.1) [
            | inl low ↦ absurd (some_no_none (entity_faults.OutOfOrder (last_id kind before) id) low.1)
            | inr above ↦ (on.0, above.0)
          ]
    ]

-- all may stand before an object of no earlier kind whose id is above those of its kind
precede : (es : List Entity) (e : Entity) → AllByRecursion (λ d. rank (kind_of d) ≤ rank (kind_of e)) es
    → OfKindBelow (kind_of e) (id_of e) es → AllByRecursion (λ d. Before d e) es
precede [] e kinds_rise ids_rise = tt
precede (d ∷ ds) e kinds_rise ids_rise = ((kinds_rise.0, ids_rise.0), precede ds e kinds_rise.1 ids_rise.1)

all_with : (P : Entity → Type 0) (xs : List Entity) (y : Entity) → AllByRecursion P xs → P y
    → AllByRecursion P (xs ++ y ∷ [])
all_with P [] y h k = (k, tt)
all_with P (x ∷ xs) y h k = (h.0, all_with P xs y h.1 k)

rising_with : (es : List Entity) (e : Entity) → Rises es → 0 < id_of e → AllByRecursion (λ d. Before d e) es
    → Rises (es ++ e ∷ [])
rising_with [] e rising some h = (some, tt, tt)
rising_with (d ∷ ds) e rising some h =
    (rising.0, all_with (Before d) ds e rising.1 h.0, rising_with ds e rising.2 some h.1)

placed_rises : (before : List Entity) (object : Object) (e : Entity) → Rises before → Consistent object
    → entity_behind before object ≡ Ok e → Rises (before ++ e ∷ [])
placed_rises before object e rising told h =
    let (u, tested, rest) = bind_ok (refuse (order_fault before object.kind object.id)) (λ v. object.entity) e h in
    let parts = order_parts before object.kind object.id
    (refuse_ok (order_fault before object.kind object.id) u tested) in
    let same = told e rest in
    let ranks : AllByRecursion (λ d. rank (kind_of d) ≤ rank (kind_of e)) before =
    subst (λ k. AllByRecursion (λ d. rank (kind_of d) ≤ rank k) before) (sym same.0)
    (no_later object.kind before parts.0) in
    let last : last_id (kind_of e) before < id_of e =
    subst (λ n. last_id (kind_of e) before < n) (sym same.1)
    (subst (λ k. last_id k before < nat_abs object.id) (sym same.0)
    (below_id object.id (last_id object.kind before) parts.1)) in
    rising_with before e rising (omega (arith, last))
    (precede before e ranks (below_last (kind_of e) (id_of e) before rising last))

pub in_order-rises : (objects : List (Result Object EntityFault)) (before : List Entity) → Rises before
    → AllHold Consistent objects → Rises (before ++ (in_order before objects).items)
in_order-rises [] before rising h =
    subst (λ (r : Reading Entity EntityFault). Rises (before ++ r.items)) (sym (in_order-nil before))
    (subst Rises (sym (append-nil before)) rising)
in_order-rises (Err fault ∷ others) before rising h =
    subst (λ (r : Reading Entity EntityFault). Rises (before ++ r.items)) (sym (in_order-err before fault others))
    (subst Rises (sym (append-nil before)) rising)
in_order-rises (Ok object ∷ others) before rising h =
    go (λ o k. in_order-rises others o k h.1) (entity_behind before object) refl
  where
    go : ((o : List Entity) → Rises o → Rises (o ++ (in_order o others).items)) → (r : Result Entity EntityFault)
        → entity_behind before object ≡ r → Rises (before ++ (in_order before (Ok object ∷ others)).items)
    go later (Err fault) e =
        subst (λ (r : Reading Entity EntityFault). Rises (before ++ r.items))
        (sym (in_order-refused before object others fault e)) (subst Rises (sym (append-nil before)) rising)
    go later (Ok entity) e =
        let more : List Entity = (in_order (before ++ entity ∷ []) others).items in
        let behind : Rises ((before ++ entity ∷ []) ++ more) =
        later (before ++ entity ∷ []) (placed_rises before object entity rising (h.0 object refl) e) in
        subst (λ (r : Reading Entity EntityFault). Rises (before ++ r.items))
        (sym (in_order-next before object others entity e))
        (subst Rises (append_assoc before (entity ∷ []) more) behind)

pub block-rises : (before : List Entity) (b : PrimitiveBlock) → IsRising before
    → IsRising (before ++ (in_order before (block_objects b)).items)
block-rises before b rising =
    is_rising (before ++ (in_order before (block_objects b)).items)
    (in_order-rises (block_objects b) before (rises before rising) (block_tell b))
