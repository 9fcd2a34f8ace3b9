-- One entity more in the order that is kept.
use Rattle.std.proofs.Common.{◌≡◌, ◌∙◌, ◌∷◌, ◌++◌, ◌==◌, ◌||◌, ◌<◌, ◌≤◌, ℕ, List, [], false, cond, ap, refl, pos}
use Rattle.std.proofs.Common.{sym, inl, inr, arith, nat_lt}
use Rattle.std.proofs.lemmas.Bool.{cases_lt, lt-ltb, le-ltb, ltb-false}
use Rattle.mf_base.specs.declared.kind.EntityKind.{EntityKind}
use Rattle.mf_base.specs.declared.kind.EntityKind.TheVariants.{Node, Way, Relation}
use Rattle.mf_base.specs.declared.place.Place.{Place}
use Rattle.osm_model.specs.Entities.{Entity, kind_of, id_of, node, way, relation}
use Rattle.osm_model.specs.Order.{rank, has_later_kind, last_id}
use Rattle.osm_model.proofs.LastLaws.{last-with, later-with}
use Rattle.osm_entity.specs.Order.{StandsBehind, kept_id}
use Rattle.osm_entity.specs.declared.order.Order.{Order}

-- a rank that is not above the last is below the next exactly where it is below either
or_rank : (k old next : ℕ) → old ≤ next → (nat_lt k old || nat_lt k next) ≡ nat_lt k next
or_rank k old next le = elim (cases_lt k old) [
  | inl less ↦ rw (lt-ltb k old less, lt-ltb k next (omega (arith, less, le))) refl
  | inr more ↦ rw (le-ltb k old more) refl
]

-- the order behind one more entity: its kind is the last, and its id the last of its kind
noted : (before : List Entity) (e : Entity) (old new : Order) (kind : EntityKind) (id : ℕ)
    → StandsBehind before old → has_later_kind kind before ≡ false → kind_of e ≡ kind → id_of e ≡ id
    → new.kind ≡ kind → ((k : EntityKind) → kept_id new k ≡ cond (rank kind == rank k) id (kept_id old k))
    → StandsBehind (before ++ e ∷ []) new
noted before e old new kind id behind first is_kind is_id now kept = record {
  kinds = λ k.
      later-with k before e ∙ ap (λ b. b || nat_lt (rank k) (rank (kind_of e))) (behind.kinds k)
      ∙ ap (λ d. nat_lt (rank k) (rank old.kind) || nat_lt (rank k) (rank d)) is_kind
      ∙ or_rank (rank k) (rank old.kind) (rank kind)
      (ltb-false (rank kind) (rank old.kind) (sym (behind.kinds kind) ∙ first))
      ∙ ap (λ d. nat_lt (rank k) (rank d)) (sym now);
  ids = λ k. last-with k before e ∙ ap (λ d. cond (rank d == rank k) (id_of e) (last_id k before)) is_kind
      ∙ ap (λ n. cond (rank kind == rank k) n (last_id k before)) is_id
      ∙ ap (λ n. cond (rank kind == rank k) id n) (behind.ids k) ∙ sym (kept k);
}

kept-node : (old new : Order) (kind : EntityKind) (id : ℕ) → kind ≡ Node → new.node ≡ id → new.way ≡ old.way
    → new.relation ≡ old.relation → (k : EntityKind)
    → kept_id new k ≡ cond (rank kind == rank k) id (kept_id old k)
kept-node old new kind id is is_node is_way is_relation Node = rw is is_node
kept-node old new kind id is is_node is_way is_relation Way = rw is is_way
kept-node old new kind id is is_node is_way is_relation Relation = rw is is_relation

pub noted-node : (before : List Entity) (e : Entity) (old new : Order) (kind : EntityKind) (id : ℕ)
    → StandsBehind before old → has_later_kind kind before ≡ false → kind_of e ≡ kind → id_of e ≡ id → kind ≡ Node
    → new.kind ≡ kind → new.node ≡ id → new.way ≡ old.way → new.relation ≡ old.relation
    → StandsBehind (before ++ e ∷ []) new
noted-node before e old new kind id behind first is_kind is_id is now is_node is_way is_relation =
    noted before e old new kind id behind first is_kind is_id now
    (kept-node old new kind id is is_node is_way is_relation)

kept-way : (old new : Order) (kind : EntityKind) (id : ℕ) → kind ≡ Way → new.node ≡ old.node → new.way ≡ id
    → new.relation ≡ old.relation → (k : EntityKind)
    → kept_id new k ≡ cond (rank kind == rank k) id (kept_id old k)
kept-way old new kind id is is_node is_way is_relation Node = rw is is_node
kept-way old new kind id is is_node is_way is_relation Way = rw is is_way
kept-way old new kind id is is_node is_way is_relation Relation = rw is is_relation

pub noted-way : (before : List Entity) (e : Entity) (old new : Order) (kind : EntityKind) (id : ℕ)
    → StandsBehind before old → has_later_kind kind before ≡ false → kind_of e ≡ kind → id_of e ≡ id → kind ≡ Way
    → new.kind ≡ kind → new.node ≡ old.node → new.way ≡ id → new.relation ≡ old.relation
    → StandsBehind (before ++ e ∷ []) new
noted-way before e old new kind id behind first is_kind is_id is now is_node is_way is_relation =
    noted before e old new kind id behind first is_kind is_id now
    (kept-way old new kind id is is_node is_way is_relation)

kept-relation : (old new : Order) (kind : EntityKind) (id : ℕ) → kind ≡ Relation → new.node ≡ old.node
    → new.way ≡ old.way → new.relation ≡ id → (k : EntityKind)
    → kept_id new k ≡ cond (rank kind == rank k) id (kept_id old k)
kept-relation old new kind id is is_node is_way is_relation Node = rw is is_node
kept-relation old new kind id is is_node is_way is_relation Way = rw is is_way
kept-relation old new kind id is is_node is_way is_relation Relation = rw is is_relation

pub noted-relation : (before : List Entity) (e : Entity) (old new : Order) (kind : EntityKind) (id : ℕ)
    → StandsBehind before old → has_later_kind kind before ≡ false → kind_of e ≡ kind → id_of e ≡ id → kind ≡ Relation
    → new.kind ≡ kind → new.node ≡ old.node → new.way ≡ old.way → new.relation ≡ id
    → StandsBehind (before ++ e ∷ []) new
noted-relation before e old new kind id behind first is_kind is_id is now is_node is_way is_relation =
    noted before e old new kind id behind first is_kind is_id now
    (kept-relation old new kind id is is_node is_way is_relation)

-- a kind with none later is not before the last
pub none-later : (before : List Entity) (order : Order) (kind : EntityKind) → StandsBehind before order
    → has_later_kind kind before ≡ false → rank order.kind ≤ rank kind
none-later before order kind behind none =
    ltb-false (rank kind) (rank order.kind) (sym (behind.kinds kind) ∙ none)

-- ---- some entities that an order stands behind

abbrev somewhere : Place
somewhere = record { lat = pos 0; lon = pos 0 }

abbrev some_node : ℕ → Entity
some_node id = node (record { id = id; place = somewhere; tags = [] })

abbrev some_way : ℕ → Entity
some_way id = way (record { id = id; refs = []; tags = [] })

abbrev some_relation : ℕ → Entity
some_relation id = relation (record { id = id; members = []; tags = [] })

-- one entity of each kind up to the last
abbrev one_each : EntityKind → ℕ → ℕ → ℕ → List Entity
one_each Node n w r = some_node n ∷ []
one_each Way n w r = some_node n ∷ some_way w ∷ []
one_each Relation n w r = some_node n ∷ some_way w ∷ some_relation r ∷ []

later_than : (last kind : EntityKind) (n w r : ℕ)
    → has_later_kind kind (one_each last n w r) ≡ nat_lt (rank kind) (rank last)
later_than Node Node n w r = refl
later_than Node Way n w r = refl
later_than Node Relation n w r = refl
later_than Way Node n w r = refl
later_than Way Way n w r = refl
later_than Way Relation n w r = refl
later_than Relation Node n w r = refl
later_than Relation Way n w r = refl
later_than Relation Relation n w r = refl

last_of : (last kind : EntityKind) (order : Order) → (rank last < 1 → order.way ≡ 0)
    → (rank last < 2 → order.relation ≡ 0)
    → last_id kind (one_each last order.node order.way order.relation) ≡ kept_id order kind
last_of Node Node order no_way no_relation = refl
last_of Node Way order no_way no_relation = sym (no_way (omega arith))
last_of Node Relation order no_way no_relation = sym (no_relation (omega arith))
last_of Way Node order no_way no_relation = refl
last_of Way Way order no_way no_relation = refl
last_of Way Relation order no_way no_relation = sym (no_relation (omega arith))
last_of Relation Node order no_way no_relation = refl
last_of Relation Way order no_way no_relation = refl
last_of Relation Relation order no_way no_relation = refl

pub some-before : (order : Order) → (before : List Entity) × StandsBehind before order
some-before order = (
  one_each order.kind order.node order.way order.relation,
  record {
    kinds = λ k. later_than order.kind k order.node order.way order.relation;
    ids = λ k. last_of order.kind k order order.no_way order.no_relation;
  },
)
