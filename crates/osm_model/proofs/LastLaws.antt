-- The last of each kind behind one more object.
use Rattle.std.proofs.Common.{◌≡◌, ◌==◌, ◌||◌, ℕ, List, [], ◌∷◌, ◌++◌, refl, ap, ◌∙◌, true, false, Bool, cond, Option}
use Rattle.std.proofs.Common.{Some, None, nat_lt, append-nil}
use Rattle.std.specs.Prelude.{map, unwrap_or, filter}
use Rattle.std.specs.List.{last_or}
use Rattle.std.proofs.Math.Bool.{or-false}
use Rattle.std.proofs.lemmas.List.{map-append}
use Rattle.std.proofs.lemmas.List.Elements.{filter-append}
use Rattle.std.proofs.lemmas.List.Folds.{list_any-append}
use Rattle.mf_base.specs.declared.kind.EntityKind.{EntityKind}
use Rattle.osm_model.specs.Entities.{Entity, kind_of, id_of}
use Rattle.osm_model.specs.Order.{rank, has_later_kind, ids_of, last_id}

pub last_or-with : (o : Option ℕ) (xs : List ℕ) (y : ℕ) → last_or o (xs ++ y ∷ []) ≡ Some y
last_or-with o [] y = refl
last_or-with o (x ∷ xs) y = last_or-with (Some x) xs y

-- the ids of one object, where it is of the kind
abbrev ids_if : Bool → Entity → List ℕ
ids_if same e = map id_of (cond same (e ∷ []) [])

ids-with : (kind : EntityKind) (before : List Entity) (e : Entity)
    → ids_of kind (before ++ e ∷ []) ≡ ids_of kind before ++ ids_if (rank (kind_of e) == rank kind) e
ids-with kind before e =
    ap (map id_of) (filter-append (λ d. rank (kind_of d) == rank kind) before (e ∷ []))
    ∙ map-append id_of (filter (λ d. rank (kind_of d) == rank kind) before)
    (filter (λ d. rank (kind_of d) == rank kind) (e ∷ []))

last_if : (same : Bool) (ids : List ℕ) (e : Entity)
    → unwrap_or (last_or None (ids ++ ids_if same e)) 0 ≡ cond same (id_of e) (unwrap_or (last_or None ids) 0)
last_if true ids e = ap (λ o. unwrap_or o 0) (last_or-with None ids (id_of e))
last_if false ids e = ap (λ xs. unwrap_or (last_or None xs) 0) (append-nil ids)

pub last-with : (kind : EntityKind) (before : List Entity) (e : Entity)
    → last_id kind (before ++ e ∷ []) ≡ cond (rank (kind_of e) == rank kind) (id_of e) (last_id kind before)
last-with kind before e = ap (λ ids. unwrap_or (last_or None ids) 0) (ids-with kind before e)
    ∙ last_if (rank (kind_of e) == rank kind) (ids_of kind before) e

pub later-with : (kind : EntityKind) (before : List Entity) (e : Entity)
    → has_later_kind kind (before ++ e ∷ []) ≡ (has_later_kind kind before || nat_lt (rank kind) (rank (kind_of e)))
later-with kind before e =
    list_any-append (λ d. nat_lt (rank kind) (rank (kind_of d))) before (e ∷ [])
    ∙ ap (λ b. has_later_kind kind before || b) (or-false (nat_lt (rank kind) (rank (kind_of e))))
