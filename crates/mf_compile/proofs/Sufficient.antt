-- A row limit that suffices: what passes a limit is the same for every such limit.
use Rattle.std.proofs.Common.{◌≡◌, ◌≤◌, ℕ, suc, List, [], ◌∷◌, None, refl, ap, arith}
use Rattle.std.proofs.Common.{inl, inr}
use Rattle.std.specs.Prelude.{map, option_map, find, nat_lt, max, fold}
use Rattle.std.proofs.lemmas.Bool.Decides.{leb_tells}
use Rattle.mf_base.specs.declared.place.Rect.{Rect}
use Rattle.osm_model.specs.Entities.{Entity}
use Rattle.feature_model.specs.Mapping.{Mapping}
use Rattle.feature_model.specs.Candidates.{candidates}
use Rattle.feature_model.specs.Weights.{weight}
use Rattle.feature_model.specs.Features.{Feature, features}
use Rattle.feature_model.specs.Limits.{candidate_fault, candidate_over, largest_candidate}
use Rattle.map_model.specs.Header.{HeadSettings}
use Rattle.map_model.specs.MapFile.{limit_fault, layout_fault, tile_limit_fault, sub_file_limit_fault, sub_file_sizes}
use Rattle.map_model.specs.MapFile.{largest, largest_tile, all_tiles, tile_weight}

-- a greatest number is none below the first
first-most : (n : ℕ) (xs : List ℕ) → n ≤ fold max n xs
first-most n [] = omega arith
first-most n (x ∷ xs) = let rest = first-most (max n x) xs in omega (arith, rest)

-- what is at most a limit passes it nowhere
none-found : {X : Type 0} (limit n : ℕ) (w : X → ℕ) (xs : List X) → fold max n (map w xs) ≤ limit
    → find (λ x. nat_lt limit (w x)) xs ≡ None
none-found limit n w [] most = refl
none-found limit n w (x ∷ xs) most = elim (leb_tells (suc limit) (w x)) [
  | inl over ↦ absurd (omega (arith, over.1, most, first-most (max n (w x)) (map w xs)))
  | inr under ↦ rw under.0 (none-found limit (max n (w x)) w xs most)
]

candidates-within : (limit : ℕ) (mapping : Mapping) (entities : List Entity) → largest_candidate mapping entities ≤ limit
    → candidate_fault limit mapping entities ≡ None
unfolding candidate_fault largest_candidate
candidates-within limit mapping entities most =
    ap (option_map candidate_over) (none-found limit 0 weight (candidates mapping entities) most)

tiles-within : (limit : ℕ) (set : HeadSettings) (box : Rect) (list : List Feature) → largest_tile set box list ≤ limit
    → layout_fault limit set box list ≡ sub_file_limit_fault (sub_file_sizes set box list)
unfolding layout_fault tile_limit_fault largest_tile
tiles-within limit set box list most = rw (none-found limit 0 (tile_weight list) (all_tiles set box) most) refl

-- where nothing weighs more than the limit, only a sub-file can pass one
pub limit-sufficient : (limit : ℕ) (set : HeadSettings) (mapping : Mapping) (box : Rect) (entities : List Entity)
    → largest set mapping box entities ≤ limit
    → limit_fault limit set mapping box entities
    ≡ sub_file_limit_fault (sub_file_sizes set box (features mapping entities))
unfolding limit_fault largest
limit-sufficient limit set mapping box entities most =
    rw (
      candidates-within limit mapping entities (omega (arith, most)),
      tiles-within limit set box (features mapping entities) (omega (arith, most)),
    ) refl
