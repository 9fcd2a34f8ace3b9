-- What the loops of `uses` hold: entries of an index from running sizes, and keys that are of one tile.
use Rattle.std.proofs.Common.{◌≡◌, ◌⊎◌, ℕ, zero, suc, ◌+◌, ◌<◌, ◌≤◌, List, [], ◌∷◌, ◌++◌, length, take, drop, refl, sym}
use Rattle.std.proofs.Common.{ap, ◌∙◌, subst, arith, append-nil, append_assoc, true, false, inl, inr}
use Rattle.std.specs.Prelude.{Bool, ◌&&◌, ◌==◌, sum_by, flat_map, slice_index_or, AllPairs}
use Rattle.std.specs.List.{AllByRecursion}
use Rattle.std.proofs.lemmas.Bool.{cases_Bool, cases_lt, eq-eqb, eqb-true, and_parts}
use Rattle.std.proofs.lemmas.List.{take_at, drop_at}
use Rattle.mf_base.specs.declared.tile.TilePlace.{TilePlace}
use Rattle.mf_base.proofs.Pairs.{each_pair}
use Rattle.feature_model.specs.Features.{Feature}
use Rattle.feature_model.proofs.Totals.{sum-total}
use Rattle.feature_model.proofs.Rising.{all-flat_map, all-imp}
use Rattle.map_model.specs.declared.tile_key.TileKey.{TileKey}
use Rattle.map_model.specs.SubFile.{entry_bytes, entries_from}
use Rattle.map_model.specs.NumberedMembers.{TileBelow, is_key_of, tile_keys, keys_of_tiles}
use Rattle.map_model.proofs.TileKeys.{IsOfTile, tile-of}

-- ---- entries

-- the entries of the tiles before i were put
pub record EntriesPut (first : ℕ) (tiles : List (Bool × ℕ)) (old now : List ℕ) (offset i : ℕ) : Type 0 where
  pub within : i ≤ length tiles
  pub sum : offset + sum_by (λ (p : Bool × ℕ). p.1) (drop i tiles) ≡ first + sum_by (λ (p : Bool × ℕ). p.1) tiles
  pub bytes : now ++ entries_from offset (drop i tiles) ≡ old ++ entries_from first tiles

pub entries-begun : (first : ℕ) (tiles : List (Bool × ℕ)) (old : List ℕ) → EntriesPut first tiles old old first 0
entries-begun first tiles old = record { within = omega arith; sum = refl; bytes = refl }

-- the tiles from i on are tile i and those behind it
drop-here : (tiles : List (Bool × ℕ)) (i : ℕ) (d : Bool × ℕ) → i < length tiles
    → drop i tiles ≡ slice_index_or tiles i d ∷ drop (i + 1) tiles
drop-here [] i d lt = absurd (omega (arith, lt))
drop-here (t ∷ tiles) zero d lt = refl
drop-here (t ∷ tiles) (suc i) d lt = drop-here tiles i d (omega (arith, lt))
    ∙ ap (λ n. slice_index_or tiles i d ∷ drop n (t ∷ tiles)) {x = suc (i + 1)} {y = suc i + 1} (omega arith)

-- what is left of the sum bounds the offset
pub entries-fit : (first : ℕ) (tiles : List (Bool × ℕ)) (old now : List ℕ) (offset i : ℕ) (d : Bool × ℕ)
    → i < length tiles → EntriesPut first tiles old now offset i
    → offset + (slice_index_or tiles i d).1 ≤ first + sum_by (λ (p : Bool × ℕ). p.1) tiles
entries-fit first tiles old now offset i d lt h =
    let left = ap (sum_by (λ (p : Bool × ℕ). p.1)) (drop-here tiles i d lt) in
    let parts = sum-total (λ (p : Bool × ℕ). p.1) (slice_index_or tiles i d ∷ drop (i + 1) tiles) in
    let sum = h.sum in
    omega (arith, left, parts, sum)

pub entries-step : (first : ℕ) (tiles : List (Bool × ℕ)) (old now next : List ℕ) (offset i size : ℕ) (d : Bool × ℕ)
    → i < length tiles → EntriesPut first tiles old now offset i
    → next ≡ now ++ entry_bytes (slice_index_or tiles i d).0 offset → size ≡ (slice_index_or tiles i d).1
    → EntriesPut first tiles old next (offset + size) (i + 1)
unfolding entries_from
entries-step first tiles old now next offset i size d lt h e same =
    let t = slice_index_or tiles i d in
    let rest = drop (i + 1) tiles in
    let here = drop-here tiles i d lt in
    let left = ap (sum_by (λ (p : Bool × ℕ). p.1)) here in
    let parts = sum-total (λ (p : Bool × ℕ). p.1) (t ∷ rest) in
    let later = sum-total (λ (p : Bool × ℕ). p.1) rest in
    let sum = h.sum in
    record {
      within = omega (arith, lt);
      sum = omega (arith, same, left, parts, later, sum);
      bytes =
          ap (λ bytes. bytes ++ entries_from (offset + size) rest) e
          ∙ append_assoc now (entry_bytes t.0 offset) (entries_from (offset + size) rest)
          ∙ ap (λ (n : ℕ). now ++ (entry_bytes t.0 offset ++ entries_from (offset + n) rest)) same
          ∙ ap (λ (ts : List (Bool × ℕ)). now ++ entries_from offset ts) (sym here)
          ∙ h.bytes;
    }

-- where no tile is left all entries were put
pub entries-end : (first : ℕ) (tiles : List (Bool × ℕ)) (old now : List ℕ) (offset i : ℕ) → length tiles ≤ i
    → EntriesPut first tiles old now offset i → now ≡ old ++ entries_from first tiles
unfolding entries_from
entries-end first tiles old now offset i past h =
    sym (append-nil now) ∙ ap (λ (ts : List (Bool × ℕ)). now ++ entries_from offset ts) (sym (drop-past tiles i past))
    ∙ h.bytes
  where
    drop-past : (tiles : List (Bool × ℕ)) (i : ℕ) → length tiles ≤ i → drop i tiles ≡ []
    drop-past [] zero past = refl
    drop-past [] (suc i) past = refl
    drop-past (t ∷ tiles) zero past = absurd (omega (arith, past))
    drop-past (t ∷ tiles) (suc i) past = drop-past tiles i (omega (arith, past))

-- ---- keys of one tile

-- the keys before n are of the tile
pub record KeysSeen (tile : TilePlace) (keys : List TileKey) (n : ℕ) : Type 0 where
  pub within : n ≤ length keys
  pub same : (k : ℕ) (d : TileKey) → k < n → is_key_of tile (slice_index_or keys k d) ≡ true

-- what stands for a key that is not there
abbrev pub no_key : TileKey
no_key = record { index = 0; y = 0; x = 0; class = 0; zoom = 0; number = 0 }

pub seen-begun : (tile : TilePlace) (keys : List TileKey) → KeysSeen tile keys 0
seen-begun tile keys = record { within = omega arith; same = λ k d lt. absurd (omega (arith, lt)) }

default-alike : (keys : List TileKey) (n : ℕ) (d e : TileKey) → n < length keys
    → slice_index_or keys n d ≡ slice_index_or keys n e
default-alike [] n d e lt = absurd (omega (arith, lt))
default-alike (k ∷ keys) zero d e lt = refl
default-alike (k ∷ keys) (suc n) d e lt = default-alike keys n d e (omega (arith, lt))

pub seen-step : (tile : TilePlace) (keys : List TileKey) (n : ℕ) (e : TileKey) → n < length keys
    → is_key_of tile (slice_index_or keys n e) ≡ true → KeysSeen tile keys n → KeysSeen tile keys (n + 1)
seen-step tile keys n e lt here h = record {
  within = omega (arith, lt);
  same = λ k d low. by_place k d low (cases_lt k n);
}
  where
    by_place : (k : ℕ) (d : TileKey) → k < n + 1 → (k < n) ⊎ (n ≤ k) → is_key_of tile (slice_index_or keys k d) ≡ true
    by_place k d low (inl before) = h.same k d before
    by_place k d low (inr at) =
        let place : n ≡ k = omega (arith, low, at) in
        subst (λ (m : ℕ). is_key_of tile (slice_index_or keys m d) ≡ true) place
        (ap (is_key_of tile) (default-alike keys n d e lt) ∙ here)

-- keys of the tile, then keys of later tiles
keys-front : (tile : TilePlace) (front rest : List TileKey) (n : ℕ) (e : TileKey)
    → AllByRecursion (λ k. is_key_of tile k ≡ true) front → AllByRecursion (λ k. is_key_of tile k ≡ false) rest
    → KeysSeen tile (front ++ rest) n
    → (n < length (front ++ rest) → is_key_of tile (slice_index_or (front ++ rest) n e) ≡ false) → n ≡ length front
keys-front tile [] [] n e all none h past = let le = h.within in omega (arith, le)
keys-front tile [] (k ∷ rest) zero e all none h past = refl
keys-front tile [] (k ∷ rest) (suc n) e all none h past = absurd (cc (h.same 0 e (omega arith), none.0))
keys-front tile (k ∷ front) rest zero e all none h past = absurd (cc (all.0, past (omega arith)))
keys-front tile (k ∷ front) rest (suc n) e all none h past =
    let le = h.within in
    ap suc (keys-front tile front rest n e all.1 none
    (record { within = omega (arith, le); same = λ j d lt. h.same (suc j) d (omega (arith, lt)) })
    (λ lt. past (omega (arith, lt))))

of-this : (tile : TilePlace) (k : TileKey) → IsOfTile tile k → is_key_of tile k ≡ true
of-this tile k is = rw (eq-eqb k.index tile.index is.index, eq-eqb k.y tile.y is.y, eq-eqb k.x tile.x is.x) refl

of-another : (tile other : TilePlace) (k : TileKey) → TileBelow tile other → IsOfTile other k → is_key_of tile k ≡ false
of-another tile other k below is = by_test (cases_Bool (is_key_of tile k))
  where
    apart : TileBelow tile other → tile.index ≡ other.index → tile.y ≡ other.y → tile.x ≡ other.x → ⊥
    apart (inl less) i y x = omega (arith, less, i)
    apart (inr (same, inl less)) i y x = omega (arith, less, y)
    apart (inr (same, inr (line, inl less))) i y x = omega (arith, less, x)
    apart (inr (same, inr (line, inr (column, none)))) i y x = none

    by_test : (is_key_of tile k ≡ true) ⊎ (is_key_of tile k ≡ false) → is_key_of tile k ≡ false
    by_test (inr other') = other'
    by_test (inl yes') =
        let both = and_parts (k.index == tile.index && k.y == tile.y) (k.x == tile.x) yes' in
        let first = and_parts (k.index == tile.index) (k.y == tile.y) both.0 in
        absurd (apart below (sym (eqb-true k.index tile.index first.0) ∙ is.index) (sym (eqb-true k.y tile.y first.1)
        ∙ is.y) (sym (eqb-true k.x tile.x both.1) ∙ is.x))

pub keys-taken : (features : List Feature) (tile : TilePlace) (later : List TilePlace) (keys : List TileKey) (n : ℕ)
    (e : TileKey) → AllPairs TileBelow (tile ∷ later) → keys ≡ keys_of_tiles features (tile ∷ later)
    → KeysSeen tile keys n → (n < length keys → is_key_of tile (slice_index_or keys n e) ≡ false)
    → (take n keys ≡ tile_keys features tile) × (drop n keys ≡ keys_of_tiles features later)
unfolding keys_of_tiles
keys-taken features tile later keys n e up same h past =
    let rest = flat_map (tile_keys features) later in
    let whole : keys ≡ tile_keys features tile ++ rest = same in
    let front = all-imp (IsOfTile tile) (λ k. is_key_of tile k ≡ true) (of-this tile) (tile_keys features tile)
    (tile-of features tile) in
    let behind = all-flat_map (λ k. is_key_of tile k ≡ false) (tile_keys features) later
    (all-imp (TileBelow tile) (λ u. AllByRecursion (λ k. is_key_of tile k ≡ false) (tile_keys features u))
    (λ u below. all-imp (IsOfTile u) (λ k. is_key_of tile k ≡ false) (λ k is. of-another tile u k below is)
    (tile_keys features u) (tile-of features u)) later (each_pair TileBelow (tile ∷ later) up).0) in
    let here = keys-front tile (tile_keys features tile) rest n e front behind
    (subst (λ ks. KeysSeen tile ks n) whole h)
    (subst (λ ks. n < length ks → is_key_of tile (slice_index_or ks n e) ≡ false) whole past) in (
      ap (take n) whole ∙ take_at (tile_keys features tile) rest n (sym here),
      ap (drop n) whole ∙ drop_at (tile_keys features tile) rest n (sym here),
    )
