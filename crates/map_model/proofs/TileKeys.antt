-- The keys that are put, in ascending order, are tile after tile those of the members: for the rows of a layout and for
-- loops over its tiles.
use Rattle.std.proofs.Common.{◌≡◌, ◌⊎◌, ℕ, ◌≤◌, List, [], ◌∷◌, map, length, refl, sym, ap, ◌∙◌}
use Rattle.std.proofs.Common.{arith, true, false, inl, inr}
use Rattle.std.specs.Prelude.{Bool, cond, ◌&&◌, ◌==◌, leb, flat_map, IsTrue, sum_by, AllPairs}
use Rattle.std.specs.List.{enumerate_from, AllByRecursion}
use Rattle.std.proofs.lemmas.Bool.{cases_lt, eq-eqb, ne_eqb}
use Rattle.mf_base.specs.declared.place.Rect.{Rect}
use Rattle.mf_base.specs.declared.tile.Interval.{Interval}
use Rattle.mf_base.specs.declared.tile.TilePlace.{TilePlace}
use Rattle.mf_base.proofs.Pairs.{EachPair, each_pair, all_pairs}
use Rattle.feature_model.specs.Features.{Feature}
use Rattle.map_model.specs.declared.tile_key.TileKey.{TileKey}
use Rattle.map_model.specs.Header.{HeadSettings}
use Rattle.map_model.specs.MapFile.{all_tiles}
use Rattle.map_model.specs.Rectangles.{rect_of}
use Rattle.map_model.specs.TileRects.{has_tile, tile_rect, tiles_of, meets}
use Rattle.map_model.specs.Intervals.{tile_place, interval_tiles, are_intervals}
use Rattle.map_model.specs.NumberedMembers.{KeyBelow, key_numbers, IsKeyBelow, TileBelow, is_in_tile}
use Rattle.map_model.specs.NumberedMembers.{numbered_members, key_in, tile_keys, keys_of_tiles, shared_tiles}
use Rattle.map_model.specs.NumberedMembers.{interval_keys, put_keys, all_keys}
use Rattle.feature_model.proofs.Totals.{total, total-map, total-flat_map, total-same, total-zero, total-swap, sum-total}
use Rattle.feature_model.proofs.Rising.{all-map, all-from, all-imp, rises-map, rises-flat_map, rises-imp}
use Rattle.feature_model.proofs.Rising.{rises-enumerate}
use Rattle.map_model.proofs.NumberedMembers.{MemberBelow, members-total, members-rise}
use Rattle.map_model.proofs.AllTiles.{IsSound, shared-total, tiles-rise, intervals-sound}

-- ---- the keys rise

feature_of : ℕ × Feature → Feature
feature_of at = at.1

tile-rises : (features : List Feature) (tile : TilePlace) → EachPair IsKeyBelow (tile_keys features tile)
unfolding tile_keys
tile-rises features tile =
    rises-map IsKeyBelow (key_in tile) (numbered_members features tile)
    (rises-imp (λ at. Unit {0}) (MemberBelow (λ (p : ℕ × Feature). p.1) (λ p. p.0) tile.interval)
    (λ a b. IsKeyBelow (key_in tile a) (key_in tile b))
    (λ a b _ _ below. inr (refl, inr (refl, inr (refl, below)))) (numbered_members features tile)
    (all-from (λ at. Unit {0}) (λ at. tt) (numbered_members features tile))
    (members-rise (λ (p : ℕ × Feature). p.1) (λ p. p.0) (enumerate_from 0 features) tile (rises-enumerate 0 features)))

-- a key is of this tile
pub record IsOfTile (tile : TilePlace) (k : TileKey) : Type 0 where
  pub index : k.index ≡ tile.index
  pub y : k.y ≡ tile.y
  pub x : k.x ≡ tile.x

pub tile-of : (features : List Feature) (tile : TilePlace) → AllByRecursion (IsOfTile tile) (tile_keys features tile)
unfolding tile_keys
tile-of features tile =
    all-map (IsOfTile tile) (key_in tile) (numbered_members features tile)
    (all-from (λ at. IsOfTile tile (key_in tile at)) (λ at. record { index = refl; y = refl; x = refl })
    (numbered_members features tile))

of-tiles : (t u : TilePlace) (k l : TileKey) → TileBelow t u → IsOfTile t k → IsOfTile u l → IsKeyBelow k l
of-tiles t u k l (inl i) a b = let p = a.index in let q = b.index in inl (omega (arith, i, p, q))
of-tiles t u k l (inr (same, inl y)) a b = let p = a.y in let q =
    b.y in inr (a.index ∙ same ∙ sym b.index, inl (omega (arith, y, p, q)))
of-tiles t u k l (inr (same, inr (line, inl x))) a b = let p = a.x in let q =
    b.x in inr (a.index ∙ same ∙ sym b.index, inr (a.y ∙ line ∙ sym b.y, inl (omega (arith, x, p, q))))
of-tiles t u k l (inr (same, inr (line, inr (column, none)))) a b = absurd none

-- The keys of rising tiles rise.
pub keys-rise : (features : List Feature) (tiles : List TilePlace) → EachPair TileBelow tiles
    → EachPair IsKeyBelow (keys_of_tiles features tiles)
unfolding keys_of_tiles
keys-rise features tiles rising =
    rises-flat_map IsOfTile TileBelow IsKeyBelow (tile_keys features) of-tiles (tile-of features) (tile-rises features)
    tiles rising

-- ---- each key is put once

tile-total : (f : TileKey → ℕ) (features : List Feature) (tile : TilePlace) → tile.interval.min ≤ tile.interval.max
    → total f (tile_keys features tile) ≡ total (λ at. cond (is_in_tile tile at.1) (f (key_in tile at)) 0)
    (enumerate_from 0 features)
unfolding tile_keys
tile-total f features tile range =
    total-map f (key_in tile) (numbered_members features tile)
    ∙ members-total (λ (p : ℕ × Feature). p.1) (λ p. p.0) (λ at. f (key_in tile at)) (enumerate_from 0 features)
    tile range

-- what a feature puts in an interval is what the interval's tiles have of it
feature-total : (f : TileKey → ℕ) (box : Rect) (index : ℕ) (interval : Interval) (at : ℕ × Feature)
    → total f (interval_keys box index interval at)
    ≡ total (λ p. cond (is_in_tile (tile_place index interval p) at.1) (f (key_in (tile_place index interval p) at)) 0)
    (tiles_of (tile_rect box interval.base))
unfolding interval_keys shared_tiles meets
feature-total f box index interval at = by_test (leb at.1.zoom interval.max)
  where
    value : ℕ × ℕ → ℕ
    value p = f (key_in (tile_place index interval p) at)

    by_test : (b : Bool)
        → total f (cond b (map (λ p. key_in (tile_place index interval p) at) (shared_tiles box interval at.1)) [])
        ≡ total (λ p. cond (b && has_tile (tile_rect (rect_of at.1) interval.base) p.0 p.1) (value p) 0)
        (tiles_of (tile_rect box interval.base))
    by_test true = total-map f (λ p. key_in (tile_place index interval p) at) (shared_tiles box interval at.1)
        ∙ shared-total value (tile_rect box interval.base) (tile_rect (rect_of at.1) interval.base)
    by_test false = sym (total-zero (tiles_of (tile_rect box interval.base)))

-- an interval's keys, by feature or by tile
pub interval-total : (f : TileKey → ℕ) (box : Rect) (features : List Feature) (at : ℕ × Interval) → IsSound at
    → total f (flat_map (interval_keys box at.0 at.1) (enumerate_from 0 features))
    ≡ total (λ t. total f (tile_keys features t)) (interval_tiles box at.0 at.1)
unfolding interval_tiles
interval-total f box features at sound =
    total-flat_map f (interval_keys box at.0 at.1) numbered
    ∙ total-same (λ r. total f (interval_keys box at.0 at.1 r)) (λ r. total (λ p. part r p) places)
    (feature-total f box at.0 at.1) numbered
    ∙ total-swap part numbered places
    ∙ sym (total-same (λ p. total f (tile_keys features (tile_place at.0 at.1 p))) (λ p. total (λ r. part r p) numbered)
    (λ p. tile-total f features (tile_place at.0 at.1 p) sound.range) places)
    ∙ sym (total-map (λ t. total f (tile_keys features t)) (tile_place at.0 at.1) places)
  where
    numbered : List (ℕ × Feature)
    numbered = enumerate_from 0 features

    places : List (ℕ × ℕ)
    places = tiles_of (tile_rect box at.1.base)

    part : ℕ × Feature → ℕ × ℕ → ℕ
    part r p = cond (is_in_tile (tile_place at.0 at.1 p) r.1) (f (key_in (tile_place at.0 at.1 p) r)) 0

total-all : {X : Type 0} (f g : X → ℕ) (xs : List X) → AllByRecursion (λ x. f x ≡ g x) xs → total f xs ≡ total g xs
total-all f g [] e = refl
total-all f g (x ∷ xs) e = omega (arith, e.0, total-all f g xs e.1)

-- The keys that are put are those that the tiles have, each as often.
pub keys-total : (f : TileKey → ℕ) (set : HeadSettings) (box : Rect) (features : List Feature)
    → IsTrue (are_intervals set.intervals)
    → total f (put_keys set box features) ≡ total f (all_keys set box features)
unfolding put_keys keys_of_tiles all_tiles
keys-total f set box features h =
    total-flat_map f (λ i. flat_map (interval_keys box i.0 i.1) (enumerate_from 0 features))
    (enumerate_from 0 set.intervals)
    ∙ total-all (λ i. total f (flat_map (interval_keys box i.0 i.1) (enumerate_from 0 features)))
    (λ i. total (λ t. total f (tile_keys features t)) (interval_tiles box i.0 i.1)) (enumerate_from 0 set.intervals)
    (all-imp IsSound (λ i. total f (flat_map (interval_keys box i.0 i.1) (enumerate_from 0 features))
    ≡ total (λ t. total f (tile_keys features t)) (interval_tiles box i.0 i.1))
    (interval-total f box features) (enumerate_from 0 set.intervals) (intervals-sound set h))
    ∙ sym (total-flat_map (λ t. total f (tile_keys features t)) (λ i. interval_tiles box i.0 i.1)
    (enumerate_from 0 set.intervals))
    ∙ sym (total-flat_map f (tile_keys features) (all_tiles set box))

-- ---- one ascending list

below-cases : (a b : List ℕ) → length a ≡ length b → (KeyBelow a b ⊎ KeyBelow b a) ⊎ (a ≡ b)
below-cases [] [] same = inr refl
below-cases [] (n ∷ b) same = absurd (omega (arith, same))
below-cases (m ∷ a) [] same = absurd (omega (arith, same))
below-cases (m ∷ a) (n ∷ b) same =
    elim (cases_lt m n) [
      | inl less ↦ inl (inl (inl less))
      | inr no_less ↦ elim (cases_lt n m) [
        | inl more ↦ inl (inr (inl more))
        | inr no_more ↦ let e : m ≡ n =
            omega (arith, no_less, no_more) in behind e (below-cases a b (omega (arith, same)))
      ]
    ]
  where
    behind : m ≡ n → (KeyBelow a b ⊎ KeyBelow b a) ⊎ (a ≡ b) → (KeyBelow (m ∷ a) (n ∷ b) ⊎ KeyBelow (n ∷ b) (m ∷ a))
        ⊎ (m ∷ a ≡ n ∷ b)
    behind e (inl (inl below)) = inl (inl (inr (e, below)))
    behind e (inl (inr above)) = inl (inr (inr (sym e, above)))
    behind e (inr f) = inr (λ i. e i ∷ f i)

below-not-same : (a : List ℕ) → KeyBelow a a → ⊥
below-not-same [] h = h
below-not-same (m ∷ a) (inl less) = absurd (omega (arith, less))
below-not-same (m ∷ a) (inr rest) = below-not-same a rest.1

below-chain : (a b c : List ℕ) → KeyBelow a b → KeyBelow b c → KeyBelow a c
below-chain [] b c h k = absurd h
below-chain (l ∷ a) [] c h k = absurd h
below-chain (l ∷ a) (m ∷ b) [] h k = absurd k
below-chain (l ∷ a) (m ∷ b) (n ∷ c) (inl h) (inl k) = inl (omega (arith, h, k))
below-chain (l ∷ a) (m ∷ b) (n ∷ c) (inl h) (inr k) = let e = k.0 in inl (omega (arith, h, e))
below-chain (l ∷ a) (m ∷ b) (n ∷ c) (inr h) (inl k) = let e = h.0 in inl (omega (arith, e, k))
below-chain (l ∷ a) (m ∷ b) (n ∷ c) (inr h) (inr k) = inr (h.0 ∙ k.0, below-chain a b c h.1 k.1)

-- whether two lists of numbers are the same
same_numbers : List ℕ → List ℕ → Bool
same_numbers [] [] = true
same_numbers [] (n ∷ b) = false
same_numbers (m ∷ a) [] = false
same_numbers (m ∷ a) (n ∷ b) = (m == n) && same_numbers a b

same-itself : (a : List ℕ) → same_numbers a a ≡ true
unfolding same_numbers
same-itself [] = refl
same-itself (m ∷ a) = rw (eq-eqb m m refl) (same-itself a)

-- a list below another is not the same
apart : (a b : List ℕ) → KeyBelow a b → same_numbers a b ≡ false
unfolding same_numbers
apart [] b h = absurd h
apart (m ∷ a) [] h = absurd h
apart (m ∷ a) (n ∷ b) (inl less) = rw (ne_eqb m n (λ e. omega (arith, less, e))) refl
apart (m ∷ a) (n ∷ b) (inr h) = rw (eq-eqb m n h.0) (apart a b h.1)

-- how often a key stands there
one_of : TileKey → TileKey → ℕ
one_of k l = cond (same_numbers (key_numbers k) (key_numbers l)) 1 0

one-itself : (k : TileKey) → one_of k k ≡ 1
unfolding one_of
one-itself k = rw (same-itself (key_numbers k)) refl

one-apart : (k l : TileKey) → IsKeyBelow k l → one_of k l ≡ 0
unfolding one_of
one-apart k l below = rw (apart (key_numbers k) (key_numbers l) below) refl

none-later : (k : TileKey) (ls : List TileKey) → AllByRecursion (IsKeyBelow k) ls → total (one_of k) ls ≡ 0
none-later k [] all = refl
none-later k (l ∷ ls) all = let here = one-apart k l all.0 in let rest =
    none-later k ls all.1 in omega (arith, here, rest)

key-known : (k l : TileKey) → key_numbers k ≡ key_numbers l → k ≡ l
key-known k l e = λ i. record { index = a i; y = b i; x = c i; class = d i; zoom = f i; number = g i }
  where
    a : k.index ≡ l.index
    a = cc

    b : k.y ≡ l.y
    b = cc

    c : k.x ≡ l.x
    c = cc

    d : k.class ≡ l.class
    d = cc

    f : k.zoom ≡ l.zoom
    f = cc

    g : k.number ≡ l.number
    g = cc

-- the first of a list is not below the first of another that has the same keys
not-first : (k l : TileKey) (ks ls : List TileKey) → EachPair IsKeyBelow (l ∷ ls) → IsKeyBelow k l
    → total (one_of k) (k ∷ ks) ≡ total (one_of k) (l ∷ ls) → ⊥
not-first k l ks ls up below same =
    let later : AllByRecursion (IsKeyBelow k) ls =
    all-imp (IsKeyBelow l) (IsKeyBelow k) (λ m h. below-chain (key_numbers k) (key_numbers l) (key_numbers m) below
    h) ls up.0 in
    let none = none-later k (l ∷ ls) (below, later) in
    let one = one-itself k in
    omega (arith, same, none, one)

-- Two rising lists that have the same keys are one list.
pub rising-alike : (ks ls : List TileKey) → EachPair IsKeyBelow ks → EachPair IsKeyBelow ls
    → ((f : TileKey → ℕ) → total f ks ≡ total f ls) → ks ≡ ls
rising-alike [] [] up vp same = refl
rising-alike [] (l ∷ ls) up vp same = let none = same (λ k. 1) in absurd (omega (arith, none))
rising-alike (k ∷ ks) [] up vp same = let none = same (λ k. 1) in absurd (omega (arith, none))
rising-alike (k ∷ ks) (l ∷ ls) up vp same =
    by_order (below-cases (key_numbers k) (key_numbers l) refl) (λ e. rising-alike ks ls up.1 vp.1 (behind e))
  where
    behind : k ≡ l → (f : TileKey → ℕ) → total f ks ≡ total f ls
    behind e f = let all = same f in let first = ap f e in omega (arith, all, first)

    by_order : (IsKeyBelow k l ⊎ IsKeyBelow l k) ⊎ (key_numbers k ≡ key_numbers l) → (k ≡ l → ks ≡ ls) → k ∷ ks ≡ l ∷ ls
    by_order (inl (inl below)) more = absurd (not-first k l ks ls vp below (same (one_of k)))
    by_order (inl (inr above)) more = absurd (not-first l k ls ks up above (sym (same (one_of l))))
    by_order (inr e) more = let first = key-known k l e in λ i. first i ∷ more first i

pub keys-often : (f : TileKey → ℕ) (set : HeadSettings) (box : Rect) (features : List Feature)
    → IsTrue (are_intervals set.intervals) → sum_by f (put_keys set box features) ≡ sum_by f (all_keys set box features)
keys-often f set box features h = sum-total f (put_keys set box features) ∙ keys-total f set box features h
    ∙ sym (sum-total f (all_keys set box features))

pub tiles-pairs : (set : HeadSettings) (box : Rect) → AllPairs TileBelow (all_tiles set box)
tiles-pairs set box = all_pairs TileBelow (all_tiles set box) (tiles-rise set box)

pub keys-pairs : (set : HeadSettings) (box : Rect) (features : List Feature)
    → AllPairs IsKeyBelow (all_keys set box features)
keys-pairs set box features =
    all_pairs IsKeyBelow (all_keys set box features) (keys-rise features (all_tiles set box) (tiles-rise set box))

-- keys in order that are those that were put
pub keys-only : (set : HeadSettings) (box : Rect) (features : List Feature) (ks : List TileKey)
    → IsTrue (are_intervals set.intervals) → AllPairs IsKeyBelow ks
    → ((f : TileKey → ℕ) → sum_by f ks ≡ sum_by f (put_keys set box features)) → ks ≡ all_keys set box features
keys-only set box features ks intervals up same =
    rising-alike ks (all_keys set box features) (each_pair IsKeyBelow ks up)
    (keys-rise features (all_tiles set box) (tiles-rise set box))
    (λ f. sym (sum-total f ks) ∙ same f ∙ sum-total f (put_keys set box features)
    ∙ keys-total f set box features intervals)

pub ruleset key_laws = (keys-often, keys-only)
