-- The rows of tiles rise by their keys.
use Rattle.std.proofs.Common.{◌≡◌, ℕ, ◌<◌, List, [], ◌∷◌, ◌++◌, refl, sym, subst, inl, inr}
use Rattle.std.specs.List.{enumerate_from, AllByRecursion}
use Rattle.mf_base.specs.declared.tile.TilePlace.{TilePlace}
use Rattle.mf_base.proofs.Pairs.{EachPair}
use Rattle.feature_model.proofs.Rising.{all-flat_map, all-map, all-from, all-imp, rises-map, rises-flat_map, rises-imp}
use Rattle.feature_model.proofs.Rising.{rises-enumerate}
use Rattle.map_model.specs.NumberedMembers.{KeyBelow, tile_numbers, TileBelow, members_by}
use Rattle.map_model.proofs.NumberedMembers.{member_key, MemberBelow, members-rise}
use Rattle.mf_rows.specs.Units.{Unit16}
use Rattle.mf_rows.specs.declared.kinds.TileRow.{TileRow}
use Rattle.spill_parts.specs.Shaped.{Spelled}
use Rattle.tile_rows.specs.TileRows.{shown, unit_row, member_rows, tile_rows, rows_of_tiles, NumberBelow}

-- the numbers of a row's key
abbrev pub row_numbers : TileRow → List ℕ
row_numbers r = r.interval ∷ r.y ∷ r.x ∷ r.class ∷ r.zoom ∷ r.number ∷ r.place ∷ []

abbrev pub RowBelow : TileRow → TileRow → Type 0
RowBelow a b = KeyBelow (row_numbers a) (row_numbers b)

below-front : (p q a b : List ℕ) → KeyBelow p q → KeyBelow (p ++ a) (q ++ b)
below-front [] q a b h = absurd h
below-front (m ∷ p) [] a b h = absurd h
below-front (m ∷ p) (n ∷ q) a b (inl lt) = inl lt
below-front (m ∷ p) (n ∷ q) a b (inr same) = inr (same.0, below-front p q a b same.1)

below-behind : (p a b : List ℕ) → KeyBelow a b → KeyBelow (p ++ a) (p ++ b)
below-behind [] a b h = h
below-behind (m ∷ p) a b h = inr (refl, below-behind p a b h)

-- a key that begins so
record Begins (front key : List ℕ) : Type 0 where
  rest : List ℕ
  is : key ≡ front ++ rest

below-fronts : (p q k l : List ℕ) → Begins p k → Begins q l → KeyBelow p q → KeyBelow k l
below-fronts p q k l b c h = subst (λ k. KeyBelow k l) (sym b.is)
    (subst (λ l. KeyBelow (p ++ b.rest) l) (sym c.is) (below-front p q b.rest c.rest h))

abbrev number_of : Spelled → ℕ
number_of s = s.told.head.number

-- the numbers of a row's key that tell its tile and its member
abbrev both_keys : TilePlace → Spelled → List ℕ
both_keys tile s = tile_numbers tile ++ member_key shown number_of tile.interval s

abbrev row_at : TilePlace → Spelled → ℕ × Unit16 → TileRow
row_at tile s at = unit_row tile s at.0 at.1

member-begins : (tile : TilePlace) (s : Spelled)
    → AllByRecursion (λ row. Begins (both_keys tile s) (row_numbers row)) (member_rows tile s)
unfolding member_rows
member-begins tile s =
    all-map (λ row. Begins (both_keys tile s) (row_numbers row)) (row_at tile s) (enumerate_from 0 s.units)
    (all-from (λ at. Begins (both_keys tile s) (row_numbers (row_at tile s at)))
    (λ at. record { rest = at.0 ∷ []; is = refl }) (enumerate_from 0 s.units))

member-rises : (tile : TilePlace) (s : Spelled) → EachPair RowBelow (member_rows tile s)
unfolding member_rows
member-rises tile s =
    rises-map RowBelow (row_at tile s) (enumerate_from 0 s.units)
    (rises-imp (λ at. Unit {0}) (λ (a b : ℕ × Unit16). a.0 < b.0) (λ a b. RowBelow (row_at tile s a) (row_at tile s b))
    (λ a b _ _ lt. below-behind (both_keys tile s) (a.0 ∷ []) (b.0 ∷ []) (inl lt))
    (enumerate_from 0 s.units) (all-from (λ at. Unit {0}) (λ at. tt) (enumerate_from 0 s.units))
    (rises-enumerate 0 s.units))

tile-rises : (list : List Spelled) → EachPair NumberBelow list → (tile : TilePlace)
    → EachPair RowBelow (tile_rows list tile)
unfolding tile_rows
tile-rises list up tile =
    rises-flat_map (λ s row. Begins (both_keys tile s) (row_numbers row))
    (MemberBelow shown number_of tile.interval) RowBelow (member_rows tile)
    (λ r s a b lt h k. below-fronts (both_keys tile r) (both_keys tile s) (row_numbers a) (row_numbers b) h k
    (below-behind (tile_numbers tile) (member_key shown number_of tile.interval r)
    (member_key shown number_of tile.interval s) lt))
    (member-begins tile) (member-rises tile) (members_by shown list tile) (members-rise shown number_of list tile up)

tile-begins : (list : List Spelled) (tile : TilePlace)
    → AllByRecursion (λ row. Begins (tile_numbers tile) (row_numbers row)) (tile_rows list tile)
unfolding tile_rows
tile-begins list tile =
    all-flat_map (λ row. Begins (tile_numbers tile) (row_numbers row)) (member_rows tile) (members_by shown list tile)
    (all-from (λ s. AllByRecursion (λ row. Begins (tile_numbers tile) (row_numbers row)) (member_rows tile s))
    (λ s. all-imp (λ row. Begins (both_keys tile s) (row_numbers row))
    (λ row. Begins (tile_numbers tile) (row_numbers row))
    (λ row b. record { rest = member_key shown number_of tile.interval s ++ b.rest; is = b.is })
    (member_rows tile s) (member-begins tile s))
    (members_by shown list tile))

-- The rows of rising tiles rise.
pub rows-rise : (list : List Spelled) → EachPair NumberBelow list → (tiles : List TilePlace)
    → EachPair TileBelow tiles → EachPair RowBelow (rows_of_tiles list tiles)
unfolding rows_of_tiles
rows-rise list up tiles rising =
    rises-flat_map (λ t row. Begins (tile_numbers t) (row_numbers row)) TileBelow RowBelow (tile_rows list)
    (λ t u a b lt h k. below-fronts (tile_numbers t) (tile_numbers u) (row_numbers a) (row_numbers b) h k lt)
    (tile-begins list) (tile-rises list up) tiles rising
