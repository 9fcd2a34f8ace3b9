-- Tiles are laid out one behind another.
use Rattle.std.proofs.Common.{◌≡◌, ℕ, ◌+◌, ◌^◌, ◌<◌, List, [], ◌∷◌, ◌++◌, map, length, true, Bool}
use Rattle.std.proofs.Common.{refl, sym, ap, ◌∙◌, arith, append_assoc}
use Rattle.std.specs.Prelude.{fold, max, cond, nat_eq}
use Rattle.std.proofs.lemmas.List.{append-nil, length-append, length-map, map-append}
use Rattle.std.proofs.lemmas.List.Sums.{sum_by-append, fold-append}
use Rattle.std.proofs.lemmas.Grind.{flat_map-append}
use Rattle.mf_base.specs.declared.tile.TilePlace.{TilePlace}
use Rattle.mf_edge.specs.Spill.{SpillState, SameParts}
use Rattle.feature_model.specs.Features.{Feature}
use Rattle.map_model.specs.SubFile.{TileContent, content_of, entry_of, sub_file_size}
use Rattle.map_model.specs.TileBytes.{tile_bytes}
use Rattle.mf_rows.specs.declared.kinds.IndexRow.{IndexRow}
use Rattle.mf_layout.specs.Laid.{Tile, content, is_shown, is_water, index_row_of, bytes_of, AreLaid}
use Rattle.mf_layout.specs.SubFiles.{entry_told}
use Rattle.mf_layout.specs.declared.laid.Laid.{Laid}
use Rattle.mf_layout.specs.declared.sub_files.SubFileSize.{SubFileSize}
use Rattle.mf_layout.proofs.Contents.{size-is}

-- the bytes of a tile are those of its members
pub content-bytes : (place : TilePlace) (members : List Feature)
    → tile_bytes place members ≡ (content_of place members).bytes
unfolding content_of
content-bytes place members = refl

-- the bytes of tiles and of others behind them
pub bytes-append : (xs ys : List Tile)
    → bytes_of (map content (xs ++ ys)) ≡ bytes_of (map content xs) ++ bytes_of (map content ys)
bytes-append xs ys =
    ap bytes_of (map-append content xs ys)
    ∙ flat_map-append (λ (t : TileContent). t.bytes) (map content xs) (map content ys)

-- the size of a sub-file with tiles and others behind them
size-append : (xs ys : List Tile)
    → sub_file_size (map content (xs ++ ys)) ≡ sub_file_size (map content xs) + sub_file_size (map content ys)
size-append xs ys =
    let all = size-is (map content (xs ++ ys)) in
    let first = size-is (map content xs) in
    let later = size-is (map content ys) in
    let bytes = ap length (bytes-append xs ys)
    ∙ length-append (bytes_of (map content xs)) (bytes_of (map content ys)) in
    let many = length-map (xs ++ ys) content ∙ length-append xs ys in
    omega (arith, all, first, later, bytes, many, length-map xs content, length-map ys content)

-- nothing was laid out
pub laid-none : (s : SubFileSize) (l : Laid) (a : SpillState) → AreLaid [] s s l l a a
laid-none s l a = record {
  tiles_are = omega arith;
  bytes_are = omega arith;
  shown_are = omega arith;
  water_are = omega arith;
  largest_is = refl;
  rows_are = λ _. sym (append-nil l.index.rows);
  put_size = λ _. omega arith;
  put_are = λ _ _. sym (append-nil (a.bytes l.tiles.part));
  most_rows = omega arith;
  most_bytes = omega arith;
}

-- tiles, and others behind them
pub laid-then : (xs ys : List Tile) (s s1 s2 : SubFileSize) (l l1 l2 : Laid) (a b c : SpillState)
    → AreLaid xs s s1 l l1 a b → l1.tiles.part ≡ l.tiles.part → c.tells ≡ b.tells → AreLaid ys s1 s2 l1 l2 b c
    → AreLaid (xs ++ ys) s s2 l l2 a c
laid-then xs ys s s1 s2 l l1 l2 a b c first part tells then =
    let size = size-append xs ys in
    let before : s2.bytes < 2 ^ 39 → s1.bytes < 2 ^ 39 = λ (less : s2.bytes < 2 ^ 39). omega (arith, less, then.bytes_are)
    in
    record {
      tiles_are = omega (arith, first.tiles_are, then.tiles_are, length-append xs ys);
      bytes_are = omega (arith, first.bytes_are, then.bytes_are, size);
      shown_are = omega (
        arith,
        first.shown_are,
        then.shown_are,
        sum_by-append (λ (t : Tile). cond (is_shown t) 1 0) xs ys,
      );
      water_are = omega (
        arith,
        first.water_are,
        then.water_are,
        sum_by-append (λ (t : Tile). cond (is_water t) 1 0) xs ys,
      );
      largest_is = then.largest_is
          ∙ ap (λ (n : ℕ). fold max n (map (λ (t : Tile). t.weight) ys)) first.largest_is
          ∙ sym (fold-append max l.largest (map (λ (t : Tile). t.weight) xs) (map (λ (t : Tile). t.weight) ys))
          ∙ ap (fold max l.largest) (sym (map-append (λ (t : Tile). t.weight) xs ys));
      rows_are = λ less. then.rows_are less
          ∙ ap (λ (rs : List IndexRow). rs ++ map index_row_of ys) (first.rows_are (before less))
          ∙ append_assoc l.index.rows (map index_row_of xs) (map index_row_of ys)
          ∙ ap (λ (rs : List IndexRow). l.index.rows ++ rs) (sym (map-append index_row_of xs ys));
      put_size = λ less. omega (
        arith,
        then.put_size less,
        first.put_size (before less),
        ap length (bytes-append xs ys),
        length-append (bytes_of (map content xs)) (bytes_of (map content ys)),
      );
      put_are = λ less told. ap c.bytes (sym part) ∙ then.put_are less told
          ∙ ap (λ (bs : List ℕ). bs ++ bytes_of (map content ys))
          (ap b.bytes part ∙ first.put_are (before less) (sym tells ∙ told))
          ∙ append_assoc (a.bytes l.tiles.part) (bytes_of (map content xs)) (bytes_of (map content ys))
          ∙ ap (λ (bs : List ℕ). a.bytes l.tiles.part ++ bs) (sym (bytes-append xs ys));
      most_rows = omega (arith, first.most_rows, then.most_rows);
      most_bytes = omega (arith, first.most_bytes, then.most_bytes);
    }

-- a read stands before
pub laid-read : (done : List Tile) (s s1 : SubFileSize) (l l1 : Laid) (a b c : SpillState) → SameParts a b
    → AreLaid done s s1 l l1 b c → AreLaid done s s1 l l1 a c
laid-read done s s1 l l1 a b c same laid =
    record {
      tiles_are = laid.tiles_are;
      bytes_are = laid.bytes_are;
      shown_are = laid.shown_are;
      water_are = laid.water_are;
      largest_is = laid.largest_is;
      rows_are = laid.rows_are;
      put_size = laid.put_size;
      most_rows = laid.most_rows;
      most_bytes = laid.most_bytes;
      put_are = λ less told. laid.put_are less told
          ∙ ap (λ (st : SpillState). st.bytes l.tiles.part ++ bytes_of (map content done)) same;
    }

-- the rows of tiles tell what their sub-file has of them
pub rows-told : (tiles : List Tile) → map entry_told (map index_row_of tiles) ≡ map entry_of (map content tiles)
unfolding content_of
rows-told [] = refl
rows-told (t ∷ tiles) =
    λ i. (bit (is_water t) i, length (content t).bytes) ∷ rows-told tiles i
  where
    bit : (b : Bool) → nat_eq (cond b 1 0) 1 ≡ b
    bit true = refl
    bit Bool.false = refl
