-- Intervals are laid out, a first and then the others.
use Rattle.std.proofs.Common.{◌≡◌, ℕ, ◌+◌, ◌^◌, ◌<◌, ◌≤◌, List, [], ◌∷◌, ◌++◌, map, length}
use Rattle.std.proofs.Common.{refl, sym, ap, ◌∙◌, arith, append_assoc, length-append}
use Rattle.std.specs.Prelude.{cond, fold, max}
use Rattle.std.proofs.lemmas.List.{append-nil, map-append, length-map}
use Rattle.std.proofs.lemmas.List.Sums.{sum_by-append, fold-append, count_by-le-length}
use Rattle.mf_base.specs.declared.place.Rect.{Rect}
use Rattle.mf_base.specs.declared.tile.Interval.{Interval}
use Rattle.mf_edge.specs.Spill.{SpillState}
use Rattle.map_model.specs.Intervals.{interval_tiles}
use Rattle.mf_rows.specs.declared.kinds.IndexRow.{IndexRow}
use Rattle.mf_rows.specs.declared.kinds.TileRow.{TileRow}
use Rattle.tile_rows.specs.TileRows.{shown}
use Rattle.mf_layout.specs.Laid.{Tile, content, is_shown, is_water, index_row_of, bytes_of, AreLaid, HasRoom}
use Rattle.mf_layout.specs.Laying.{LaysOut}
use Rattle.mf_layout.specs.AllLaid.{tiles_from, flat, size_of_tiles, IsShort, AreAllLaid, LayAll}
use Rattle.mf_layout.specs.declared.laid.Laid.{Laid}
use Rattle.mf_layout.specs.declared.sub_files.SubFileSize.{SubFileSize}
use Rattle.mf_layout.proofs.LaidTiles.{bytes-append}
use Rattle.mf_layout.proofs.LaidOut.{fault-behind}
use Rattle.mf_layout.proofs.LayingOn.{no_size}
use Rattle.mf_layout.proofs.FirstInterval.{first-done}

-- ---- what is laid out

-- no sub-file
all_laid-none : (l : Laid) (a : SpillState) → AreAllLaid [] l l a a
all_laid-none l a = record {
  shown_are = omega arith;
  water_are = omega arith;
  largest_is = refl;
  rows_are = λ _. sym (append-nil l.index.rows);
  put_size = λ _. omega arith;
  put_are = λ _ _. sym (append-nil (a.bytes l.tiles.part));
}

-- a first sub-file, and others behind it
all_laid-then : (tiles : List Tile) (all : List (List Tile)) (size : SubFileSize) (l l1 l2 : Laid)
    (a b c : SpillState) → AreLaid tiles no_size size l l1 a b → l1.tiles.part ≡ l.tiles.part → c.tells ≡ b.tells
    → AreAllLaid all l1 l2 b c → AreAllLaid (tiles ∷ all) l l2 a c
all_laid-then tiles all size l l1 l2 a b c first part tells then =
    let less : IsShort tiles → size.bytes < 2 ^ 39 = λ (short : IsShort tiles). omega (arith, short, first.bytes_are) in
    let bytes = bytes-append tiles (flat all) in
    record {
      shown_are = omega (
        arith,
        first.shown_are,
        then.shown_are,
        sum_by-append (λ (t : Tile). cond (is_shown t) 1 0) tiles (flat all),
      );
      water_are = omega (
        arith,
        first.water_are,
        then.water_are,
        sum_by-append (λ (t : Tile). cond (is_water t) 1 0) tiles (flat all),
      );
      largest_is = then.largest_is
          ∙ ap (λ (n : ℕ). fold max n (map (λ (t : Tile). t.weight) (flat all))) first.largest_is
          ∙ sym (fold-append max l.largest (map (λ (t : Tile). t.weight) tiles)
          (map (λ (t : Tile). t.weight) (flat all)))
          ∙ ap (fold max l.largest) (sym (map-append (λ (t : Tile). t.weight) tiles (flat all)));
      rows_are = λ short. then.rows_are short.1
          ∙ ap (λ (rs : List IndexRow). rs ++ map index_row_of (flat all)) (first.rows_are (less short.0))
          ∙ append_assoc l.index.rows (map index_row_of tiles) (map index_row_of (flat all))
          ∙ ap (λ (rs : List IndexRow). l.index.rows ++ rs) (sym (map-append index_row_of tiles (flat all)));
      put_size = λ short. omega (
        arith,
        then.put_size short.1,
        first.put_size (less short.0),
        ap length bytes,
        length-append (bytes_of (map content tiles)) (bytes_of (map content (flat all))),
      );
      put_are = λ short told. ap c.bytes (sym part) ∙ then.put_are short.1 told
          ∙ ap (λ (bs : List ℕ). bs ++ bytes_of (map content (flat all)))
          (ap b.bytes part ∙ first.put_are (less short.0) (sym tells ∙ told))
          ∙ append_assoc (a.bytes l.tiles.part) (bytes_of (map content tiles)) (bytes_of (map content (flat all)))
          ∙ ap (λ (bs : List ℕ). a.bytes l.tiles.part ++ bs) (sym bytes);
    }

-- ---- intervals

-- no interval was laid out
pub lay_all-none : (limit : ℕ) (box : Rect) (index : ℕ) (left : List TileRow) (sizes : List SubFileSize) (l : Laid)
    (a : SpillState) → LayAll limit box index [] left left sizes sizes l l a a
lay_all-none limit box index left sizes l a = record {
  all = [];
  places_are = refl;
  sizes_are = sym (append-nil sizes);
  laid_are = all_laid-none l a;
  told = λ _ list later to_lay. record { tiles_are = refl; no_fault = refl; to_lay = to_lay };
}

-- the size of a sub-file is that of its tiles
size-counted : (tiles : List Tile) (size : SubFileSize) (l l1 : Laid) (a b : SpillState)
    → AreLaid tiles no_size size l l1 a b → size ≡ size_of_tiles tiles
size-counted tiles size l l1 a b laid =
    let many : size.tiles ≡ (size_of_tiles tiles).tiles = omega (arith, laid.tiles_are, length-map tiles content)
    in
    let bytes : size.bytes ≡ (size_of_tiles tiles).bytes = omega (arith, laid.bytes_are) in
    λ i. record { tiles = many i; bytes = bytes i }

-- an interval, and others behind it
pub lay_all-then : (limit : ℕ) (box : Rect) (index : ℕ) (interval : Interval) (intervals : List Interval)
    (left left1 left2 : List TileRow) (size : SubFileSize) (sizes sizes2 : List SubFileSize) (l l1 l2 : Laid)
    (a b c : SpillState) → l1.tiles.part ≡ l.tiles.part → b.tells ≡ a.tells → c.tells ≡ b.tells
    → LaysOut limit (interval_tiles box index interval) left left1 no_size size l l1 a b
    → LayAll limit box (index + 1) intervals left1 left2 (sizes ++ size ∷ []) sizes2 l1 l2 b c
    → LayAll limit box index (interval ∷ intervals) left left2 sizes sizes2 l l2 a c
lay_all-then limit box index interval intervals left left1 left2 size sizes sizes2 l l1 l2 a b c part tells tells_then
    first then =
    let counted = size-counted first.done size l l1 a b first.laid_are in
    record {
      all = first.done ∷ then.all;
      places_are = λ i. first.places_are i ∷ then.places_are i;
      sizes_are = then.sizes_are ∙ append_assoc sizes (size ∷ []) (map size_of_tiles then.all)
          ∙ ap (λ (s : SubFileSize). sizes ++ s ∷ map size_of_tiles then.all) counted;
      laid_are = all_laid-then first.done then.all size l l1 l2 a b c first.laid_are part tells_then then.laid_are;
      told = λ told list later to_lay.
          let before = first-done limit box index interval intervals left left1 no_size size l l1 a b told first list later
          to_lay in
          let now = then.told (tells ∙ told) list later before.to_lay in
          record {
            tiles_are = λ i. before.done_are i ∷ now.tiles_are i;
            no_fault = fault-behind limit (map shown list) (interval_tiles box index interval)
                (tiles_from box (index + 1) intervals) before.no_fault
                ∙ now.no_fault;
            to_lay = now.to_lay;
          };
    }

-- ---- room

-- room for more is room for less
pub room-less : (m n : ℕ) (l : Laid) → n ≤ m → HasRoom m l → HasRoom n l
room-less m n l less room = record {
  rows = omega (arith, room.rows);
  bytes = omega (arith, room.bytes);
  shown = omega (arith, room.shown);
  water = omega (arith, room.water);
}

-- behind a sub-file there is room for what remains
pub room-behind : (n : ℕ) (tiles : List Tile) (size : SubFileSize) (l l1 : Laid) (a b : SpillState)
    → AreLaid tiles no_size size l l1 a b → length tiles ≤ 2 ^ 32 → HasRoom (2 ^ 39 + n) l
    → HasRoom n l1
room-behind n tiles size l l1 a b laid few room =
    let shows = count_by-le-length is_shown tiles in
    let covered = count_by-le-length is_water tiles in
    record {
      rows = omega (arith, room.rows, laid.most_rows);
      bytes = omega (arith, room.bytes, laid.most_bytes);
      shown = omega (arith, room.shown, laid.shown_are, shows);
      water = omega (arith, room.water, laid.water_are, covered);
    }
