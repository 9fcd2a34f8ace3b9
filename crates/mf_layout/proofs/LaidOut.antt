-- Tiles are laid out of rows, some and then others.
use Rattle.std.proofs.Common.{◌≡◌, ℕ, ◌≤◌, List, [], ◌∷◌, ◌++◌, map, length}
use Rattle.std.proofs.Common.{Option, Some, None, refl, sym, ap, subst, ◌∙◌, append_assoc}
use Rattle.std.specs.Prelude.{Bool, nat_lt, find, option_map}
use Rattle.std.specs.Option.{option_or}
use Rattle.std.proofs.lemmas.List.{map-append, length-map}
use Rattle.std.proofs.lemmas.List.Folds.{find-append}
use Rattle.std.proofs.lemmas.Bool.{le-ltb}
use Rattle.mf_base.specs.declared.tile.TilePlace.{TilePlace}
use Rattle.mf_edge.specs.Spill.{SpillState}
use Rattle.feature_model.specs.Features.{Feature}
use Rattle.feature_model.specs.declared.fault.LimitFault.{LimitFault}
use Rattle.map_model.specs.MapFile.{tile_weight}
use Rattle.mf_rows.specs.declared.kinds.TileRow.{TileRow}
use Rattle.tile_rows.specs.TileRows.{shown}
use Rattle.mf_layout.specs.Laid.{Tile}
use Rattle.mf_layout.specs.Laying.{tile_of, tile_over, tiles_fault, AreToLay, AreDone, LaysOut}
use Rattle.mf_layout.specs.declared.laid.Laid.{Laid}
use Rattle.mf_layout.specs.declared.sub_files.SubFileSize.{SubFileSize}
use Rattle.mf_layout.proofs.LaidTiles.{laid-none, laid-then}

-- ---- the first tile over the limit

-- of tiles of which none is over the limit and of others, the first is that of the others
pub fault-behind : (limit : ℕ) (features : List Feature) (tiles others : List TilePlace)
    → tiles_fault limit features tiles ≡ None → tiles_fault limit features (tiles ++ others)
    ≡ tiles_fault limit features others
fault-behind limit features tiles others none =
    ap (option_map (tile_over features)) (find-append over tiles others)
    ∙ by_first (find over tiles) none
  where
    over : TilePlace → Bool
    over t = nat_lt limit (tile_weight features t)

    by_first : (o : Option TilePlace) → option_map (tile_over features) o ≡ None
        → option_map (tile_over features) (option_or o (find over others)) ≡ tiles_fault limit features others
    by_first None without = refl
    by_first (Some t) without = absurd (cc without)

-- the first over the limit is it too where others are behind it
pub fault-first : (limit : ℕ) (features : List Feature) (tiles others : List TilePlace) (f : LimitFault)
    → tiles_fault limit features tiles ≡ Some f → tiles_fault limit features (tiles ++ others) ≡ Some f
fault-first limit features tiles others f some =
    ap (option_map (tile_over features)) (find-append over tiles others)
    ∙ by_first (find over tiles) some
  where
    over : TilePlace → Bool
    over t = nat_lt limit (tile_weight features t)

    by_first : (o : Option TilePlace) → option_map (tile_over features) o ≡ Some f
        → option_map (tile_over features) (option_or o (find over others)) ≡ Some f
    by_first None without = absurd (cc without)
    by_first (Some t) is = is

-- one tile
pub one-within : (limit : ℕ) (features : List Feature) (t : TilePlace) → tile_weight features t ≤ limit
    → tiles_fault limit features (t ∷ []) ≡ None
one-within limit features t le = rw (le-ltb limit (tile_weight features t) le) refl

-- ---- some tiles and then others

-- no tile was laid out
pub lays-none : (limit : ℕ) (left : List TileRow) (s : SubFileSize) (l : Laid) (a : SpillState)
    → LaysOut limit [] left left s s l l a a
lays-none limit left s l a = record {
  done = [];
  places_are = refl;
  laid_are = laid-none s l a;
  told = λ _ list later to_lay. record { done_are = refl; no_fault = refl; to_lay = to_lay };
}

-- tiles, and others behind them
pub lays-then : (limit : ℕ) (xs ys : List TilePlace) (left left1 left2 : List TileRow) (s s1 s2 : SubFileSize)
    (l l1 l2 : Laid) (a b c : SpillState) → l1.tiles.part ≡ l.tiles.part → b.tells ≡ a.tells → c.tells ≡ b.tells
    → LaysOut limit xs left left1 s s1 l l1 a b → LaysOut limit ys left1 left2 s1 s2 l1 l2 b c
    → LaysOut limit (xs ++ ys) left left2 s s2 l l2 a c
lays-then limit xs ys left left1 left2 s s1 s2 l l1 l2 a b c part tells tells_then first then = record {
  done = first.done ++ then.done;
  places_are = map-append (λ (t : Tile). t.place) first.done then.done
      ∙ (λ i. first.places_are i ++ then.places_are i);
  laid_are = laid-then first.done then.done s s1 s2 l l1 l2 a b c first.laid_are part tells_then then.laid_are;
  told = λ told list later to_lay.
      let before : AreDone limit list xs (ys ++ later) left1 first.done = first.told told list (ys ++ later)
      (subst (λ ts. AreToLay limit list ts left) (append_assoc xs ys later) to_lay) in
      let now : AreDone limit list ys later left2 then.done = then.told (tells ∙ told) list later before.to_lay in
      record {
        done_are = (λ i. before.done_are i ++ now.done_are i)
            ∙ sym (map-append (tile_of (map shown list)) xs ys);
        no_fault = fault-behind limit (map shown list) xs ys before.no_fault ∙ now.no_fault;
        to_lay = now.to_lay;
      };
}

-- how many tiles were laid out
pub many-done : (limit : ℕ) (places : List TilePlace) (left left_now : List TileRow) (s s_now : SubFileSize)
    (l l_now : Laid) (a b : SpillState) (is : LaysOut limit places left left_now s s_now l l_now a b)
    → length is.done ≡ length places
many-done limit places left left_now s s_now l l_now a b is =
    sym (length-map is.done (λ (t : Tile). t.place)) ∙ ap length is.places_are
