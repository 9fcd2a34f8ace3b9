-- The loop over the tiles of an interval: which were laid out, and which are left.
use Rattle.std.proofs.Common.{◌≡◌, ℕ, ◌*◌, ◌^◌, ◌<◌, ◌≤◌, List, [], ◌∷◌, ◌++◌, map, length, true}
use Rattle.std.proofs.Common.{Some, refl, sym, ap, subst, ◌∙◌, arith, append_assoc, length-append}
use Rattle.std.specs.List.{AllByRecursion}
use Rattle.std.proofs.lemmas.List.{append-nil}
use Rattle.std.proofs.lemmas.List.Sums.{count_by-le-length}
use Rattle.mf_base.specs.declared.tile.TilePlace.{TilePlace}
use Rattle.mf_edge.specs.Spill.{SpillState}
use Rattle.feature_model.specs.declared.fault.LimitFault.{LimitFault}
use Rattle.feature_model.proofs.Rising.{all-after}
use Rattle.mf_rows.specs.declared.kinds.TileRow.{TileRow}
use Rattle.spill_parts.specs.Shaped.{Spelled}
use Rattle.tile_rows.specs.TileRows.{shown}
use Rattle.mf_layout.specs.Laid.{is_shown, is_water, AreThere, HasRoom, TouchesTwo}
use Rattle.mf_layout.specs.Laying.{tiles_fault, AreToLay, LaysOut}
use Rattle.mf_layout.specs.declared.laid.Laid.{Laid}
use Rattle.mf_layout.specs.declared.sub_files.SubFileSize.{SubFileSize}
use Rattle.mf_layout.proofs.LaidOut.{lays-none, lays-then, many-done, fault-behind, fault-first}
use Rattle.mf_layout.proofs.TwoParts.{two-none, two-then}

-- a sub-file without tiles
abbrev pub no_size : SubFileSize
no_size = record { tiles = 0; bytes = 0 }

-- Of all tiles the first were laid out, and these are left.
pub record IsLaying (limit : ℕ) (all rest : List TilePlace) (left left_now : List TileRow) (size : SubFileSize)
    (laid laid_now : Laid) (before now : SpillState) : Type 0 where
  pub done : List TilePlace
  pub whole : done ++ rest ≡ all
  pub lays : LaysOut limit done left left_now no_size size laid laid_now before now
  pub small : size.bytes ≤ 2 ^ 29 * size.tiles
  pub there : AreThere laid_now.index laid_now.tiles now
  pub same_index : laid_now.index.part ≡ laid.index.part
  pub same_tiles : laid_now.tiles.part ≡ laid.tiles.part
  pub only : TouchesTwo laid.index.part laid.tiles.part before now
  pub same_faults : now.faults ≡ before.faults

-- before the first tile
pub laying-first : (limit : ℕ) (all : List TilePlace) (left : List TileRow) (l : Laid) (a : SpillState)
    → AreThere l.index l.tiles a → IsLaying limit all all left left no_size l l a a
laying-first limit all left l a there = record {
  done = [];
  whole = refl;
  lays = lays-none limit left no_size l a;
  small = omega arith;
  there = there;
  same_index = refl;
  same_tiles = refl;
  only = two-none l.index.part l.tiles.part a;
  same_faults = refl;
}

module _ (limit : ℕ) (all rest : List TilePlace) (left left1 : List TileRow) (s : SubFileSize) (l l1 : Laid)
    (a b : SpillState) (tile : TilePlace) (more : List TilePlace) (next : rest ≡ tile ∷ more)
    (was : IsLaying limit all rest left left1 s l l1 a b) where
  -- all tiles: those that were laid out, the next, and those behind it
  all-are : was.done ++ tile ∷ more ≡ all
  all-are = ap (λ (ts : List TilePlace). was.done ++ ts) (sym next) ∙ was.whole

  -- what holds of all tiles holds of the next
  pub next-holds : (P : TilePlace → Type 0) → AllByRecursion P all → P tile
  next-holds P each = (all-after P was.done (tile ∷ more) (subst (AllByRecursion P) (sym all-are) each)).0

  -- it is one of few
  pub next-few : length all ≤ 2 ^ 32 → s.tiles < 2 ^ 32
  next-few few =
      let many = many-done limit was.done left left1 no_size s l l1 a b was.lays in
      let counted = was.lays.laid_are.tiles_are in
      let whole = ap length all-are in
      let parts = length-append was.done (tile ∷ more) in
      omega (arith, few, many, counted, whole, parts)

  -- there is room for it
  pub next-room : length all ≤ 2 ^ 32 → HasRoom (2 ^ 39) l → HasRoom 0 l1
  next-room few room =
      let many = many-done limit was.done left left1 no_size s l l1 a b was.lays in
      let whole = ap length all-are in
      let parts = length-append was.done (tile ∷ more) in
      let done : length was.lays.done ≤ 2 ^ 32 = omega (arith, few, many, whole, parts) in
      let shows = count_by-le-length is_shown was.lays.done in
      let covered = count_by-le-length is_water was.lays.done in
      record {
        rows = omega (arith, room.rows, was.lays.laid_are.most_rows);
        bytes = omega (arith, room.bytes, was.lays.laid_are.most_bytes);
        shown = omega (arith, room.shown, was.lays.laid_are.shown_are, shows, done);
        water = omega (arith, room.water, was.lays.laid_are.water_are, covered, done);
      }

  -- its rows are left
  pub next-to_lay : a.tells ≡ true → (list : List Spelled) (later : List TilePlace)
      → AreToLay limit list (all ++ later) left → AreToLay limit list (tile ∷ (more ++ later)) left1
  next-to_lay told list later to_lay =
      (was.lays.told told list (tile ∷ (more ++ later)) (subst (λ (ts : List TilePlace). AreToLay limit list ts left)
      (ap (λ (ts : List TilePlace). ts ++ later) (sym all-are) ∙ append_assoc was.done (tile ∷ more) later) to_lay)).to_lay

  -- it is the first over the limit
  pub next-over : a.tells ≡ true → (list : List Spelled) (later : List TilePlace) (f : LimitFault)
      → AreToLay limit list (all ++ later) left → tiles_fault limit (map shown list) (tile ∷ []) ≡ Some f
      → tiles_fault limit (map shown list) all ≡ Some f
  next-over told list later f to_lay over =
      let before = was.lays.told told list (tile ∷ (more ++ later)) (subst (λ (ts : List TilePlace). AreToLay limit list
      ts left) (ap (λ (ts : List TilePlace). ts ++ later) (sym all-are) ∙ append_assoc was.done (tile ∷ more) later)
      to_lay) in
      ap (tiles_fault limit (map shown list)) (sym all-are)
      ∙ fault-behind limit (map shown list) was.done (tile ∷ more) before.no_fault
      ∙ fault-first limit (map shown list) (tile ∷ []) more f over

  -- it is laid out
  pub laying-next : (limit_now : ℕ) (left2 : List TileRow) (s2 : SubFileSize) (l2 : Laid) (c : SpillState)
      → limit_now ≡ limit → LaysOut limit_now (tile ∷ []) left1 left2 s s2 l1 l2 b c → s2.bytes ≤ 2 ^ 29 * s2.tiles
      → AreThere l2.index l2.tiles c → l2.index.part ≡ l1.index.part → l2.tiles.part ≡ l1.tiles.part
      → TouchesTwo l1.index.part l1.tiles.part b c → c.faults ≡ b.faults
      → IsLaying limit all more left left2 s2 l l2 a c
  laying-next limit_now left2 s2 l2 c same lays small there same_index same_tiles only same_faults = record {
    done = was.done ++ tile ∷ [];
    whole = append_assoc was.done (tile ∷ []) more ∙ all-are;
    lays = lays-then limit was.done (tile ∷ []) left left1 left2 no_size s s2 l l1 l2 a b c was.same_tiles
        was.only.same.tells only.same.tells was.lays
        (subst (λ n. LaysOut n (tile ∷ []) left1 left2 s s2 l1 l2 b c) same lays);
    small = small;
    there = there;
    same_index = same_index ∙ was.same_index;
    same_tiles = same_tiles ∙ was.same_tiles;
    only = two-then l.index.part l.tiles.part l1.index.part l1.tiles.part a b c was.only was.same_index was.same_tiles
        only;
    same_faults = same_faults ∙ was.same_faults;
  }

-- all tiles were laid out
pub laying-all : (limit : ℕ) (all rest : List TilePlace) (left left_now : List TileRow) (s : SubFileSize) (l l1 : Laid)
    (a b : SpillState) → rest ≡ [] → IsLaying limit all rest left left_now s l l1 a b
    → LaysOut limit all left left_now no_size s l l1 a b
laying-all limit all rest left left_now s l l1 a b none was =
    subst (λ (ts : List TilePlace). LaysOut limit ts left left_now no_size s l l1 a b)
    (sym (append-nil was.done) ∙ ap (λ (ts : List TilePlace). was.done ++ ts) (sym none) ∙ was.whole) was.lays
