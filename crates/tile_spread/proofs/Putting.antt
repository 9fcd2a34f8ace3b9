-- Rows are put one piece after another to a part.
use Rattle.std.proofs.Common.{◌≡◌, ℕ, ◌+◌, ◌*◌, ◌≤◌, List, ◌++◌, length, Result, Ok, Err, OnOk, OnErr}
use Rattle.std.proofs.Common.{refl, ap, subst, ◌∙◌, arith, append_assoc}
use Rattle.std.specs.Prelude.{flat_map}
use Rattle.std.proofs.lemmas.List.{length-append}
use Rattle.map_model.specs.TileRects.{from_to}
use Rattle.mf_edge.specs.Device.{CountsOne}
use Rattle.mf_edge.specs.Spill.{SpillState, TouchesOnly, part_limit}
use Rattle.mf_rows.specs.Kinds.{tile_kind}
use Rattle.mf_rows.specs.declared.kinds.TileRow.{TileRow}
use Rattle.spill_parts.specs.Parts.{Part, IsHeld}
use Rattle.spill_parts.proofs.Added.{touched_then}
use Rattle.tile_spread.proofs.FromTo.{made-next}

-- Of all rows these are left: the others were put to the part.
pub record IsPutting (all left : List TileRow) (w w_now : Part TileRow) (s s_now : SpillState) : Type 0 where
  pub part : w_now.part ≡ w.part
  pub whole : w_now.rows ++ left ≡ w.rows ++ all
  pub held : IsHeld tile_kind w_now s_now
  pub same_faults : s_now.faults ≡ s.faults
  pub within : 39 * (length w.rows + length all) ≤ part_limit → s_now.is_overrun ≡ s.is_overrun
  pub only : TouchesOnly w.part s s_now

-- before the first
pub putting-first : (all : List TileRow) (w : Part TileRow) (s : SpillState) → IsHeld tile_kind w s
    → IsPutting all all w w s s
putting-first all w s held = record {
  part = refl;
  whole = refl;
  held = held;
  same_faults = refl;
  within = λ room. refl;
  only = record {
    same = record { name = refl; started = refl; tells = refl };
    count = refl;
    others = record { size = λ q apart. refl; bytes = λ q apart. refl };
  };
}

-- what is so after a clause that speaks of an answer
pub on-ok : {T E A B : Type 0} (r : Result T E) → OnOk r A → (A → B) → OnOk r B
on-ok (Ok x) a f = f a
on-ok (Err e) a f = tt

pub on-err : {T E A : Type 0} (r : Result T E) → A → OnErr r A
on-err (Ok x) a = tt
on-err (Err e) a = a

-- the first of those that are left
pub putting-split : {all : List TileRow} {w w_now : Part TileRow} {s s_now : SpillState} (f : ℕ → List TileRow)
    (a b : ℕ) → a ≤ b → IsPutting all (flat_map f (from_to a b)) w w_now s s_now
    → IsPutting all (f a ++ flat_map f (from_to (a + 1) b)) w w_now s s_now
putting-split {all} {w} {w_now} {s} {s_now} f a b le was =
    subst (λ rows. IsPutting all rows w w_now s s_now) (made-next f a b le) was

module _ (all piece more : List TileRow) (w w_now w_then : Part TileRow) (s s_now s_then : SpillState)
    (was : IsPutting all (piece ++ more) w w_now s s_now)
    (room : 39 * (length w_now.rows + length piece) ≤ part_limit → s_then.is_overrun ≡ s_now.is_overrun)
    (part : w_then.part ≡ w_now.part)
    (only : TouchesOnly w_now.part s_now s_then)
  where
    -- the store is overrun no more than before, where all rows have room
    pub room-then : 39 * (length w.rows + length all) ≤ part_limit → s_then.is_overrun ≡ s.is_overrun
    room-then fits = room (omega (
      arith,
      fits,
      ap length was.whole,
      length-append w_now.rows (piece ++ more),
      length-append piece more,
      length-append w.rows all,
    )) ∙ was.within fits

    pub part-then : w_then.part ≡ w.part
    part-then = part ∙ was.part

    pub only-then : TouchesOnly w.part s s_then
    only-then = touched_then was.only refl was.part only

    -- one piece more
    pub putting-next : w_then.rows ≡ w_now.rows ++ piece → IsHeld tile_kind w_then s_then
        → s_then.faults ≡ s_now.faults → IsPutting all more w w_then s s_then
    putting-next put held same = record {
      part = part-then;
      whole = ap (λ rows. rows ++ more) put ∙ append_assoc w_now.rows piece more ∙ was.whole;
      held = held;
      same_faults = same ∙ was.same_faults;
      within = room-then;
      only = only-then;
    }

    -- a piece that failed
    pub failed-then : CountsOne s_now.faults s_then.faults → CountsOne s.faults s_then.faults
    failed-then failed = subst (λ n. CountsOne n s_then.faults) was.same_faults failed
