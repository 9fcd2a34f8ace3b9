-- The entries of an index, one row after another.
use Rattle.std.proofs.Common.{◌≡◌, ℕ, zero, suc, ◌+◌, ◌-◌, ◌^◌, ◌<◌, ◌≤◌, List, [], ◌∷◌, ◌++◌, length, take, drop, true}
use Rattle.std.proofs.Common.{sym, ap, ◌∙◌, arith, Some, length-append}
use Rattle.std.specs.Prelude.{Bool, nat_eq, cond}
use Rattle.std.proofs.Common.{append_assoc}
use Rattle.std.proofs.lemmas.List.{append-nil}
use Rattle.std.proofs.Math.Seq.{take-nil}
use Rattle.std.proofs.lemmas.List.Sums.{sum_by-cons}
use Rattle.mf_base.proofs.ByteLaws.{length-big_endian}
use Rattle.map_model.specs.SubFile.{entry_bytes, entries_from}
use Rattle.mf_rows.specs.declared.kinds.IndexRow.{IndexRow}
use Rattle.spill_parts.specs.Parts.{GivesNext}
use Rattle.spill_parts.proofs.Looked.{told_row}
use Rattle.mf_layout.specs.SubFiles.{entries_told, tiles_size}

-- a row, and those behind it
tiles-first : (row : IndexRow) (rows : List IndexRow) → tiles_size (row ∷ rows) ≡ row.size + tiles_size rows
tiles-first row rows = sum_by-cons (λ (r : IndexRow). r.size) row rows

pub tiles-one : (rows : List IndexRow) (n : ℕ) → 0 < n
    → tiles_size (take n rows) ≡ tiles_size (take 1 rows) + tiles_size (take (n - 1) (drop 1 rows))
tiles-one rows zero some = absurd (omega (arith, some))
tiles-one [] (suc n) some = ap (λ rows. 0 + tiles_size rows) (sym (take-nil (suc n - 1)))
tiles-one (row ∷ rows) (suc n) some =
    let all = tiles-first row (take n rows) in
    let one = tiles-first row [] in
    let same : suc n - 1 ≡ n = omega arith in
    all ∙ (λ i. row.size + tiles_size (take (sym same i) rows)) ∙ omega (arith, one)

-- the entry of the first row, and those behind it
pub entries-one : (offset : ℕ) (rows : List IndexRow) (n : ℕ) → 0 < n
    → entries_told offset (take n rows)
    ≡ entries_told offset (take 1 rows) ++ entries_told (offset + tiles_size (take 1 rows)) (take (n - 1) (drop 1 rows))
unfolding entries_from
entries-one offset rows zero some = absurd (omega (arith, some))
entries-one offset [] (suc n) some = ap (entries_told (offset + 0)) (sym (take-nil (suc n - 1)))
entries-one offset (row ∷ rows) (suc n) some =
    let one : offset + row.size ≡ offset + tiles_size (row ∷ []) = omega (arith, tiles-first row []) in
    let same : suc n - 1 ≡ n = omega arith in
    let entry = entry_bytes (nat_eq row.water 1) offset in
    λ i. sym (append-nil entry) i ++ entries_told (one i) (take (sym same i) rows)

-- where a row is left, its entry has some bytes
pub entries-some : (offset : ℕ) (rows : List IndexRow) (n : ℕ) → 0 < n → 0 < length rows
    → 0 < length (entries_told offset (take n rows))
unfolding entries_from
entries-some offset rows zero some there = absurd (omega (arith, some))
entries-some offset [] (suc n) some there = absurd (omega (arith, there))
entries-some offset (row ∷ rows) (suc n) some there =
    let entry = entry_bytes (nat_eq row.water 1) offset in
    let five : length entry ≡ 5 = length-big_endian 5 ((cond (nat_eq row.water 1) (2 ^ 39) 0) + offset) in
    omega (arith, five, length-append entry (entries_told (offset + row.size) (take n rows)))

-- the entry of a row that was given is that of the first that is left
pub entry-given : (tells : Bool) (left left_now : List IndexRow) (row : IndexRow) (offset : ℕ)
    → GivesNext tells left (Some row) left_now → tells ≡ true
    → entries_told offset (take 1 left) ≡ entry_bytes (nat_eq row.water 1) offset
unfolding entries_from
entry-given tells left left_now row offset given told =
    ap (λ rows. entries_told offset (take 1 rows)) (told_row tells left row left_now given told)
    ∙ append-nil (entry_bytes (nat_eq row.water 1) offset)

-- an entry was put to a buffer, and those behind it are left
pub entry-put : (buffer buffer_now : List ℕ) (offset offset_now : ℕ) (rows rows_now : List IndexRow) (n : ℕ) → 0 < n
    → buffer_now ≡ buffer ++ entries_told offset (take 1 rows) → offset_now ≡ offset + tiles_size (take 1 rows)
    → rows_now ≡ drop 1 rows
    → buffer ++ entries_told offset (take n rows) ≡ buffer_now ++ entries_told offset_now (take (n - 1) rows_now)
entry-put buffer buffer_now offset offset_now rows rows_now n some put next rest =
    let first = entries_told offset (take 1 rows) in
    let later = entries_told (offset + tiles_size (take 1 rows)) (take (n - 1) (drop 1 rows)) in
    ap (λ es. buffer ++ es) (entries-one offset rows n some)
    ∙ sym (append_assoc buffer first later)
    ∙ (λ i. sym put i ++ entries_told (sym next i) (take (n - 1) (sym rest i)))

-- the tiles that are left end where they did
pub tiles-left : (offset offset_now most : ℕ) (rows rows_now : List IndexRow) (n : ℕ) → 0 < n
    → offset_now ≡ offset + tiles_size (take 1 rows) → rows_now ≡ drop 1 rows
    → offset + tiles_size (take n rows) ≤ most → offset_now + tiles_size (take (n - 1) rows_now) ≤ most
tiles-left offset offset_now most rows rows_now n some next rest fits =
    let same = ap (λ rs. tiles_size (take (n - 1) rs)) rest in
    omega (arith, fits, tiles-one rows n some, same, next)

-- no row is left
pub entries-none : (buffer : List ℕ) (offset : ℕ) (rows : List IndexRow) (n : ℕ) → n ≡ 0
    → buffer ++ entries_told offset (take n rows) ≡ buffer
unfolding entries_from
entries-none buffer offset rows n none =
    ap (λ k. buffer ++ entries_told offset (take k rows)) none ∙ append-nil buffer
