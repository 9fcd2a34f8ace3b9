-- Rows of sixteen bytes, one after another as bytes.
use Rattle.std.proofs.Common.{◌≡◌, ℕ, zero, suc, ◌+◌, ◌*◌, ◌/◌, ◌<◌, ◌≤◌, List, [], ◌∷◌, ◌++◌, length, take, drop, reverse}
use Rattle.std.proofs.Common.{refl, sym, ap, ◌∙◌, arith, append_assoc, append-nil}
use Rattle.std.specs.Prelude.{slice_index_or}
use Rattle.std.proofs.lemmas.List.{length-append, take_at, drop_at, take-append-le, drop-append-le, length-drop}
use Rattle.std.proofs.lemmas.List.{reverse-append}
use Rattle.std.specs.Simd.{first_chunks}
use Rattle.mf_base.specs.Buffer.{Buffer, AppendsTo}
use Rattle.mf_rows.specs.Units.{Unit16}
use Rattle.mf_rows.specs.RecordUnits.{AreWide, bytes_in}
use Rattle.ring_assembly.specs.Rows.{rows_in, row_total, IsInRows, LaysRows}

wide-head : (row : Unit16) (rows : List Unit16) → AreWide (row ∷ rows) → length row ≡ 16
wide-head row rows wide = wide 0 (omega arith)

wide-tail : (row : Unit16) (rows : List Unit16) → AreWide (row ∷ rows) → AreWide rows
wide-tail row rows wide = λ i within. wide (suc i) (omega (arith, within))

pub wide-one : (row : Unit16) → length row ≡ 16 → AreWide (row ∷ [])
wide-one row here = λ i. by_place i
  where
    by_place : (i : ℕ) → i < length (row ∷ []) → length (slice_index_or (row ∷ []) i []) ≡ 16
    by_place zero within = here
    by_place (suc i) within = absurd (omega (arith, within))

-- ---- chunks of sixteen bytes are rows

length-chunks : (k : ℕ) (bytes : List ℕ) → length (first_chunks 16 k bytes) ≡ k
length-chunks zero bytes = refl
length-chunks (suc k) bytes = ap suc (length-chunks k (drop 16 bytes))

bytes-long : (rows : List Unit16) → AreWide rows → length (bytes_in rows) ≡ 16 * length rows
bytes-long [] wide = refl
bytes-long (row ∷ rows) wide =
    omega (
      arith,
      length-append row (bytes_in rows),
      wide-head row rows wide,
      bytes-long rows (wide-tail row rows wide),
    )

chunks-rows : (rows : List Unit16) → AreWide rows → first_chunks 16 (length rows) (bytes_in rows) ≡ rows
chunks-rows [] wide = refl
chunks-rows (row ∷ rows) wide =
    let long = wide-head row rows wide in
    ap (λ r. r ∷ first_chunks 16 (length rows) (drop 16 (row ++ bytes_in rows))) (take_at row (bytes_in rows) 16 long)
    ∙ ap (λ bytes. row ∷ first_chunks 16 (length rows) bytes) (drop_at row (bytes_in rows) 16 long)
    ∙ ap (λ rs. row ∷ rs) (chunks-rows rows (wide-tail row rows wide))

chunks-append : (k j : ℕ) (xs ys : List ℕ) → length xs ≡ 16 * k
    → first_chunks 16 (k + j) (xs ++ ys) ≡ first_chunks 16 k xs ++ first_chunks 16 j ys
chunks-append zero j [] ys long =
    let same : 0 + j ≡ j = omega arith in
    ap (λ (n : ℕ). first_chunks 16 n ys) same
chunks-append zero j (x ∷ xs) ys long = absurd (omega (arith, long))
chunks-append (suc k) j xs ys long =
    let enough : 16 ≤ length xs = omega (arith, long) in
    let rest : length (drop 16 xs) ≡ 16 * k = omega (arith, long, length-drop 16 xs) in
    let place : suc k + j ≡ suc (k + j) = omega arith in
    ap (λ (n : ℕ). first_chunks 16 n (xs ++ ys)) place
    ∙ ap (λ r. r ∷ first_chunks 16 (k + j) (drop 16 (xs ++ ys))) (take-append-le 16 xs ys enough)
    ∙ ap (λ bytes. take 16 xs ∷ first_chunks 16 (k + j) bytes) (drop-append-le 16 xs ys enough)
    ∙ ap (λ rs. take 16 xs ∷ rs) (chunks-append k j (drop 16 xs) ys rest)

-- ---- rows that are laid

rows-count : (bytes : List ℕ) → row_total bytes ≡ length bytes / 16
unfolding rows_in
rows-count bytes = length-chunks (length bytes / 16) bytes

rows-are : (k : ℕ) (bytes : List ℕ) → length bytes ≡ 16 * k → rows_in bytes ≡ first_chunks 16 k bytes
unfolding rows_in
rows-are k bytes long =
    let count : length bytes / 16 ≡ k = omega (arith, long) in
    ap (λ n. first_chunks 16 n bytes) count

module _ (old new : Buffer) (rows : List Unit16) (whole : IsInRows old.bytes) (wide : AreWide rows)
    (put : AppendsTo old new (bytes_in rows)) where
  abbrev k : ℕ
  k = row_total old.bytes

  long-new : length (old.bytes ++ bytes_in rows) ≡ 16 * (k + length rows)
  long-new = omega (arith, whole, length-append old.bytes (bytes_in rows), bytes-long rows wide)

  rows-new : rows_in (old.bytes ++ bytes_in rows) ≡ rows_in old.bytes ++ rows
  rows-new = rows-are (k + length rows) (old.bytes ++ bytes_in rows) long-new
      ∙ chunks-append k (length rows) old.bytes (bytes_in rows) whole
      ∙ ap (λ rs. first_chunks 16 k old.bytes ++ rs) (chunks-rows rows wide)
      ∙ ap (λ rs. rs ++ rows) (sym (rows-are k old.bytes whole))

  -- units that are put as bytes are laid as rows
  pub rows-laid : LaysRows old new rows
  rows-laid =
      let bytes : new.bytes ≡ old.bytes ++ bytes_in rows = ap (λ (b : Buffer). b.bytes) put in
      record {
        rows = ap rows_in bytes ∙ rows-new;
        whole = omega (
          arith,
          ap length bytes,
          long-new,
          ap length (ap rows_in bytes ∙ rows-new),
          length-append (rows_in old.bytes) rows,
        );
        capacity = ap (λ (b : Buffer). b.capacity) put;
      }

pub lays-none : (out : Buffer) → IsInRows out.bytes → LaysRows out out []
lays-none out whole = record { rows = sym (append-nil (rows_in out.bytes)); whole = whole; capacity = refl }

pub lays-more : (a b c : Buffer) (xs ys : List Unit16) → LaysRows a b xs → LaysRows b c ys → LaysRows a c (xs ++ ys)
lays-more a b c xs ys first then = record {
  rows = then.rows ∙ ap (λ rs. rs ++ ys) first.rows ∙ append_assoc (rows_in a.bytes) xs ys;
  whole = then.whole;
  capacity = then.capacity ∙ first.capacity;
}

pub lays-long : (a b : Buffer) (xs : List Unit16) → LaysRows a b xs
    → row_total b.bytes ≡ row_total a.bytes + length xs
lays-long a b xs lays = ap length lays.rows ∙ length-append (rows_in a.bytes) xs

-- nothing is laid
pub none-in-rows : (bytes : List ℕ) → bytes ≡ [] → (rows_in bytes ≡ []) × IsInRows bytes
unfolding rows_in
none-in-rows bytes none = let rows : rows_in bytes ≡ [] = ap rows_in none in
    (rows, omega (arith, ap length none, ap length rows))

-- bytes that are put to an empty row
pub room-put : (old : Buffer) (rows : List Unit16) (long : ℕ) → IsInRows old.bytes
    → 16 * (row_total old.bytes + length rows) ≤ old.capacity → long ≡ length rows * 16
    → length old.bytes + long ≤ old.capacity
room-put old rows long whole room is = omega (arith, whole, room, is)

-- ---- the last first

pub reverse-last : (rows rest : List Unit16) (last : Unit16) → rows ≡ rest ++ last ∷ []
    → reverse rows ≡ last ∷ reverse rest
reverse-last rows rest last is = ap reverse is ∙ reverse-append rest (last ∷ [])

-- the last of the units that are left is laid
module _ (first a : Buffer) (units left : List Unit16)
    (so_far : rows_in a.bytes ++ reverse left ≡ rows_in first.bytes ++ reverse units) where
  pub reversed-more : (b : Buffer) (before : List Unit16) (last : Unit16) → left ≡ before ++ last ∷ []
      → LaysRows a b (last ∷ []) → rows_in b.bytes ++ reverse before ≡ rows_in first.bytes ++ reverse units
  reversed-more b before last is lays =
      ap (λ rows. rows ++ reverse before) lays.rows
      ∙ append_assoc (rows_in a.bytes) (last ∷ []) (reverse before)
      ∙ ap (λ rows. rows_in a.bytes ++ rows) (sym (reverse-last left before last is)) ∙ so_far

  pub reversed-room : (b : Buffer) (before : List Unit16) (last : Unit16) → left ≡ before ++ last ∷ []
      → LaysRows a b (last ∷ []) → 16 * (row_total a.bytes + length left) ≤ a.capacity
      → 16 * (row_total b.bytes + length before) ≤ b.capacity
  reversed-room b before last is lays room = omega (
    arith,
    room,
    ap length is,
    length-append before (last ∷ []),
    lays-long a b (last ∷ []) lays,
    lays.capacity,
  )

  pub reversed-all : left ≡ [] → IsInRows a.bytes → a.capacity ≡ first.capacity → LaysRows first a (reverse units)
  reversed-all none whole capacity = record {
    rows = sym (append-nil (rows_in a.bytes)) ∙ ap (λ us. rows_in a.bytes ++ reverse us) (sym none) ∙ so_far;
    whole = whole;
    capacity = capacity;
  }
