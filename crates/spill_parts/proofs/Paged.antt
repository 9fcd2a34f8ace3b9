-- Rows of a part, as stretches of its bytes.
use Rattle.std.proofs.Common.{Some, suc, zero, ◌≡◌, ℕ, ◌+◌, ◌-◌, ◌*◌, ◌≤◌, List, [], ◌∷◌, ◌++◌, length, take, drop, map}
use Rattle.std.proofs.Common.{refl, sym, ap, ◌∙◌, arith, mul-suc, mul-zero, mul-add, mul-le-mul_left, append_assoc}
use Rattle.std.proofs.Common.{true}
use Rattle.std.specs.Prelude.{slice_index_or}
use Rattle.std.specs.List.{AllByRecursion}
use Rattle.std.proofs.lemmas.List.{length-append, length-take, length-drop, take_at, drop_at, drop-drop, take-take}
use Rattle.std.proofs.lemmas.List.{drop-take, length_push}
use borrow.Rule.Slice.PartMut.{put_mid}
use Rattle.mf_base.specs.Ascending.{cut_rows, joined, ascending}
use Rattle.mf_edge.specs.Spill.{SpillState, SameParts}
use Rattle.mf_rows.specs.RowKinds.{Kind, bytes_of, rows_in, rows_bytes}
use Rattle.spill_parts.specs.Parts.{Part, Reading, PageBytes, IsHeld, IsReading, GivesNext, IsOrdered}
use Rattle.spill_parts.specs.Parts.{ordered_rows}
use Rattle.spill_parts.proofs.Ordered.{length-ordered, bytes_ordered, rows_bytes-joined}
use Rattle.spill_parts.proofs.Kept.{there_same}

-- ---- bytes

-- a piece that was read into a room
pub piece_read : (from k : ℕ) (room new : List ℕ) → from ≤ length room → length new ≡ k
    → take k (drop from (put_mid from k room new)) ≡ new
piece_read from k room new within long =
    let front : length (take from room) ≡ from = omega (arith, length-take from room) in
    ap (take k) (drop_at (take from room) (new ++ drop k (drop from room)) from front)
    ∙ take_at new (drop k (drop from room)) k long

pub range_fits : (w loaded n many : ℕ) → loaded + n ≤ many → w * loaded + w * n ≤ w * many
range_fits w loaded n many l = let m = mul-le-mul_left w l in omega (arith, mul-add w loaded n, m)

-- ---- rows

module _ {K : Type 0} (kind : Kind K) (long : (r : K) → length (bytes_of kind r) ≡ kind.width) where
  pub length-rows_bytes : (rows : List K) → length (rows_bytes kind rows) ≡ kind.width * length rows
  length-rows_bytes [] = sym (mul-zero kind.width)
  length-rows_bytes (r ∷ rows) =
      let one = long r in let more = length-rows_bytes rows in
      length-append (bytes_of kind r) (rows_bytes kind rows)
      ∙ omega (arith, one, more, mul-suc kind.width (length rows))

  -- the bytes behind some rows are those of the rows behind them
  pub drop-rows_bytes : (k : ℕ) (rows : List K) → k ≤ length rows
      → drop (kind.width * k) (rows_bytes kind rows) ≡ rows_bytes kind (drop k rows)
  drop-rows_bytes zero rows l = ap (λ n. drop n (rows_bytes kind rows)) (mul-zero kind.width)
  drop-rows_bytes (suc k) [] l = absurd (omega (arith, l))
  drop-rows_bytes (suc k) (r ∷ rows) l =
      let first : drop kind.width (bytes_of kind r ++ rows_bytes kind rows) ≡ rows_bytes kind rows =
      drop_at (bytes_of kind r) (rows_bytes kind rows) kind.width (long r) in
      ap (λ n. drop n (bytes_of kind r ++ rows_bytes kind rows)) (omega (arith, mul-suc kind.width k))
      ∙ sym (drop-drop (kind.width * k) kind.width (bytes_of kind r ++ rows_bytes kind rows))
      ∙ ap (drop (kind.width * k)) first
      ∙ drop-rows_bytes k rows (omega (arith, l))

  -- the rows of the bytes of rows, as bytes
  pub cut-rows_bytes : (rows : List K)
      → cut_rows kind.width (length rows) (rows_bytes kind rows) ≡ map (bytes_of kind) rows
  cut-rows_bytes [] = refl
  cut-rows_bytes (r ∷ rows) =
      let first = take_at (bytes_of kind r) (rows_bytes kind rows) kind.width (long r) in
      let rest = drop_at (bytes_of kind r) (rows_bytes kind rows) kind.width (long r) in
      rw (first, rest) (ap (λ (more : List (List ℕ)). bytes_of kind r ∷ more) (cut-rows_bytes rows))

  module _ (is_row : K → Type 0) (back : (r : K) → is_row r → kind.row_of (bytes_of kind r) ≡ r) where
    pub rows_in-rows : (n : ℕ) (rows : List K) → AllByRecursion is_row rows → n ≤ length rows
        → rows_in kind n (rows_bytes kind rows) ≡ take n rows
    rows_in-rows zero rows all l = refl
    rows_in-rows (suc n) [] all l = absurd (omega (arith, l))
    rows_in-rows (suc n) (r ∷ rows) all l =
        let first = take_at (bytes_of kind r) (rows_bytes kind rows) kind.width (long r) in
        let rest = drop_at (bytes_of kind r) (rows_bytes kind rows) kind.width (long r) in
        rw (first, rest, back r all.0) (ap (λ (more : List K). r ∷ more) (rows_in-rows n rows all.1 (omega (arith, l))))

    all-drop : (k : ℕ) (rows : List K) → AllByRecursion is_row rows → AllByRecursion is_row (drop k rows)
    all-drop zero rows all = all
    all-drop (suc k) [] all = tt
    all-drop (suc k) (r ∷ rows) all = all-drop k rows all.1

    -- rows that were loaded
    pub rows_loaded : (loaded n : ℕ) (rows : List K) (page : List ℕ) → AllByRecursion is_row rows
        → loaded + n ≤ length rows
        → take (kind.width * n) page ≡ take (kind.width * n) (drop (kind.width * loaded) (rows_bytes kind rows))
        → rows_in kind n page ≡ take n (drop loaded rows)
    rows_loaded loaded n rows page all l e =
        let moved : take (kind.width * n) page ≡ take (kind.width * n) (rows_bytes kind (drop loaded rows)) = e
        ∙ ap (take (kind.width * n)) (drop-rows_bytes loaded rows (omega (arith, l))) in
        ap (map kind.row_of) (cut-take kind.width n page ∙ ap (cut_rows kind.width n) moved
        ∙ sym (cut-take kind.width n (rows_bytes kind (drop loaded rows))))
        ∙ rows_in-rows n (drop loaded rows) (all-drop loaded rows all) (omega (arith, l, length-drop loaded rows))
      where
        cut-take : (w n : ℕ) (bytes : List ℕ) → cut_rows w n bytes ≡ cut_rows w n (take (w * n) bytes)
        cut-take w zero bytes = refl
        cut-take w (suc n) bytes =
            let m = mul-suc w n in
            let first : take w (take (w * suc n) bytes) ≡ take w bytes =
            take-take w (w * suc n) bytes (omega (arith, m)) in
            let many : w * suc n ≡ w + w * n = omega (arith, m) in
            let rest : drop w (take (w * suc n) bytes) ≡ take (w * n) (drop w bytes) =
            ap (λ k. drop w (take k bytes)) many ∙ drop-take w (w * n) bytes in
            rw (first, rest) (ap (λ (more : List (List ℕ)). take w bytes ∷ more) (cut-take w n (drop w bytes)))

-- ---- an ordered part

pub ordered_part : {K : Type 0} (kind : Kind K) → ((r : K) → length (bytes_of kind r) ≡ kind.width)
    → (p p_now : Part K) (number : ℕ) (s s_now : SpillState) → number ≡ p.part → IsHeld kind p s → p_now.part ≡ p.part
    → p_now.rows ≡ ordered_rows kind p.rows
    → s_now.size number ≡ s.size number → s_now.tells ≡ s.tells
    → ((n : ℕ) → s.size number ≡ Some (kind.width * n) → s.tells ≡ true
    → s_now.bytes number ≡ joined (ascending (cut_rows kind.width n (s.bytes number))))
    → IsOrdered kind p p_now s_now
ordered_part kind long p p_now number s s_now same held part is size tells made =
    let len : length p_now.rows ≡ length p.rows = ap length is ∙ length-ordered kind p.rows in
    let bytes : map (bytes_of kind) p_now.rows ≡ ascending (map (bytes_of kind) p.rows) = ap (map (bytes_of kind)) is
    ∙ bytes_ordered kind p.rows in
    let place : p_now.part ≡ number = part ∙ sym same in
    record {
      part = part;
      rows = is;
      held = record {
        size = ap s_now.size place ∙ size ∙ ap s.size same ∙ held.size ∙ ap (λ n. Some (kind.width * n)) (sym len);
        bytes = λ told. (
            let before : s.tells ≡ true = sym tells ∙ told in
            ap s_now.bytes place ∙ made (length p.rows) (ap s.size same ∙ held.size) before
            ∙ ap (λ b. joined (ascending (cut_rows kind.width (length p.rows) b))) (ap s.bytes same ∙ held.bytes before)
            ∙ ap (λ found. joined (ascending found)) (cut-rows_bytes kind long p.rows)
            ∙ sym (ap joined bytes) ∙ sym (rows_bytes-joined kind p_now.rows));
      };
    }

-- ---- a reader

pub left_behind : {K : Type 0} (rows done left : List K) (loaded : ℕ) → rows ≡ done ++ left → loaded ≡ length done
    → drop loaded rows ≡ left
left_behind rows done left loaded e is = rw (e, is) (drop_at done left (length done) refl)

left_first : {K : Type 0} (left : List K) → 1 ≤ length left → (x : K) × (left ≡ x ∷ drop 1 left)
left_first [] l = absurd (omega (arith, l))
left_first (x ∷ left) l = (x, refl)

pub steps_most : (w loaded n many old new : ℕ) → new ≡ old + w * n → loaded + n ≤ many
    → new + w * loaded ≤ old + w * many
steps_most w loaded n many old new e l = let m = range_fits w loaded n many l in omega (arith, e, m)

module _ {K : Type 0} {kind : Kind K} where
  -- A page was loaded.
  pub loaded_reading : (is_row : K → Type 0) → ((r : K) → length (bytes_of kind r) ≡ kind.width)
      → ((r : K) → is_row r → kind.row_of (bytes_of kind r) ≡ r)
      → (r r_now : Reading K) (page page_now : PageBytes) (s s_now : SpillState) → AllByRecursion is_row r.source.rows
      → IsReading kind r page s → r.waiting ≡ 0 → r.loaded + r_now.waiting ≤ length r.source.rows
      → r_now.waiting ≤ page_now.room
      → r_now.source ≡ r.source → r_now.left ≡ r.left → r_now.loaded ≡ r.loaded + r_now.waiting → SameParts s s_now
      → (s.tells ≡ true
      → take (kind.width * r_now.waiting) (drop (kind.width * (page_now.room - r_now.waiting)) page_now.bytes)
      ≡ take (kind.width * r_now.waiting) (drop (kind.width * r.loaded) (s.bytes r.source.part)))
      → IsReading kind r_now page_now s_now
  loaded_reading is_row long back r r_now page page_now s s_now all is none within room same left loaded parts read =
      let n = r_now.waiting in
      let done = is.given.0 in
      let behind : drop r.loaded r.source.rows ≡ r.left =
      left_behind r.source.rows done r.left r.loaded is.given.1 (omega (arith, is.given.2, none)) in
      record {
        held = rw same (there_same parts is.held);
        given = (
          done,
          ap (λ (p : Part K). p.rows) same ∙ is.given.1
              ∙ ap (λ (rows : List K). done ++ rows) (sym left),
          omega (arith, loaded, is.given.2, none),
        );
        some = rw same (omega (arith, loaded, within));
        within = room;
        on_page = λ told. (
            let before : s.tells ≡ true = sym (ap (λ (x : SpillState). x.tells) parts) ∙ told in
            let bytes = is.held.bytes before in
            let e = read before ∙ ap (λ b. take (kind.width * n) (drop (kind.width * r.loaded) b)) bytes in
            rows_loaded kind long is_row back r.loaded n r.source.rows
            (drop (kind.width * (page_now.room - n)) page_now.bytes) all within e
            ∙ ap (take n) (behind ∙ sym left));
      }

  -- The first row that waits was given.
  pub given_reading : (r r_now : Reading K) (page : PageBytes) (s : SpillState) (row : K) → IsReading kind r page s
      → 1 ≤ r.waiting
      → row ≡ kind.row_of (take kind.width (drop (kind.width * (page.room - r.waiting)) page.bytes))
      → r_now.source ≡ r.source → r_now.left ≡ drop 1 r.left → r_now.loaded ≡ r.loaded → r_now.waiting + 1 ≡ r.waiting
      → IsReading kind r_now page s × GivesNext s.tells r.left (Some row) r_now.left
  given_reading r r_now page s row is some row-is same left loaded waiting =
      let k = r_now.waiting in
      let done = is.given.0 in
      let all_len = ap length is.given.1 ∙ length-append done r.left in
      let enough : 1 ≤ length r.left = omega (arith, all_len, is.given.2, is.some, some) in
      let first = left_first r.left enough in
      let x = first.0 in
      let split : r.left ≡ x ∷ r_now.left = first.1 ∙ ap (λ (rows : List K). x ∷ rows) (sym left) in
      let at = drop (kind.width * (page.room - r.waiting)) page.bytes in
      let page_is : s.tells ≡ true
      → kind.row_of (take kind.width at) ∷ rows_in kind k (drop kind.width at) ≡ x ∷ take k r_now.left = λ told. (
      let many : r.waiting ≡ suc k = omega (arith, waiting) in
      ap (λ n. rows_in kind n at) (sym many) ∙ is.on_page told ∙ ap (λ n. take n r.left) many
      ∙ ap (take (suc k)) split) in
      let moved : drop kind.width at ≡ drop (kind.width * (page.room - k)) page.bytes =
      drop-drop kind.width (kind.width * (page.room - r.waiting)) page.bytes
      ∙ ap (λ n. drop n page.bytes) (next_place kind.width page.room r.waiting k waiting is.within) in (
        record {
          held = rw same is.held;
          given = (
            done ++ x ∷ [],
            ap (λ (p : Part K). p.rows) same ∙ is.given.1
                ∙ ap (λ (rows : List K). done ++ rows) split
                ∙ sym (append_assoc done (x ∷ []) r_now.left),
            omega (arith, loaded, is.given.2, waiting, length_push done x),
          );
          some = rw same (omega (arith, loaded, is.some));
          within = omega (arith, waiting, is.within);
          on_page = λ told. ap (rows_in kind k) (sym moved) ∙ ap (drop 1) (page_is told);
        },
        (x, split, λ told. row-is ∙ head_is (page_is told)),
      )
    where
      head_is : {a b : K} {xs ys : List K} → a ∷ xs ≡ b ∷ ys → a ≡ b
      head_is {a} e = ap (λ (rows : List K). slice_index_or rows 0 a) e

      next_place : (w room waiting k : ℕ) → k + 1 ≡ waiting → waiting ≤ room → w * (room - waiting) + w ≡ w * (room - k)
      next_place w room waiting k e l =
          let m = mul-suc w (room - waiting) in let same : suc (room - waiting) ≡ room - k = omega (arith, e, l) in
          sym m ∙ ap (λ n. w * n) same
