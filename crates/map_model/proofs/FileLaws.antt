-- Offsets of an index, starts of sub-files and the length of the map from running sizes: for the writers of index,
-- header and file.
use Rattle.std.proofs.Common.{◌≡◌, ℕ, zero, suc, ◌+◌, ◌*◌, List, [], ◌∷◌, ◌++◌, map, length, take, refl, sym}
use Rattle.std.proofs.Common.{ap, ◌∙◌, arith, length-append, append_assoc, false}
use Rattle.std.specs.Prelude.{Bool, flat_map, sum_by, sum, replicate}
use Rattle.std.specs.List.{enumerate_from}
use Rattle.std.proofs.lemmas.List.{length-map}
use Rattle.std.proofs.lemmas.List.FromFn.{length-enumerate_from}
use Rattle.std.proofs.lemmas.List.Sums.{sum_by-cons}
use Rattle.std.proofs.lemmas.List.Concat.{length-flat_map}
use Rattle.std.proofs.Math.Seq.{take-length}
use Rattle.mf_base.specs.declared.place.Rect.{Rect}
use Rattle.feature_model.specs.Features.{Feature}
use Rattle.map_model.specs.SubFile.{TileContent, contents, entry_bytes, offset_of, index_bytes, sub_file_of}
use Rattle.map_model.specs.SubFile.{sub_file_size, entries_from, entry_of}
use Rattle.map_model.specs.TagLists.{TagLists}
use Rattle.map_model.specs.Header.{HeadSettings, SubFile, header_size, header_bytes, sub_files, file_size}
use Rattle.map_model.specs.MapFile.{all_contents, map_of_contents, map_of, sub_file_sizes}
use Rattle.feature_model.proofs.Totals.{total, sum-total, total-append, total-map}
use Rattle.map_model.proofs.SizeLemmas.{length-header_bytes, length-sub_file}

abbrev sizes_total : List TileContent → ℕ
sizes_total ts = total (λ (t : TileContent). length t.bytes) ts

-- ---- the index

take-front : {X : Type 0} (n : ℕ) (xs ys : List X) → n ≡ length xs → take n (xs ++ ys) ≡ xs
take-front zero [] ys e = refl
take-front zero (x ∷ xs) ys e = absurd (omega (arith, e))
take-front (suc n) [] ys e = absurd (omega (arith, e))
take-front (suc n) (x ∷ xs) ys e = ap (λ zs. x ∷ zs) (take-front n xs ys (omega (arith, e)))

-- the offset of the tile behind some of all tiles
pub offset-behind : (before behind : List TileContent) (n : ℕ) → n ≡ length before
    → offset_of (before ++ behind) n ≡ 5 * length (before ++ behind) + sizes_total before
offset-behind before behind n e =
    ap (λ (ts : List TileContent). 5 * length (before ++ behind) + sum_by (λ t. length t.bytes) ts)
    (take-front n before behind e)
    ∙ ap (λ (k : ℕ). 5 * length (before ++ behind) + k) (sum-total (λ (t : TileContent). length t.bytes) before)

entries-behind : (before ts : List TileContent) (n offset : ℕ) → n ≡ length before
    → offset ≡ 5 * length (before ++ ts) + sizes_total before
    → flat_map (λ at. entry_bytes at.1.water (offset_of (before ++ ts) at.0)) (enumerate_from n ts)
    ≡ entries_from offset (map entry_of ts)
unfolding entries_from
entries-behind before [] n offset e at = refl
entries-behind before (t ∷ ts) n offset e at =
    let rest = ap (λ (all : List TileContent). flat_map (λ at. entry_bytes at.1.water (offset_of all at.0))
    (enumerate_from (n + 1) ts)) (sym whole)
    ∙ entries-behind (before ++ t ∷ []) ts (n + 1) (offset + length t.bytes) place offset_is in
    λ i. entry_bytes t.water (here i) ++ rest i
  where
    here : offset_of (before ++ t ∷ ts) n ≡ offset
    here = offset-behind before (t ∷ ts) n e ∙ sym at

    whole : (before ++ t ∷ []) ++ ts ≡ before ++ t ∷ ts
    whole = append_assoc before (t ∷ []) ts

    more : total (λ (t : TileContent). length t.bytes) (before ++ t ∷ []) ≡ sizes_total before + length t.bytes
    more = total-append (λ (t : TileContent). length t.bytes) before (t ∷ []) ∙ omega arith

    place : n + 1 ≡ length (before ++ t ∷ [])
    place = let l = length-append before (t ∷ []) in omega (arith, e, l)

    offset_is : offset + length t.bytes ≡ 5 * length ((before ++ t ∷ []) ++ ts) + sizes_total (before ++ t ∷ [])
    offset_is = let l = ap length whole in omega (arith, at, l, more)

pub index-running : (ts : List TileContent) → index_bytes ts ≡ entries_from (5 * length ts) (map entry_of ts)
unfolding index_bytes
index-running ts = entries-behind [] ts 0 (5 * length ts) refl (omega arith)

pub entries-append : (offset : ℕ) (xs ys : List (Bool × ℕ))
    → entries_from offset (xs ++ ys) ≡ entries_from offset xs ++ entries_from (offset + sum_by (λ p. p.1) xs) ys
unfolding entries_from
entries-append offset [] ys = ap (λ (k : ℕ). entries_from k ys) (omega arith)
entries-append offset (x ∷ xs) ys =
    let all = sum-total (λ (p : Bool × ℕ). p.1) (x ∷ xs) in
    let rest = sum-total (λ (p : Bool × ℕ). p.1) xs in
    let e : offset + x.1 + sum_by (λ (p : Bool × ℕ). p.1) xs ≡ offset + sum_by (λ (p : Bool × ℕ). p.1) (x ∷ xs) =
    omega (arith, all, rest) in
    ap (λ bytes. entry_bytes x.0 offset ++ bytes) (entries-append (offset + x.1) xs ys
    ∙ ap (λ (k : ℕ). entries_from (offset + x.1) xs ++ entries_from k ys) e)
    ∙ sym (append_assoc (entry_bytes x.0 offset) (entries_from (offset + x.1) xs)
    (entries_from (offset + sum_by (λ (p : Bool × ℕ). p.1) (x ∷ xs)) ys))

-- the tiles of a run have no bytes, and all their entries are the same
pub entries-empty : (offset n : ℕ)
    → entries_from offset (replicate n (false, 0)) ≡ flat_map (λ (empty : Bool). entry_bytes empty offset)
    (replicate n false)
unfolding entries_from
entries-empty offset zero = refl
entries-empty offset (suc n) =
    ap (λ bytes. entry_bytes false offset ++ bytes)
    (ap (λ (k : ℕ). entries_from k (replicate n (false, 0))) (omega arith) ∙ entries-empty offset n)

pub size-running : (ts : List TileContent) → sub_file_size ts ≡ 5 * length ts + sum_by (λ p. p.1) (map entry_of ts)
size-running ts =
    ap (λ (xs : List TileContent). 5 * length ts + sum_by (λ t. length t.bytes) xs) (take-length ts)
    ∙ ap (λ (k : ℕ). 5 * length ts + k) (sum-total (λ (t : TileContent). length t.bytes) ts
    ∙ sym (total-map (λ (p : Bool × ℕ). p.1) entry_of ts)
    ∙ sym (sum-total (λ (p : Bool × ℕ). p.1) (map entry_of ts)))

-- ---- sub-files

starts-shift : (head size : ℕ) (sizes rest : List ℕ) (n k : ℕ) → n ≡ suc k
    → map (λ at. record { start = head + sum (take at.0 (size ∷ sizes)); size = at.1 }) (enumerate_from n rest)
    ≡ map {B = SubFile} (λ at. record { start = head + size + sum (take at.0 sizes); size = at.1 })
    (enumerate_from k rest)
starts-shift head size sizes [] n k e = refl
starts-shift head size sizes (r ∷ rest) n k e =
    λ i. record { start = here i; size = r } ∷ starts-shift head size sizes rest (n + 1) (k + 1) (omega (arith, e)) i
  where
    here : head + sum (take n (size ∷ sizes)) ≡ head + size + sum (take k sizes)
    here = ap (λ m. head + sum (take m (size ∷ sizes))) e ∙ (let c = sum_by-cons (λ (n : ℕ). n) size (take k sizes) in
        omega (arith, c))

pub sub_files-running : (head size : ℕ) (sizes : List ℕ)
    → sub_files head (size ∷ sizes) ≡ record { start = head; size = size } ∷ sub_files (head + size) sizes
unfolding sub_files
sub_files-running head size sizes =
    λ i. record { start = here i; size = size } ∷ starts-shift head size sizes sizes 1 0 refl i
  where
    here : head + 0 ≡ head
    here = omega arith

pub length-sub_files : (head : ℕ) (sizes : List ℕ) → length (sub_files head sizes) ≡ length sizes
unfolding sub_files
length-sub_files head sizes =
    length-map (enumerate_from 0 sizes) (λ at. record { start = head + sum (take at.0 sizes); size = at.1 })
    ∙ length-enumerate_from 0 sizes

sizes-numbered : (head n : ℕ) (all sizes : List ℕ)
    → sum_by (λ (s : SubFile). s.size) (map (λ at. record { start = head + sum (take at.0 all); size = at.1 })
    (enumerate_from n sizes)) ≡ sum_by (λ (k : ℕ). k) sizes
sizes-numbered head n all sizes =
    sum-total (λ (s : SubFile). s.size) (map (λ at. record { start = head + sum (take at.0 all); size = at.1 })
    (enumerate_from n sizes))
    ∙ total-map (λ (s : SubFile). s.size) (λ (at : ℕ × ℕ). record { start = head + sum (take at.0 all); size = at.1 })
    (enumerate_from n sizes)
    ∙ numbered n sizes
    ∙ sym (sum-total (λ (k : ℕ). k) sizes)
  where
    numbered : (n : ℕ) (sizes : List ℕ)
        → total (λ (at : ℕ × ℕ). at.1) (enumerate_from n sizes) ≡ total (λ (k : ℕ). k) sizes
    numbered n [] = refl
    numbered n (size ∷ sizes) = ap (λ (k : ℕ). size + k) (numbered (n + 1) sizes)

-- the file size is that of the header and all sub-files
pub file_size-is : (set : HeadSettings) (names : TagLists) (head : ℕ) (sizes : List ℕ)
    → file_size set names (sub_files head sizes) ≡ header_size set names + sum sizes
unfolding sub_files
file_size-is set names head sizes = ap (λ (k : ℕ). header_size set names + k) (sizes-numbered head 0 sizes sizes)

sub_files-length : (all : List (List TileContent)) → length (flat_map sub_file_of all) ≡ sum (map sub_file_size all)
sub_files-length all = length-flat_map sub_file_of all
    ∙ sum-total (λ (ts : List TileContent). length (sub_file_of ts)) all ∙ each all
    ∙ sym (total-map (λ (k : ℕ). k) sub_file_size all) ∙ sym (sum-total (λ (k : ℕ). k) (map sub_file_size all))
  where
    each : (all : List (List TileContent))
        → total (λ (ts : List TileContent). length (sub_file_of ts)) all ≡ total sub_file_size all
    each [] = refl
    each (ts ∷ all) = let here = length-sub_file ts in let rest = each all in omega (arith, here, rest)

pub length-contents : (set : HeadSettings) (names : TagLists) (box : Rect) (all : List (List TileContent))
    → length all ≡ length set.intervals
    → length (map_of_contents set names box all) ≡ header_size set names + sum (map sub_file_size all)
unfolding map_of_contents
length-contents set names box all same =
    let subs = sub_files (header_size set names) (map sub_file_size all) in
    let count = length-sub_files (header_size set names) (map sub_file_size all) ∙ length-map all sub_file_size
    ∙ same in
    let head = length-header_bytes set box names subs count in
    let rest = sub_files-length all in
    length-append (header_bytes set box names subs) (flat_map sub_file_of all) ∙ omega (arith, head, rest)

pub length-all_contents : (set : HeadSettings) (box : Rect) (features : List Feature)
    → length (all_contents set box features) ≡ length set.intervals
unfolding all_contents
length-all_contents set box features =
    length-map (enumerate_from 0 set.intervals) (λ at. contents features box at.0 at.1)
    ∙ length-enumerate_from 0 set.intervals

-- the map has as many bytes as its header and its sub-files
pub length-map_of : (set : HeadSettings) (names : TagLists) (box : Rect) (features : List Feature)
    → length (map_of set names box features) ≡ header_size set names + sum (sub_file_sizes set box features)
unfolding map_of
length-map_of set names box features =
    length-contents set names box (all_contents set box features) (length-all_contents set box features)

pub ruleset size_of_map = (file_size-is, length-contents, length-map_of)

pub ruleset file_laws = (index-running, entries-append, entries-empty, size-running, sub_files-running)
