-- Where sub-files stand, one behind another.
use Rattle.std.proofs.Common.{◌≡◌, ℕ, zero, suc, ◌+◌, ◌<◌, ◌≤◌, List, ◌∷◌, ◌++◌, [], map, length}
use Rattle.std.proofs.Common.{take, drop, get_or, set}
use Rattle.std.proofs.Common.{sym, ap, ◌∙◌, arith, append_assoc}
use Rattle.std.proofs.Common.{◌*◌, ◌^◌}
use Rattle.std.specs.Prelude.{sum}
use Rattle.std.specs.List.{AllByRecursion}
use Rattle.std.proofs.lemmas.List.Sums.{sum_by-cons}
use Rattle.std.proofs.lemmas.List.{append-nil, map-append, take_more_set, drop_more, drop_all}
use Rattle.map_model.specs.Header.{sub_files}
use Rattle.map_model.proofs.FileLaws.{sub_files-running}
use Rattle.map_header.specs.declared.sub_file.SubFile.{SubFile as Placed}
use Rattle.map_header.specs.Shown.{sub_file_of}
use Rattle.mf_layout.specs.declared.sub_files.SubFileSize.{SubFileSize}
use Rattle.mf_layout.specs.SubFiles.{IsSubFile}

-- what holds of each holds of the one at a place
pub sized-at : (sizes : List SubFileSize) (i : ℕ) (d : SubFileSize) → i < length sizes
    → AllByRecursion IsSubFile sizes → IsSubFile (get_or sizes i d)
sized-at [] i d lt all = absurd (omega (arith, lt))
sized-at (size ∷ sizes) zero d lt all = all.0
sized-at (size ∷ sizes) (suc i) d lt all = sized-at sizes i d (omega (arith, lt)) all.1

-- all together have fewer bytes than 2^39 for each
pub sizes-sum : (sizes : List SubFileSize) → AllByRecursion IsSubFile sizes
    → sum (map (λ (s : SubFileSize). s.bytes) sizes) ≤ 2 ^ 39 * length sizes
sizes-sum [] all = omega arith
sizes-sum (size ∷ sizes) all =
    let c = sum_by-cons (λ (n : ℕ). n) size.bytes (map (λ (s : SubFileSize). s.bytes) sizes) in
    let more = sizes-sum sizes all.1 in
    let here = all.0.1 in
    omega (arith, c, more, here)

-- one sub-file more was placed
pub placed-more : (head start : ℕ) (subs : List Placed) (sizes : List SubFileSize) (i : ℕ) (d : SubFileSize)
    → i < length subs → i < length sizes
    → map sub_file_of (take i subs) ++ sub_files start (map (λ (s : SubFileSize). s.bytes) (drop i sizes))
    ≡ sub_files head (map (λ (s : SubFileSize). s.bytes) sizes)
    → map sub_file_of (take (i + 1) (set subs i (record { start = start; size = (get_or sizes i d).bytes })))
    ++ sub_files (start + (get_or sizes i d).bytes) (map (λ (s : SubFileSize). s.bytes) (drop (i + 1) sizes))
    ≡ sub_files head (map (λ (s : SubFileSize). s.bytes) sizes)
placed-more head start subs sizes i d lt less so =
    let bytes : List SubFileSize → List ℕ = map (λ (s : SubFileSize). s.bytes) in
    let size = get_or sizes i d in
    let one : Placed = record { start = start; size = size.bytes } in
    let done = map sub_file_of (take i subs) in
    let later = sub_files (start + size.bytes) (bytes (drop (i + 1) sizes)) in
    ap (λ ps. map sub_file_of ps ++ later) (take_more_set subs i one lt)
    ∙ ap (λ fs. fs ++ later) (map-append sub_file_of (take i subs) (one ∷ []))
    ∙ append_assoc done (sub_file_of one ∷ []) later
    ∙ ap (λ rest. done ++ rest) (sym (sub_files-running start size.bytes (bytes (drop (i + 1) sizes))))
    ∙ ap (λ rest. done ++ sub_files start (bytes rest)) (sym (drop_more sizes i d less))
    ∙ so

-- all were placed
pub placed-all : (head start : ℕ) (subs : List Placed) (sizes : List SubFileSize) (i : ℕ) → i ≤ length sizes
    → length sizes ≤ i
    → map sub_file_of (take i subs) ++ sub_files start (map (λ (s : SubFileSize). s.bytes) (drop i sizes))
    ≡ sub_files head (map (λ (s : SubFileSize). s.bytes) sizes)
    → map sub_file_of (take (length sizes) subs) ≡ sub_files head (map (λ (s : SubFileSize). s.bytes) sizes)
unfolding sub_files
placed-all head start subs sizes i le ge so =
    let same : length sizes ≡ i = omega (arith, le, ge) in
    ap (λ n. map sub_file_of (take n subs)) same
    ∙ sym (append-nil (map sub_file_of (take i subs)))
    ∙ ap (λ (ss : List SubFileSize). map sub_file_of (take i subs) ++ sub_files start (map (λ s. s.bytes) ss))
    (sym (drop_all i sizes ge))
    ∙ so
