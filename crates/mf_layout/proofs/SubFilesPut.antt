-- Sub-files that are put one behind another.
use Rattle.std.proofs.Common.{◌≡◌, ℕ, ◌+◌, ◌-◌, ◌*◌, ◌≤◌, List, [], ◌∷◌, ◌++◌, take, drop}
use Rattle.std.proofs.Common.{sym, ap, subst, arith, Option}
use Rattle.std.specs.List.{AllByRecursion}
use Rattle.std.proofs.Math.Seq.{drop-drop}
use Rattle.mf_edge.specs.Device.{Gains, GainsFront}
use Rattle.mf_edge.proofs.Putting.{Gains-then, GainsFront-then, GainsFront-longer}
use Rattle.mf_rows.specs.declared.kinds.IndexRow.{IndexRow}
use Rattle.mf_layout.specs.declared.sub_files.SubFileSize.{SubFileSize}
use Rattle.mf_layout.specs.SubFiles.{IsSubFile, tiles_in, bytes_in, entries_told, sub_files_told}

-- sub-files have room for their indexes
pub sizes-room : (sizes : List SubFileSize) → AllByRecursion IsSubFile sizes → 5 * tiles_in sizes ≤ bytes_in sizes
sizes-room [] all = omega arith
sizes-room (size ∷ sizes) all =
    let more = sizes-room sizes all.1 in
    let here = all.0.0 in
    omega (arith, more, here)

-- the tiles of the first are within the bytes of all
pub first-within : (sizes others : List SubFileSize) (first : SubFileSize) (at size : ℕ) → sizes ≡ first ∷ others
    → AllByRecursion IsSubFile sizes → at + bytes_in sizes ≡ 5 * tiles_in sizes + size
    → at + (first.bytes - 5 * first.tiles) ≤ size
first-within sizes others first at size e each same =
    let all = subst (AllByRecursion IsSubFile) e each in
    let more = sizes-room others all.1 in
    let here = all.0.0 in
    let bytes = ap bytes_in e in
    let tiles = ap tiles_in e in
    omega (arith, same, bytes, tiles, more, here)

-- the index of the first was put, and some first ones of its tiles
pub first-front : (before mid now : Option (List ℕ)) (sizes others : List SubFileSize) (first : SubFileSize)
    (rows : List IndexRow) (bytes : List ℕ) (n : ℕ) → sizes ≡ first ∷ others → n ≡ first.bytes - 5 * first.tiles
    → Gains before (entries_told (5 * first.tiles) (take first.tiles rows)) mid → GainsFront mid (take n bytes) now
    → GainsFront before (sub_files_told sizes rows bytes) now
first-front before mid now sizes others first rows bytes n e same index tiles =
    let entries = entries_told (5 * first.tiles) (take first.tiles rows) in
    let size = first.bytes - 5 * first.tiles in
    let here = subst (λ k. GainsFront mid (take k bytes) now) same tiles in
    subst (λ (ss : List SubFileSize). GainsFront before (sub_files_told ss rows bytes) now) (sym e)
    (GainsFront-longer before now (entries ++ take size bytes)
    (sub_files_told others (drop first.tiles rows) (drop size bytes))
    (GainsFront-then before mid now entries (take size bytes) index here))

-- the first was put, and of the others some first bytes
pub others-front : (before mid next now : Option (List ℕ)) (sizes others : List SubFileSize) (first : SubFileSize)
    (rows rows_now : List IndexRow) (bytes : List ℕ) (at n : ℕ) → sizes ≡ first ∷ others
    → n ≡ first.bytes - 5 * first.tiles → rows_now ≡ drop first.tiles rows
    → Gains before (entries_told (5 * first.tiles) (take first.tiles rows)) mid
    → Gains mid (take n (drop at bytes)) next
    → GainsFront next (sub_files_told others rows_now (drop (at + n) bytes)) now
    → GainsFront before (sub_files_told sizes rows (drop at bytes)) now
others-front before mid next now sizes others first rows rows_now bytes at n e same left index tiles rest =
    let entries = entries_told (5 * first.tiles) (take first.tiles rows) in
    let put = Gains-then before mid next entries (take n (drop at bytes)) index tiles in
    let here : GainsFront next (sub_files_told others (drop first.tiles rows) (drop n (drop at bytes))) now =
    subst (λ bs. GainsFront next (sub_files_told others (drop first.tiles rows) bs) now) (sym (drop-drop n at bytes))
    (subst (λ (rs : List IndexRow). GainsFront next (sub_files_told others rs (drop (at + n) bytes)) now) left rest) in
    subst (λ (ss : List SubFileSize). GainsFront before (sub_files_told ss rows (drop at bytes)) now) (sym e)
    (subst (λ k. GainsFront before (entries ++ take k (drop at bytes)
    ++ sub_files_told others (drop first.tiles rows) (drop k (drop at bytes))) now) same
    (GainsFront-then before next now (entries ++ take n (drop at bytes))
    (sub_files_told others (drop first.tiles rows) (drop n (drop at bytes))) put here))
