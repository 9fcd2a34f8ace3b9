-- The bytes of sub-files, one after another.
use Rattle.std.proofs.Common.{◌≡◌, ◌∙◌, ◌+◌, ◌*◌, ◌^◌, ◌<◌, ◌≤◌, ℕ, suc, List, [], ◌∷◌, sym, ap, arith, length, drop}
use Rattle.std.proofs.Common.{get_or, drop-cons}
use Rattle.std.specs.List.{AllByRecursion}
use Rattle.std.proofs.lemmas.List.{drop_all}
use Rattle.mf_layout.specs.SubFiles.{IsSubFile, bytes_in}
use Rattle.mf_layout.specs.declared.sub_files.SubFileSize.{SubFileSize}

-- none has 2^39 bytes
pub bytes-most : (sizes : List SubFileSize) → AllByRecursion IsSubFile sizes → bytes_in sizes ≤ length sizes * 2 ^ 39
bytes-most [] each = omega arith
bytes-most (size ∷ sizes) each = let rest = bytes-most sizes each.1 in omega (arith, each.0.1, rest)

-- one sub-file more is counted
pub bytes-next : (sizes : List SubFileSize) (i bytes : ℕ) (d : SubFileSize) → i < length sizes
    → bytes + bytes_in (drop i sizes) ≡ bytes_in sizes
    → bytes + (get_or sizes i d).bytes + bytes_in (drop (i + 1) sizes) ≡ bytes_in sizes
bytes-next sizes i bytes d lt so_far =
    let one : i + 1 ≡ suc i = omega arith in
    let cut : drop i sizes ≡ get_or sizes i d ∷ drop (i + 1) sizes =
    drop-cons sizes i d lt ∙ ap (λ n. get_or sizes i d ∷ drop n sizes) (sym one) in
    let rest = ap bytes_in cut in
    omega (arith, rest, so_far)

-- with one more they fit
pub bytes-fit : (sizes : List SubFileSize) (i bytes : ℕ) (d : SubFileSize) → i < length sizes
    → bytes + bytes_in (drop i sizes) ≡ bytes_in sizes → AllByRecursion IsSubFile sizes → length sizes ≤ 8
    → bytes + (get_or sizes i d).bytes ≤ 8 * 2 ^ 39
bytes-fit sizes i bytes d lt so_far each few =
    let next = bytes-next sizes i bytes d lt so_far in
    let most = bytes-most sizes each in
    omega (arith, next, most, few)

-- all are counted
pub bytes-end : (sizes : List SubFileSize) (i bytes : ℕ) → length sizes ≤ i
    → bytes + bytes_in (drop i sizes) ≡ bytes_in sizes → bytes ≡ bytes_in sizes
bytes-end sizes i bytes le so_far = let none = ap bytes_in (drop_all i sizes le) in omega (arith, none, so_far)
