-- The strings of a list of tags, one after another.
use Rattle.std.proofs.Common.{◌≡◌, ℕ, zero, suc, ◌+◌, ◌*◌, ◌<◌, ◌≤◌, List, [], ◌∷◌, ◌++◌, length, take, get_or, refl}
use Rattle.std.proofs.Common.{sym, ap, ◌∙◌, arith}
use Rattle.std.proofs.Common.{append_assoc, append-nil, length-append}
use Rattle.std.specs.Prelude.{flat_map}
use Rattle.std.proofs.lemmas.List.{take_more}
use Rattle.std.proofs.lemmas.List.Folds.{length-flat_map-take}
use Rattle.std.proofs.lemmas.Grind.{flat_map-append}
use Rattle.mf_base.specs.Buffer.{Buffer, HasRoom, AppendsTo}
use Rattle.mf_base.specs.Spelling.{big_endian, string}
use Rattle.mf_base.proofs.ByteLaws.{length-big_endian}
use Rattle.map_model.specs.Header.{tag_list_bytes}
use Rattle.map_header.proofs.Putting.{appends-both, appends-same, grown, kept}

-- the strings of the first i tags
abbrev pub strings_to : List (List ℕ) → ℕ → List ℕ
strings_to tags i = flat_map string (take i tags)

strings-more : (tags : List (List ℕ)) (i : ℕ) → i < length tags
    → strings_to tags (i + 1) ≡ strings_to tags i ++ string (get_or tags i [])
strings-more tags i lt =
    ap (λ (ts : List (List ℕ)). flat_map string ts) (take_more tags i [] lt)
    ∙ flat_map-append string (take i tags) (get_or tags i [] ∷ [])
    ∙ ap (λ (s : List ℕ). flat_map string (take i tags) ++ s) (append-nil (string (get_or tags i [])))

take_all : (xs : List (List ℕ)) (n : ℕ) → length xs ≤ n → take n xs ≡ xs
take_all [] zero le = refl
take_all [] (suc n) le = refl
take_all (x ∷ xs) zero le = absurd (omega (arith, le))
take_all (x ∷ xs) (suc n) le = ap (λ (ys : List (List ℕ)). x ∷ ys) (take_all xs n (omega (arith, le)))

pub length-tag_list : (tags : List (List ℕ)) → length (tag_list_bytes tags) ≡ 2 + length (flat_map string tags)
length-tag_list tags =
    let whole = length-append (big_endian 2 (length tags)) (flat_map string tags) in
    omega (arith, whole, length-big_endian 2 (length tags))

-- what was put of a list of tags before tag i
abbrev pub TagsPut : Buffer → Buffer → List (List ℕ) → ℕ → Type 0
TagsPut first now tags i = AppendsTo first now (big_endian 2 (length tags) ++ strings_to tags i)

pub tags_put-none : (first next : Buffer) (tags : List (List ℕ)) (n : ℕ) → n ≡ length tags
    → AppendsTo first next (big_endian 2 n) → TagsPut first next tags 0
tags_put-none first next tags n e puts =
    appends-same first next _ _ (ap (big_endian 2) e ∙ sym (append-nil (big_endian 2 (length tags)))) puts

pub tags_put-more : (first now next : Buffer) (tags : List (List ℕ)) (i : ℕ) → i < length tags
    → TagsPut first now tags i
    → AppendsTo now next (string (get_or tags i [])) → TagsPut first next tags (i + 1)
tags_put-more first now next tags i lt before puts =
    appends-same first next _ _
    (append_assoc (big_endian 2 (length tags)) (strings_to tags i) (string (get_or tags i []))
    ∙ ap (λ (s : List ℕ). big_endian 2 (length tags) ++ s) (sym (strings-more tags i lt)))
    (appends-both first now next _ _ before puts)

pub tags_put-room : (first now : Buffer) (tags : List (List ℕ)) (i : ℕ) → i < length tags → TagsPut first now tags i
    → HasRoom first (length (tag_list_bytes tags) + 10) → HasRoom now (length (string (get_or tags i [])) + 10)
tags_put-room first now tags i lt before room =
    let all = length-tag_list tags in
    let long = grown first now _ before in
    let same = kept first now _ before in
    let part = length-flat_map-take string tags i [] lt in
    let sum = length-append (big_endian 2 (length tags)) (strings_to tags i) in
    omega (arith, all, long, same, part, sum, length-big_endian 2 (length tags), room)

pub tags_put-all : (first now : Buffer) (tags : List (List ℕ)) (i : ℕ) → length tags ≤ i → TagsPut first now tags i
    → AppendsTo first now (tag_list_bytes tags)
tags_put-all first now tags i all puts =
    appends-same first now _ _
    (ap (λ (ts : List (List ℕ)). big_endian 2 (length tags) ++ flat_map string ts) (take_all tags i all)) puts

-- ---- sizes

-- how many bytes the first i tags take, the count counted in
pub record TagsSized (tags : List (List ℕ)) (i size : ℕ) : Type 0 where
  pub is : size ≡ 2 + length (strings_to tags i)
  pub most : size ≤ 2 + 513 * i

pub tags_sized-none : (tags : List (List ℕ)) → TagsSized tags 0 2
tags_sized-none tags = record { is = refl; most = omega arith }

pub tags_sized-more : (tags : List (List ℕ)) (i size more : ℕ) → i < length tags → TagsSized tags i size
    → more ≡ length (string (get_or tags i [])) → more ≤ 513 → TagsSized tags (i + 1) (size + more)
tags_sized-more tags i size more lt h e small =
    let longer = ap length (strings-more tags i lt) ∙ length-append (strings_to tags i) (string (get_or tags i [])) in
    record { is = omega (arith, h.is, e, longer); most = omega (arith, h.most, small) }

pub tags_sized-all : (tags : List (List ℕ)) (i size : ℕ) → length tags ≤ i → TagsSized tags i size
    → size ≡ length (tag_list_bytes tags)
tags_sized-all tags i size all h =
    let whole = ap (λ (ts : List (List ℕ)). length (flat_map string ts)) (take_all tags i all) in
    omega (arith, h.is, whole, length-tag_list tags)
