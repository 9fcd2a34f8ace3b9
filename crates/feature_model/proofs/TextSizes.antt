-- The bytes of the texts of a description, text by text: for weights that are told by counts, and for the room of a
-- tile.
use Rattle.std.proofs.Common.{◌≡◌, ℕ, ◌+◌, List, [], ◌∷◌, ◌++◌, length, refl, ◌∙◌, arith, Option, Some, None}
use Rattle.std.specs.Prelude.{flat_map}
use Rattle.std.specs.List.{enumerate_from}
use Rattle.mf_base.specs.Texts.{Text}
use Rattle.feature_model.specs.Choice.{Kept}
use Rattle.feature_model.specs.Descriptions.{Description, TextSlot, name, house, reference, tag, in_slot, kept_text}
use Rattle.feature_model.specs.Descriptions.{texts_of, texts_length, text_size, kept_size}
use Rattle.feature_model.proofs.Totals.{total, total-append, sum-total}

size : TextSlot × Text → ℕ
size t = length t.1

slot-size : (slot : TextSlot) (text : Option Text)
    → total (λ (t : TextSlot × Text). length t.1) (in_slot slot text) ≡ text_size text
slot-size slot None = refl
slot-size slot (Some text) = omega arith

kept-sizes : (n : ℕ) (tags : List Kept)
    → total (λ (t : TextSlot × Text). length t.1) (flat_map (λ (k : ℕ × Kept). in_slot (tag k.0) (kept_text k.1.value))
    (enumerate_from n tags)) ≡ total (λ (k : Kept). text_size (kept_text k.value)) tags
kept-sizes n [] = refl
kept-sizes n (k ∷ tags) =
    let here = slot-size (tag n) (kept_text k.value) in
    let rest = kept-sizes (n + 1) tags in
    total-append (λ (t : TextSlot × Text). length t.1) (in_slot (tag n) (kept_text k.value))
    (flat_map (λ (k : ℕ × Kept). in_slot (tag k.0) (kept_text k.1.value)) (enumerate_from (n + 1) tags))
    ∙ omega (arith, here, rest)

-- the texts of a description take the bytes of each of them
pub texts-by_parts : (d : Description)
    → texts_length d ≡ text_size d.name + text_size d.house + text_size d.reference + kept_size d.choice.tags
unfolding texts_length texts_of kept_size
texts-by_parts d =
    let f : TextSlot × Text → ℕ = λ t. length t.1 in
    let kept = flat_map (λ (k : ℕ × Kept). in_slot (tag k.0) (kept_text k.1.value)) (enumerate_from 0 d.choice.tags) in
    let tags = kept-sizes 0 d.choice.tags in
    let a = slot-size name d.name in
    let b = slot-size house d.house in
    let c = slot-size reference d.reference in
    let all = total-append f (in_slot name d.name ++ in_slot house d.house ++ in_slot reference d.reference) kept in
    let three = total-append f (in_slot name d.name ++ in_slot house d.house) (in_slot reference d.reference) in
    let two = total-append f (in_slot name d.name) (in_slot house d.house) in
    let sum = sum-total (λ (k : Kept). text_size (kept_text k.value)) d.choice.tags in
    sum-total f (in_slot name d.name ++ in_slot house d.house ++ in_slot reference d.reference ++ kept)
    ∙ omega (arith, all, three, two, a, b, c, tags, sum)

pub ruleset size_laws = (texts-by_parts)
