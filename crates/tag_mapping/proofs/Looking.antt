-- Looking up a key in tags, one tag after the other.
use Rattle.std.proofs.Common.{◌≡◌, ◌<◌, [], ◌∷◌, length, drop, true, false, Some, None}
use Rattle.std.proofs.Common.{refl, sym, ap, ◌∙◌, arith}
use Rattle.std.specs.Prelude.{bytes_eq, slice_get}
use Rattle.std.proofs.lemmas.Option.{same_Some, none-some}
use Rattle.mf_base.specs.Texts.{Text}
use Rattle.mf_base.specs.Tags.{Tag, Tags, value_of}

-- tags that have a first one
pub first-tag : (tags : Tags) (tag : Tag) → Some tag ≡ slice_get tags 0 → tags ≡ tag ∷ drop 1 tags
first-tag [] tag e = absurd (none-some tag (sym e))
first-tag (t ∷ tags) tag e = ap (λ (x : Tag). x ∷ tags) (sym (same_Some tag t e))

pub no-tag : (tags : Tags) → None ≡ slice_get tags 0 → tags ≡ []
no-tag [] e = refl
no-tag (t ∷ tags) e = absurd (none-some t e)

pub shorter : (tags : Tags) (tag : Tag) → Some tag ≡ slice_get tags 0 → length (drop 1 tags) < length tags
shorter [] tag e = absurd (none-some tag (sym e))
shorter (t ∷ tags) tag e = omega arith

pub value-here : (key k v : Text) (tags : Tags) → Some (k, v) ≡ slice_get tags 0 → bytes_eq k key ≡ true
    → value_of key tags ≡ Some v
unfolding value_of
value-here key k v tags e same = rw (first-tag tags (k, v) e, same) refl

pub value-later : (key k v : Text) (tags : Tags) → Some (k, v) ≡ slice_get tags 0 → bytes_eq k key ≡ false
    → value_of key tags ≡ value_of key (drop 1 tags)
unfolding value_of
value-later key k v [] e other = refl
value-later key k v (t ∷ tags) e other =
    let same : (k, v) ≡ t = same_Some (k, v) t e in
    let first : bytes_eq t.0 key ≡ false = ap (λ (x : Tag). bytes_eq x.0 key) (sym same) ∙ other in
    rw first refl

pub value-none : (key : Text) (tags : Tags) → None ≡ slice_get tags 0 → value_of key tags ≡ None
unfolding value_of
value-none key tags e = rw (no-tag tags e) refl
