-- Lists of what is made of items.
use Rattle.std.proofs.Common.{◌≡◌, ℕ, ◌<◌, List, [], ◌∷◌, ◌++◌, Option, Some, None, refl, ap, ◌∙◌}
use Rattle.std.specs.Prelude.{filter_map, flat_map}
use Rattle.std.specs.List.{cons_option}
use Rattle.std.proofs.lemmas.List.Concat.{flat_map-append}
use Rattle.mf_base.proofs.Pairs.{EachPair}
use Rattle.feature_model.proofs.ListLemmas.{all-filter_map}
use Rattle.spill_parts.specs.Join.{Rises}

-- what is made of some items keeps their order
pub rises-given : {A B : Type 0} (R : A → A → Type 0) (S : B → B → Type 0) (h : A → Option B)
    → ((a b : A) (c d : B) → h a ≡ Some c → h b ≡ Some d → R a b → S c d) → (xs : List A) → EachPair R xs
    → EachPair S (filter_map h xs)
rises-given R S h step [] rises = tt
rises-given {A} {B} R S h step (x ∷ xs) rises = by_value (h x) refl (rises-given R S h step xs rises.1)
  where
    by_value : (o : Option B) → h x ≡ o → EachPair S (filter_map h xs) → EachPair S (cons_option o (filter_map h xs))
    by_value None e more = more
    by_value (Some y) e more =
        (all-filter_map (R x) (S y) h xs rises.0 (λ a b before is. step x a y b e is before), more)

-- keys rise where each is below all later ones
pub rises-by : {N : Type 0} (key : N → ℕ) (ns : List N) → EachPair (λ m n. key m < key n) ns → Rises key ns
rises-by key [] rises = tt
rises-by key (n ∷ ns) rises = (rises.0, rises-by key ns rises.1)

-- lists of lists of lists, one behind another
pub flat_map-twice : {A B C : Type 0} (g : B → List C) (f : A → List B) (xs : List A)
    → flat_map g (flat_map f xs) ≡ flat_map (λ x. flat_map g (f x)) xs
flat_map-twice g f [] = refl
flat_map-twice g f (x ∷ xs) =
    flat_map-append g (f x) (flat_map f xs) ∙ ap (λ l. flat_map g (f x) ++ l) (flat_map-twice g f xs)
