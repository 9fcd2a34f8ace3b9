-- Lists under functions that agree.
use Rattle.std.proofs.Common.{◌≡◌, List, [], ◌∷◌, map, refl}

pub map-same : {A B : Type 0} (f g : A → B) → ((x : A) → f x ≡ g x) → (xs : List A) → map f xs ≡ map g xs
map-same f g e [] = refl
map-same f g e (x ∷ xs) = λ i. e x i ∷ map-same f g e xs i
