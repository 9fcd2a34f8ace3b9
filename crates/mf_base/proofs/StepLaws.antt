-- What steps in order tell of their parts.
use Rattle.std.proofs.Common.{◌≡◌, refl, Bool, true, false, Option, Some, None, Result, Ok, Err, ok_or, option_map, sym}
use Rattle.std.proofs.Common.{cond, ◌⊎◌, inl, inr}
use Rattle.std.proofs.lemmas.Option.{none-some}
use Rattle.mf_base.specs.Steps.{◌>>=◌, require, refuse, told_as}

pub err_is_no_ok : {A F : Type 0} (f : F) (x : A) → ◌≡◌ {A = Result A F} (Err f) (Ok x) → ⊥
err_is_no_ok f x e = cc

pub bind_ok : {A B F : Type 0} (r : Result A F) (next : A → Result B F) (y : B) → (r >>= next) ≡ Ok y
    → (x : A) × (r ≡ Ok x) × (next x ≡ Ok y)
bind_ok (Ok x) next y e = (x, refl, e)
bind_ok (Err f) next y e = absurd (err_is_no_ok f y e)

pub require_ok : {F : Type 0} (b : Bool) (f : F) (u : Unit {0}) → require b f ≡ Ok u → b ≡ true
require_ok true f u e = refl
require_ok false f u e = absurd (err_is_no_ok f u e)

pub refuse_ok : {F : Type 0} (o : Option F) (u : Unit {0}) → refuse o ≡ Ok u → o ≡ None
refuse_ok None u e = refl
refuse_ok (Some f) u e = absurd (err_is_no_ok f u e)

pub told_ok : {A F G : Type 0} (tell : F → G) (r : Result A F) (x : A) → told_as tell r ≡ Ok x → r ≡ Ok x
told_ok tell (Ok y) x e = cc
told_ok tell (Err f) x e = absurd (err_is_no_ok (tell f) x e)

pub ok_or_ok : {A F : Type 0} (o : Option A) (f : F) (x : A) → ok_or o f ≡ Ok x → o ≡ Some x
ok_or_ok None f x e = absurd (err_is_no_ok f x e)
ok_or_ok (Some y) f x e = cc

-- nothing was mapped
pub map_none : {A B : Type 0} (f : A → B) (o : Option A) → option_map f o ≡ None → o ≡ None
map_none f None e = refl
map_none f (Some x) e = absurd (none-some (f x) (sym e))

-- which way a choice went
pub chosen : {A : Type 0} (b : Bool) (x y z : A) → cond b x y ≡ z → ((b ≡ true) × (x ≡ z)) ⊎ ((b ≡ false) × (y ≡ z))
chosen true x y z e = inl (refl, e)
chosen false x y z e = inr (refl, e)

pub ok_is : {A F : Type 0} (x y : A) → ◌≡◌ {A = Result A F} (Ok x) (Ok y) → x ≡ y
ok_is x y e = cc
