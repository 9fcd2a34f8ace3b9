-- Differences, one after another.
use Rattle.std.proofs.Common.{◌≡◌, ◌∙◌, ◌∷◌, ◌&&◌, ℕ, List, [], true, false, ap, refl, map, ℤ}
use Rattle.std.proofs.Common.{◌+ℤ◌}
use Rattle.std.specs.List.{list_all}
use Rattle.mf_base.specs.Spelling.{unzigzag_of}
use Rattle.mf_base.specs.Ranges.{is_signed_64}
use Rattle.mf_base.specs.Packed.{packed_numbers}
use Rattle.osm_model.specs.Objects.{running_sums, running_sums_from}
use Rattle.osm_model.proofs.ColumnLaws.{column_from-cons}
use Rattle.osm_entity.specs.Sums.{sums_in, are_signed}

column_from-nil : (sum : ℤ) → running_sums_from sum [] ≡ []
unfolding running_sums
column_from-nil sum = refl

pub sums-none : (sum : ℤ) (bytes : List ℕ) → packed_numbers bytes ≡ [] → sums_in sum bytes ≡ []
sums-none sum bytes e = ap (λ ns. running_sums_from sum (map unzigzag_of ns)) e ∙ column_from-nil sum

pub sums-first : (sum : ℤ) (bytes rest : List ℕ) (n : ℕ) → packed_numbers bytes ≡ n ∷ packed_numbers rest
    → sums_in sum bytes ≡ (sum +ℤ unzigzag_of n) ∷ sums_in (sum +ℤ unzigzag_of n) rest
sums-first sum bytes rest n e = ap (λ ns. running_sums_from sum (map unzigzag_of ns)) e
    ∙ column_from-cons sum (unzigzag_of n) (map unzigzag_of (packed_numbers rest))

pub signed-none : (sum : ℤ) (bytes : List ℕ) → packed_numbers bytes ≡ [] → are_signed sum bytes ≡ true
signed-none sum bytes e = ap (list_all is_signed_64) (sums-none sum bytes e)

pub signed-first : (sum : ℤ) (bytes rest : List ℕ) (n : ℕ) → packed_numbers bytes ≡ n ∷ packed_numbers rest
    → are_signed sum bytes ≡ (is_signed_64 (sum +ℤ unzigzag_of n) && are_signed (sum +ℤ unzigzag_of n) rest)
signed-first sum bytes rest n e = ap (list_all is_signed_64) (sums-first sum bytes rest n e)

pub signed-more : (sum : ℤ) (bytes rest : List ℕ) (n : ℕ) → packed_numbers bytes ≡ n ∷ packed_numbers rest
    → is_signed_64 (sum +ℤ unzigzag_of n) ≡ true → are_signed sum bytes ≡ are_signed (sum +ℤ unzigzag_of n) rest
signed-more sum bytes rest n e one = signed-first sum bytes rest n e
    ∙ ap (λ b. b && are_signed (sum +ℤ unzigzag_of n) rest) one

pub signed-no : (sum : ℤ) (bytes rest : List ℕ) (n : ℕ) → packed_numbers bytes ≡ n ∷ packed_numbers rest
    → is_signed_64 (sum +ℤ unzigzag_of n) ≡ false → are_signed sum bytes ≡ false
signed-no sum bytes rest n e one = signed-first sum bytes rest n e
    ∙ ap (λ b. b && are_signed (sum +ℤ unzigzag_of n) rest) one
