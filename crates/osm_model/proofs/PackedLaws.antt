-- Whole varints are a packed list of their numbers.
use Rattle.std.proofs.Common.{◌≡◌, ℕ, List, [], ◌∷◌, map, refl, sym, ap, subst, ◌∙◌, true}
use Rattle.std.proofs.lemmas.Bool.{and_parts, and_from}
use Rattle.std.specs.List.{concat, list_all}
use Rattle.mf_base.specs.Spelling.{sevens}
use Rattle.mf_base.specs.Packed.{runs, is_varint, are_varints, packed_numbers}
use Rattle.osm_model.specs.Wire.{IsPacked}
pub use Rattle.mf_base.proofs.PackedLaws.{runs-nil, runs-append, varint_is, is_varint_spells, concat-runs}

pub packed_is : (b ns : List ℕ) → IsPacked b ns → (are_varints b ≡ true) × (packed_numbers b ≡ ns)
packed_is b [] e =
    subst (λ x. (are_varints x ≡ true) × (packed_numbers x ≡ [])) (sym e) (
      ap (list_all is_varint) runs-nil,
      ap (map sevens) runs-nil,
    )
packed_is b (n ∷ ns) (front, rest, v, more, whole) =
    let cut : runs b ≡ front ∷ runs rest = ap runs whole ∙ runs-append front rest v.run in
    let others = packed_is rest ns more in (
      ap (list_all is_varint) cut ∙ and_from _ _ (varint_is n front v) others.0,
      ap (map sevens) cut ∙ ap (λ k. k ∷ packed_numbers rest) (sym v.value) ∙ ap (λ ks. n ∷ ks) others.1,
    )

packed_of_runs : (rs : List (List ℕ)) → list_all is_varint rs ≡ true → IsPacked (concat rs) (map sevens rs)
packed_of_runs [] e = refl
packed_of_runs (r ∷ rs) e = let parts =
    and_parts _ _ e in (r, concat rs, is_varint_spells r parts.0, packed_of_runs rs parts.1, refl)

pub packed_found : (b : List ℕ) → are_varints b ≡ true → IsPacked b (packed_numbers b)
packed_found b e = subst (λ x. IsPacked x (packed_numbers b)) (concat-runs b) (packed_of_runs (runs b) e)
