-- What the message of an entity has in the fields of its table.
use Rattle.std.proofs.Common.{◌≡◌, ◌∙◌, ℕ, List, [], ◌∷◌, Some, true, ap, sym, subst}
use Rattle.std.proofs.Common.{inl, inr}
use Rattle.std.specs.Prelude.{unwrap_or, slice_get, filter_map}
use Rattle.std.specs.List.{AllByRecursion}
use Rattle.std.proofs.lemmas.Bool.{cases_eq}
use Rattle.mf_base.specs.Packed.{are_varints}
use Rattle.osm_model.specs.declared.rules.Form.TheVariants.{Packed}
use Rattle.osm_model.specs.Wire.{Field}
use Rattle.osm_model.specs.Tables.{Table, FitsTable, HasForm, form_of, counted_bytes, values_of, once_of}
use Rattle.osm_model.proofs.PackedLaws.{packed_is}
use Rattle.mf_base.proofs.PackedFront.{whole-nil}
use Rattle.pbf_wire.proofs.MessageReads.{values-same, values-other}

abbrev Formed : Table → List Field → Type 0
Formed table fs =
    AllByRecursion (λ (f : Field). (known : _) → form_of table f.number ≡ Some known → HasForm known f.value) fs

first_bytes : ℕ → List Field → List ℕ
first_bytes k fs = unwrap_or (slice_get (filter_map counted_bytes (values_of k fs)) 0) []

whole_first : (table : Table) (fs : List Field) (k : ℕ) → Formed table fs → form_of table k ≡ Some Packed
    → are_varints (unwrap_or (once_of k fs) []) ≡ true
whole_first table [] k formed known = whole-nil
whole_first table (f ∷ fs) k formed known = elim (cases_eq f.number k) [
  | inl e ↦
      let (bytes, ns, value, packed) = formed.0 Packed (ap (form_of table) e ∙ known) in
      subst (λ vs. are_varints (unwrap_or (slice_get (filter_map counted_bytes vs) 0) []) ≡ true)
      (sym (values-same k f fs e ∙ ap (λ v. v ∷ values_of k fs) value)) (packed_is bytes ns packed).0
  | inr e ↦
      subst (λ vs. are_varints (unwrap_or (slice_get (filter_map counted_bytes vs) 0) []) ≡ true)
      (sym (values-other k f fs e)) (whole_first table fs k formed.1 known)
]

-- the bytes of a packed list of a message that fits its table are whole varints
pub packed_whole : (table : Table) (fs : List Field) (k : ℕ) → FitsTable table fs → form_of table k ≡ Some Packed
    → are_varints (unwrap_or (once_of k fs) []) ≡ true
packed_whole table fs k fits known = whole_first table fs k fits.forms known
