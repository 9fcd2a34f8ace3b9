-- The values of a field behind one more.
use Rattle.std.proofs.Common.{◌≡◌, ◌≢◌, ◌==◌, ◌∙◌, ℕ, List, [], ◌∷◌, ◌++◌, ap, append-nil, cond, Some, None, unwrap_or}
use Rattle.std.specs.Prelude.{filter_map}
use Rattle.std.specs.List.{last_or, cons_option}
use Rattle.std.proofs.lemmas.Bool.{eq-eqb, ne_eqb}
use Rattle.std.proofs.lemmas.List.Elements.{filter_map-append}
use Rattle.osm_model.proofs.LastLaws.{last_or-with}
use Rattle.osm_model.specs.Wire.{Field, Value, varint}
use Rattle.osm_model.specs.Tables.{values_of, bytes_of, number_of, varint_in, counted_bytes}

pub values-append : (k : ℕ) (fs gs : List Field) → values_of k (fs ++ gs) ≡ values_of k fs ++ values_of k gs
values-append k fs gs = filter_map-append (λ (f : Field). cond (f.number == k) (Some f.value) None) fs gs

pub bytes-append : (k : ℕ) (fs gs : List Field) → bytes_of k (fs ++ gs) ≡ bytes_of k fs ++ bytes_of k gs
bytes-append k fs gs = ap (filter_map counted_bytes) (values-append k fs gs)
    ∙ filter_map-append counted_bytes (values_of k fs) (values_of k gs)

-- the values that one field has of number k
value-same : (k : ℕ) (f : Field) → f.number ≡ k → values_of k (f ∷ []) ≡ f.value ∷ []
value-same k f e = ap (λ b. cons_option (cond b (Some f.value) None) []) (eq-eqb f.number k e)

value-other : (k : ℕ) (f : Field) → f.number ≢ k → values_of k (f ∷ []) ≡ []
value-other k f e = ap (λ b. cons_option (cond b (Some f.value) None) []) (ne_eqb f.number k e)

numbers-append : (k : ℕ) (fs : List Field) (f : Field) (vs : List Value) → values_of k (f ∷ []) ≡ vs
    → filter_map varint_in (values_of k (fs ++ f ∷ [])) ≡ filter_map varint_in (values_of k fs)
    ++ filter_map varint_in vs
numbers-append k fs f vs e =
    ap (filter_map varint_in) (values-append k fs (f ∷ []) ∙ ap (λ ws. values_of k fs ++ ws) e)
    ∙ filter_map-append varint_in (values_of k fs) vs

pub number-last : (k n : ℕ) (fs : List Field) (f : Field) → f.number ≡ k → f.value ≡ varint n
    → number_of k (fs ++ f ∷ []) ≡ Some n
number-last k n fs f e value =
    ap (last_or None) (numbers-append k fs f (varint n ∷ []) (value-same k f e ∙ ap (λ v. v ∷ []) value))
    ∙ last_or-with None (filter_map varint_in (values_of k fs)) n

pub number-other : (k : ℕ) (fs : List Field) (f : Field) → f.number ≢ k → number_of k (fs ++ f ∷ []) ≡ number_of k fs
number-other k fs f e =
    ap (last_or None) (numbers-append k fs f [] (value-other k f e)
    ∙ append-nil (filter_map varint_in (values_of k fs)))

pub number-absent : (k default : ℕ) (fs : List Field) → values_of k fs ≡ []
    → unwrap_or (number_of k fs) default ≡ default
number-absent k default fs e = ap (λ vs. unwrap_or (last_or None (filter_map varint_in vs)) default) e
