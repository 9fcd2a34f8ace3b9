-- What a cursor over members gives, row by row.
use Rattle.std.proofs.Common.{◌≡◌, ◌∙◌, ◌∷◌, ◌&&◌, ◌<◌, ℕ, List, [], true, Option, Some, None, ap, refl, sym, map}
use Rattle.std.proofs.Common.{ℤ, ◌+ℤ◌, FitsSigned, to_z, of_z, w64}
use Rattle.std.specs.Prelude.{slice_get, drop, nat_lt}
use Rattle.std.specs.List.{list_all}
use Rattle.std.proofs.lemmas.Bool.{and_parts, ltb-true}
use Rattle.mf_base.specs.declared.kind.EntityKind.{EntityKind}
use Rattle.mf_base.specs.Texts.{Text}
use Rattle.mf_base.specs.Spelling.{unzigzag_of}
use Rattle.mf_base.specs.Ranges.{is_signed_64}
use Rattle.mf_base.specs.Packed.{packed_numbers}
use Rattle.mf_base.specs.Entries.{entry_text}
use Rattle.osm_model.specs.Entities.{Member}
use Rattle.osm_model.specs.Objects.{zip_three}
use Rattle.osm_entity.specs.Sums.{sums_in}
use Rattle.osm_entity.specs.MemberChecks.{kind_told, member_of, rows_in, is_member, are_members}
use Rattle.osm_entity.proofs.SumReads.{sums-first, sums-none}
use Rattle.osm_entity.proofs.SignedSums.{sum-fits, sum-kept}

-- The packed columns begin with this row, and behind it stand these.
pub record PackedRow (roles ids types : List ℕ) (r n t : ℕ) (roles' ids' types' : List ℕ) : Type 0 where
  pub role : packed_numbers roles ≡ r ∷ packed_numbers roles'
  pub id : packed_numbers ids ≡ n ∷ packed_numbers ids'
  pub type : packed_numbers types ≡ t ∷ packed_numbers types'

rows-first : (sum z : ℤ) (roles ids types : List ℕ) (r n t : ℕ) (roles' ids' types' : List ℕ)
    → PackedRow roles ids types r n t roles' ids' types' → z ≡ sum +ℤ unzigzag_of n
    → rows_in sum roles ids types ≡ (r, z, t) ∷ rows_in z roles' ids' types'
rows-first sum z roles ids types r n t roles' ids' types' row is =
    let next = sum +ℤ unzigzag_of n in
    ap (λ rs. zip_three rs (sums_in sum ids) (packed_numbers types)) row.role
    ∙ ap (λ zs. zip_three (r ∷ packed_numbers roles') zs (packed_numbers types)) (sums-first sum ids ids' n row.id)
    ∙ ap (λ ts. zip_three (r ∷ packed_numbers roles') (next ∷ sums_in next ids') ts) row.type
    ∙ ap (λ s. (r, s, t) ∷ rows_in s roles' ids' types') (sym is)

pub rows-no_role : (sum : ℤ) (roles ids types : List ℕ) → packed_numbers roles ≡ [] → rows_in sum roles ids types ≡ []
rows-no_role sum roles ids types e = ap (λ rs. zip_three rs (sums_in sum ids) (packed_numbers types)) e

no_ids : (rs ts : List ℕ) → zip_three {B = ℤ} rs [] ts ≡ []
no_ids [] ts = refl
no_ids (r ∷ rs) ts = refl

pub rows-no_id : (sum : ℤ) (roles ids types : List ℕ) → packed_numbers ids ≡ [] → rows_in sum roles ids types ≡ []
rows-no_id sum roles ids types e =
    ap (λ zs. zip_three (packed_numbers roles) zs (packed_numbers types)) (sums-none sum ids e)
    ∙ no_ids (packed_numbers roles) (packed_numbers types)

no_types : (rs : List ℕ) (zs : List ℤ) → zip_three {C = ℕ} rs zs [] ≡ []
no_types [] zs = refl
no_types (r ∷ rs) [] = refl
no_types (r ∷ rs) (z ∷ zs) = refl

pub rows-no_type : (sum : ℤ) (roles ids types : List ℕ) → packed_numbers types ≡ [] → rows_in sum roles ids types ≡ []
rows-no_type sum roles ids types e =
    ap (λ ts. zip_three (packed_numbers roles) (sums_in sum ids) ts) e
    ∙ no_types (packed_numbers roles) (sums_in sum ids)

pub no-member : (block places : List ℕ) (rows : List (ℕ × ℤ × ℕ)) → rows ≡ []
    → None ≡ slice_get (map (member_of block places) rows) 0
no-member block places rows e = sym (ap (λ rs. slice_get (map (member_of block places) rs) 0) e)

pub no-members : (block places : List ℕ) (rows : List (ℕ × ℤ × ℕ)) → rows ≡ []
    → map (member_of block places) rows ≡ drop 1 (map (member_of block places) rows)
no-members block places rows e =
    ap (map (member_of block places)) e ∙ sym (ap (λ rs. drop 1 (map (member_of block places) rs)) e)

-- a sum as it is kept in 64 bits
abbrev kept : ℤ → ℤ
kept z = to_z w64 (of_z w64 z)

-- What is known of the next row, whose id is kept in 64 bits.
pub record IsNextRow (count : ℕ) (sum d : ℤ) (r n t : ℕ) (roles' ids' types' : List ℕ) : Type 0 where
  pub known : r < count
  pub fits : FitsSigned w64 (kept sum +ℤ kept d)
  pub is : kept (kept sum +ℤ kept d) ≡ sum +ℤ unzigzag_of n
  pub kind : t < 3
  pub others : are_members count (kept (kept sum +ℤ kept d)) roles' ids' types' ≡ true

pub next-row : (count : ℕ) (sum d : ℤ) (roles ids types : List ℕ) (r n t : ℕ) (roles' ids' types' : List ℕ)
    → FitsSigned w64 sum → FitsSigned w64 d → d ≡ unzigzag_of n → are_members count sum roles ids types ≡ true
    → PackedRow roles ids types r n t roles' ids' types' → IsNextRow count sum d r n t roles' ids' types'
next-row count sum d roles ids types r n t roles' ids' types' f g is told row =
    let next = sum +ℤ unzigzag_of n in
    let parts = and_parts (is_member count (r, next, t)) (are_members count next roles' ids' types')
    (sym (ap (list_all (is_member count)) (rows-first sum next roles ids types r n t roles' ids' types' row refl))
    ∙ told) in
    let last = and_parts (nat_lt r count && is_signed_64 next) (nat_lt t 3) parts.0 in
    let both = and_parts (nat_lt r count) (is_signed_64 next) last.0 in
    let narrow : is_signed_64 (sum +ℤ d) ≡ true = ap (λ z. is_signed_64 (sum +ℤ z)) is ∙ both.1 in
    let value = sum-kept sum d f g narrow ∙ ap (λ z. sum +ℤ z) is in
    record {
      known = ltb-true r count both.0;
      fits = sum-fits sum d f g narrow;
      is = value;
      kind = ltb-true t 3 last.1;
      others = ap (λ z. are_members count z roles' ids' types') value ∙ parts.1;
    }

pub next-member : (block places : List ℕ) (sum z : ℤ) (roles ids types : List ℕ) (r n t : ℕ)
    (roles' ids' types' : List ℕ) (kind : EntityKind) (role : Text)
    → PackedRow roles ids types r n t roles' ids' types' → z ≡ sum +ℤ unzigzag_of n → kind ≡ kind_told t
    → role ≡ entry_text block places r
    → ◌≡◌ {A = Option Member} (Some (record { kind = kind; id = z; role = role }))
    (slice_get (map (member_of block places) (rows_in sum roles ids types)) 0)
next-member block places sum z roles ids types r n t roles' ids' types' kind role row is is_kind is_role =
    ap (λ k. Some (record { kind = k; id = z; role = role })) is_kind
    ∙ ap (λ text. Some (record { kind = kind_told t; id = z; role = text })) is_role
    ∙ sym (ap (λ rows. slice_get (map (member_of block places) rows) 0)
    (rows-first sum z roles ids types r n t roles' ids' types' row is))

pub other-members : (block places : List ℕ) (sum z : ℤ) (roles ids types : List ℕ) (r n t : ℕ)
    (roles' ids' types' : List ℕ)
    → PackedRow roles ids types r n t roles' ids' types' → z ≡ sum +ℤ unzigzag_of n
    → map (member_of block places) (rows_in z roles' ids' types')
    ≡ drop 1 (map (member_of block places) (rows_in sum roles ids types))
other-members block places sum z roles ids types r n t roles' ids' types' row is =
    sym (ap (λ rows. drop 1 (map (member_of block places) rows))
    (rows-first sum z roles ids types r n t roles' ids' types' row is))
