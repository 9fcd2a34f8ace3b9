-- Members that are still to be put.
use Rattle.std.proofs.Common.{◌≡◌, ℕ, ◌+◌, ◌*◌, ◌≤◌, List, [], ◌∷◌, ◌++◌, length, refl, sym, ap, ◌∙◌, append_assoc}
use Rattle.std.proofs.Common.{append-nil}
use Rattle.mf_rows.specs.declared.kinds.MemberRow.{MemberRow}
use Rattle.mf_rows.specs.declared.kinds.PointRow.{PointRow}
use Rattle.mf_rows.specs.declared.kinds.RelRow.{RelRow}
use Rattle.spill_parts.proofs.Joined.{first_of_all}
use Rattle.member_points.specs.Pairing.{rows_of_member, paired_rows}

-- the first of them, and the others
pub paired_first : (room : ℕ) (points : List PointRow) (m : MemberRow) (left : List MemberRow)
    → paired_rows room points (m ∷ left) ≡ rows_of_member room points m ++ paired_rows room points left
unfolding paired_rows
paired_first room points m left = refl

pub paired_none : (room : ℕ) (points : List PointRow) → paired_rows room points [] ≡ []
unfolding paired_rows
paired_none room points = refl

module _ (room : ℕ) (points : List PointRow) (m : MemberRow) (left left_now : List MemberRow) (out all : List RelRow)
    (first : left ≡ m ∷ left_now) (same : out ++ paired_rows room points left ≡ all) where
  in_three : out ++ (rows_of_member room points m ++ paired_rows room points left_now) ≡ all
  in_three = ap (λ l. out ++ l) (sym (paired_first room points m left_now) ∙ ap (paired_rows room points) (sym first))
      ∙ same

  -- the first was put
  pub paired_put : (out_now : List RelRow) → out_now ≡ out ++ rows_of_member room points m
      → out_now ++ paired_rows room points left_now ≡ all
  paired_put out_now put =
      ap (λ l. l ++ paired_rows room points left_now) put
      ∙ append_assoc out (rows_of_member room points m) (paired_rows room points left_now)
      ∙ in_three

  -- there is room for it, where there is room for all
  pub paired_fits : (width limit : ℕ) → width * length all ≤ limit
      → width * length out + width * length (rows_of_member room points m) ≤ limit
  paired_fits width limit fits =
      first_of_all width limit out (rows_of_member room points m) (paired_rows room points left_now) all in_three fits

-- none is left
pub paired_whole : (room : ℕ) (points : List PointRow) (left : List MemberRow) (out all : List RelRow) → left ≡ []
    → out ++ paired_rows room points left ≡ all → out ≡ all
paired_whole room points left out all none same =
    sym (append-nil out)
    ∙ ap (λ l. out ++ l) (sym (ap (paired_rows room points) none ∙ paired_none room points))
    ∙ same
