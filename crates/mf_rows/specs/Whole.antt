-- Heads, texts and shapes that units can spell together: this project's own.
use Rattle.std.specs.Prelude.{◌≡◌, ℕ, nat_eq, true, List, [], ◌∷◌, length, map, if◌then◌else◌, Option, None, IfSome, ⊤}
use Rattle.std.specs.List.{AllByRecursion}
use Rattle.mf_base.specs.Texts.{Text}
use Rattle.mf_base.specs.declared.kind.EntityKind.{EntityKind}
use Rattle.mf_base.specs.declared.kind.Role.{Role}
use Rattle.feature_model.specs.Points.{Point, Part}
use Rattle.mf_rows.specs.Units.{IsPart, row_of_point}
use Rattle.mf_rows.specs.RowKinds.{IsOf}
use Rattle.mf_rows.specs.Kinds.{node_kind}
use Rattle.mf_rows.specs.Records.{Record}
use Rattle.mf_rows.specs.RecordUnits.{lengths_of, slot_sizes, are_sizes}
use Rattle.mf_rows.specs.FirstUnits.{IsHead}
use Rattle.mf_rows.specs.declared.head.Head.{Head}
use Rattle.mf_rows.specs.declared.head.TextSlot.{TextSlot}

-- the slots of texts, each with the length of its text
abbrev pub sizes_of : List (TextSlot × Text) → List (TextSlot × ℕ)
sizes_of texts = map (λ (t : TextSlot × Text). (t.0, length t.1)) texts

-- the slots with a text
abbrev pub with_text : List (TextSlot × ℕ) → List (TextSlot × ℕ)
with_text [] = []
with_text (s ∷ sizes) = if nat_eq s.1 0 then with_text sizes else s ∷ with_text sizes

-- The texts of a head: in the order of their slots, the texts with names of their own, and one for each tag that tells
-- one, of the length that it tells. None is empty, and each has at most 1,020 bytes.
pub record AreTexts (h : Head) (texts : List (TextSlot × Text)) : Type 0 where
  pub sizes : sizes_of texts ≡ with_text (slot_sizes (record { head = h; texts = lengths_of texts }))
  pub short : are_sizes (record { head = h; texts = lengths_of texts }) ≡ true

-- a point that a unit spells
abbrev pub IsSpot : Point → Type 0
IsSpot p = IsOf node_kind (row_of_point p)

-- at most one part, which is outer
abbrev pub IsLine : List Part → Type 0
IsLine [] = ⊤
IsLine (p ∷ []) = (p.role ≡ Role.Outer) × IsPart p
IsLine (p ∷ q ∷ parts) = ⊥

-- what units can draw of a kind
abbrev pub CanDraw : EntityKind → Option Point → List Part → Type 0
CanDraw EntityKind.Node spot parts = (parts ≡ []) × IfSome spot IsSpot
CanDraw EntityKind.Way spot parts = (spot ≡ None) × IsLine parts
CanDraw EntityKind.Relation spot parts = (spot ≡ None) × AllByRecursion IsPart parts

-- A record that its units spell.
pub record IsWhole (r : Record) : Type 0 where
  pub head : IsHead r.head
  pub texts : AreTexts r.head r.texts
  pub drawn : CanDraw r.head.kind r.spot r.parts
