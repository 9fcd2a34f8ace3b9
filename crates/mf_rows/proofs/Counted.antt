-- How many units a record has.
use Rattle.std.proofs.Common.{◌≡◌, ℕ, ◌+◌, List, [], ◌∷◌, ◌++◌, length, Option, Some, None, refl, sym, ap, ◌∙◌, arith}
use Rattle.std.proofs.lemmas.List.{length-append, length-map}
use Rattle.std.proofs.lemmas.List.Sums.{sum_by-cons}
use Rattle.mf_base.specs.Texts.{Text}
use Rattle.mf_base.specs.declared.kind.EntityKind.{EntityKind}
use Rattle.feature_model.specs.Points.{Point, Part}
use Rattle.feature_model.specs.Choice.{Kept}
use Rattle.feature_model.specs.Descriptions.{Description, texts_length, text_size, kept_size, kept_text}
use Rattle.feature_model.proofs.TextSizes.{texts-by_parts}
use Rattle.mf_rows.specs.Units.{point_unit, part_units, parts_units}
use Rattle.mf_rows.specs.Records.{Record}
use Rattle.mf_rows.specs.RecordUnits.{head_units, text_bytes, text_units, drawn_units, spot_count, parts_count}
use Rattle.mf_rows.specs.RecordUnits.{front_count, unit_count, units_of}
use Rattle.mf_rows.specs.FirstUnits.{front_units}
use Rattle.mf_rows.specs.Whole.{CanDraw, IsWhole}
use Rattle.mf_rows.specs.Described.{slot_text, tag_texts, texts_of}
use Rattle.mf_rows.specs.declared.head.TextSlot.{TextSlot}
use Rattle.mf_rows.specs.declared.head.TextSlot.TheVariants.{Name, House, Reference, Tag}
use Rattle.mf_rows.proofs.ReadAgain.{units-long}

pub front-counted : (r : Record) → length (front_units r) ≡ front_count r
front-counted r = omega (
  arith,
  units-long (text_bytes r.texts),
  length-append (head_units r) (text_units (text_bytes r.texts)),
)

parts-counted : (parts : List Part) → length (parts_units parts) ≡ parts_count parts
parts-counted [] = refl
parts-counted (p ∷ parts) = omega (
  arith,
  parts-counted parts,
  length-append (part_units p) (parts_units parts),
  length-map p.points point_unit,
)

drawn-counted : (kind : EntityKind) (spot : Option Point) (parts : List Part) → CanDraw kind spot parts
    → length (drawn_units kind spot parts) ≡ spot_count spot + parts_count parts
drawn-counted EntityKind.Node None parts can =
    let none : parts_count parts ≡ 0 = ap parts_count can.0 in omega (arith, none)
drawn-counted EntityKind.Node (Some p) parts can =
    let none : parts_count parts ≡ 0 = ap parts_count can.0 in omega (arith, none)
drawn-counted EntityKind.Way spot parts can =
    let none : spot_count spot ≡ 0 = ap spot_count can.0 in omega (arith, none, parts-counted parts)
drawn-counted EntityKind.Relation spot parts can =
    let none : spot_count spot ≡ 0 = ap spot_count can.0 in omega (arith, none, parts-counted parts)

pub units-counted : (r : Record) → IsWhole r → length (units_of r) ≡ unit_count r
unfolding units_of
units-counted r is = omega (
  arith,
  front-counted r,
  drawn-counted r.head.kind r.spot r.parts is.drawn,
  length-append (front_units r) (drawn_units r.head.kind r.spot r.parts),
)

-- ---- the bytes of the texts of a description

slot-counted : (slot : TextSlot) (o : Option Text) (rest : List (TextSlot × Text))
    → length (text_bytes (slot_text slot o ++ rest)) ≡ text_size o + length (text_bytes rest)
slot-counted slot None rest = omega arith
slot-counted slot (Some text) rest = length-append text (text_bytes rest)

tags-counted : (i : ℕ) (tags : List Kept) → length (text_bytes (tag_texts i tags)) ≡ kept_size tags
unfolding kept_size
tags-counted i [] = refl
tags-counted i (k ∷ tags) = slot-counted (Tag i) (kept_text k.value) (tag_texts (i + 1) tags)
    ∙ ap (λ n. text_size (kept_text k.value) + n) (tags-counted (i + 1) tags)
    ∙ sym (sum_by-cons (λ (k : Kept). text_size (kept_text k.value)) k tags)

pub texts-counted : (d : Description) → length (text_bytes (texts_of d)) ≡ texts_length d
texts-counted d =
    let last : List (TextSlot × Text) = slot_text Reference d.reference ++ tag_texts 0 d.choice.tags in
    omega (
      arith,
      texts-by_parts d,
      slot-counted Name d.name (slot_text House d.house ++ last),
      slot-counted House d.house last,
      slot-counted Reference d.reference (tag_texts 0 d.choice.tags),
      tags-counted 0 d.choice.tags,
    )
