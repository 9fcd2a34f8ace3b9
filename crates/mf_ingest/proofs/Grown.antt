-- How much the parts grow by the rows of an entity.
use Rattle.std.proofs.Common.{◌≡◌, ℕ, ◌+◌, ◌*◌, ◌≤◌, List, [], ◌∷◌, ◌++◌, length, Option, Some, None}
use Rattle.std.proofs.Common.{ap, ◌∙◌, arith}
use Rattle.std.specs.Prelude.{filter_map, IfSome}
use Rattle.std.specs.List.{enumerate_from, cons_option}
use Rattle.std.proofs.Math.Nat.{mul-add}
use Rattle.std.proofs.lemmas.List.{length-append}
use Rattle.std.proofs.lemmas.List.FromFn.{length-enumerate_from}
use Rattle.osm_model.specs.Entities.{Node, Way, Relation, node, way, relation}
use Rattle.mf_rows.specs.RowKinds.{Kind}
use Rattle.mf_rows.specs.RecordUnits.{text_bytes, front_count}
use Rattle.mf_rows.specs.Records.{texts_told}
use Rattle.feature_model.specs.Points.{point_of}
use Rattle.mf_rows.specs.Heads.{kind_number}
use Rattle.mf_rows.specs.Units.{point_unit}
use Rattle.mf_rows.specs.declared.kinds.FeatureRow.{FeatureRow}
use Rattle.mf_rows.specs.Kinds.{node_kind, ref_kind, member_kind, feature_kind}
use Rattle.spill_parts.specs.Parts.{Part}
use Rattle.spill_parts.specs.Handed.{SixParts, feature_row_of, ref_row_of, ref_rows, member_row_of, member_rows}
use Rattle.mf_ingest.specs.declared.front.Described.{Described}
use Rattle.mf_ingest.specs.Fronts.{IsFront}
use Rattle.mf_ingest.specs.FrontRows.{front_of, front_rows}
use Rattle.mf_ingest.specs.Gathered.{Gathered, gathered_rows, rows_behind, HasGrown, HaveGrown, most_bytes}
use Rattle.mf_ingest.specs.EntityRows.{whole_rows, node_parts, way_parts, relation_parts}
use Rattle.mf_ingest.proofs.Records.{texts-short, rows-long}

-- ---- how many rows there are

one-or-none : {B : Type 0} (o : Option B) (ys : List B) → length (cons_option o ys) ≤ length ys + 1
one-or-none None ys = omega arith
one-or-none (Some y) ys = omega arith

some-of-all : {A B : Type 0} (f : A → Option B) (xs : List A) → length (filter_map f xs) ≤ length xs
some-of-all f [] = omega arith
some-of-all f (x ∷ xs) = omega (arith, one-or-none (f x) (filter_map f xs), some-of-all f xs)

pub refs-few : (w : Way) → length (ref_rows w) ≤ length w.refs
refs-few w = omega (
  arith,
  some-of-all (ref_row_of w.id) (enumerate_from 0 w.refs),
  length-enumerate_from 0 w.refs,
)

pub members-few : (r : Relation) → length (member_rows r) ≤ length r.members
members-few r = omega (
  arith,
  some-of-all (member_row_of r.id) (enumerate_from 0 r.members),
  length-enumerate_from 0 r.members,
)

-- ten units of a head, and those of eighteen texts of at most 1,020 bytes
pub front-few : (d : Described) → IsFront d → length (front_rows d) ≤ 1158
front-few d is =
    let texts = texts_told d.texts.block.now d.texts.spans.items in
    let long : length (front_rows d) ≡ front_count (front_of d) = rows-long d.head texts in
    let few : length d.texts.spans.items ≤ 18 = is.few in
    let short : length (text_bytes texts) ≤ 1020 * length d.texts.spans.items =
    texts-short d.texts.block.now d.texts.spans.items is.short in
    omega arith

pub whole-few : (n : Node) (d : Described) → IsFront d → length (whole_rows n d) ≤ 1159
whole-few n d is =
    let last : List FeatureRow = feature_row_of (kind_number d.head.kind) d.head.id
    (front_count (front_of d), point_unit (point_of n)) ∷ [] in
    omega (arith, front-few d is, length-append (front_rows d) last)

-- ---- parts

part-grown : {K : Type 0} (kind : Kind K) (p p_now : Part K) (more : List K) (n : ℕ) → p_now.rows ≡ p.rows ++ more
    → kind.width * length more ≤ n → HasGrown n kind p p_now
part-grown kind p p_now more n same few =
    let long : kind.width * length p_now.rows ≡ kind.width * length p.rows + kind.width * length more =
    ap (λ rows. kind.width * length rows) same ∙ ap (λ k. kind.width * k) (length-append p.rows more)
    ∙ mul-add kind.width (length p.rows) (length more) in
    omega arith

-- Six parts have grown by at most so many bytes.
record Fits (n : ℕ) (more : SixParts) : Type 0 where
  pub places : 16 * length more.places ≤ n
  pub refs : 20 * length more.refs ≤ n
  pub members : 21 * length more.members ≤ n
  pub node_units : 29 * length more.node_units ≤ n
  pub way_units : 29 * length more.way_units ≤ n
  pub relation_units : 29 * length more.relation_units ≤ n

all-grown : (old new : Gathered) (more : SixParts) (n : ℕ) → Fits n more
    → gathered_rows new ≡ rows_behind (gathered_rows old) more → HaveGrown n old new
all-grown old new more n fits behind = record {
  places = part-grown node_kind old.places new.places more.places n (ap (λ (s : SixParts). s.places) behind) fits.places;
  refs = part-grown ref_kind old.refs new.refs more.refs n (ap (λ (s : SixParts). s.refs) behind) fits.refs;
  members = part-grown member_kind old.members new.members more.members n (ap (λ (s : SixParts). s.members) behind)
      fits.members;
  node_units = part-grown feature_kind old.node_units new.node_units more.node_units n
      (ap (λ (s : SixParts). s.node_units) behind) fits.node_units;
  way_units = part-grown feature_kind old.way_units new.way_units more.way_units n
      (ap (λ (s : SixParts). s.way_units) behind) fits.way_units;
  relation_units = part-grown feature_kind old.relation_units new.relation_units more.relation_units n
      (ap (λ (s : SixParts). s.relation_units) behind) fits.relation_units;
}

-- ---- entities

module _ {old new : Gathered} where
  pub node-grown : (n : Node) (d : Option Described) → IfSome d IsFront
      → gathered_rows new ≡ rows_behind (gathered_rows old) (node_parts n d) → HaveGrown (most_bytes (node n)) old new
  node-grown n d is = all-grown old new (node_parts n d) (most_bytes (node n)) (fits d is)
    where
      fits : (d : Option Described) → IfSome d IsFront → Fits (most_bytes (node n)) (node_parts n d)
      fits None is = record {
        places = omega arith;
        refs = omega arith;
        members = omega arith;
        node_units = omega arith;
        way_units = omega arith;
        relation_units = omega arith;
      }
      fits (Some d) is = record {
        places = omega arith;
        refs = omega arith;
        members = omega arith;
        node_units = omega (arith, whole-few n d is);
        way_units = omega arith;
        relation_units = omega arith;
      }

  pub way-grown : (w : Way) (d : Option Described) → IfSome d IsFront
      → gathered_rows new ≡ rows_behind (gathered_rows old) (way_parts w d) → HaveGrown (most_bytes (way w)) old new
  way-grown w d is = all-grown old new (way_parts w d) (most_bytes (way w)) (fits d is)
    where
      fits : (d : Option Described) → IfSome d IsFront → Fits (most_bytes (way w)) (way_parts w d)
      fits None is = record {
        places = omega arith;
        refs = omega (arith, refs-few w);
        members = omega arith;
        node_units = omega arith;
        way_units = omega arith;
        relation_units = omega arith;
      }
      fits (Some d) is = record {
        places = omega arith;
        refs = omega (arith, refs-few w);
        members = omega arith;
        node_units = omega arith;
        way_units = omega (arith, front-few d is);
        relation_units = omega arith;
      }

  pub relation-grown : (r : Relation) (d : Option Described) → IfSome d IsFront
      → gathered_rows new ≡ rows_behind (gathered_rows old) (relation_parts r d)
      → HaveGrown (most_bytes (relation r)) old new
  relation-grown r d is = all-grown old new (relation_parts r d) (most_bytes (relation r)) (fits d is)
    where
      fits : (d : Option Described) → IfSome d IsFront → Fits (most_bytes (relation r)) (relation_parts r d)
      fits None is = record {
        places = omega arith;
        refs = omega arith;
        members = omega arith;
        node_units = omega arith;
        way_units = omega arith;
        relation_units = omega arith;
      }
      fits (Some d) is = record {
        places = omega arith;
        refs = omega arith;
        members = omega (arith, members-few r);
        node_units = omega arith;
        way_units = omega arith;
        relation_units = omega (arith, front-few d is);
      }
