-- Candidates that are nodes, and their records: where a mapping has no entries for ways, these are all candidates, and
-- their features are those of the input.
use Rattle.std.proofs.Common.{◌≡◌, ℕ, ◌+◌, ◌≤◌, ◌<◌, ◌^◌, Bool, true, false, List, [], ◌∷◌, ◌++◌, length, map}
use Rattle.std.proofs.Common.{Option, Some, None, refl, sym, ap, subst, ◌∙◌, arith}
use Rattle.std.specs.Prelude.{All, cond, filter_map, find, flat_map, fold, is_some, IsSome, max, nat_lt, option_map}
use Rattle.std.specs.Prelude.{sum_by}
use Rattle.std.specs.List.{AllByRecursion, cons_option, enumerate_from, range_with_len}
use Rattle.std.proofs.lemmas.List.{append-nil, length-append, length-map}
use Rattle.std.proofs.lemmas.List.FromFn.{length-enumerate_from}
use Rattle.mf_base.specs.Tags.{Tags}
use Rattle.osm_model.specs.Accepted.{IsAccepted}
use Rattle.osm_model.specs.Entities.{Node, Way, Relation, Entity, node, way, relation, nodes_of, ways_of, relations_of}
use Rattle.osm_model.proofs.EntityRange.{input_accepted}
use Rattle.feature_model.specs.Mapping.{Mapping}
use Rattle.feature_model.specs.Choice.{Choice, choice, matches}
use Rattle.feature_model.specs.Points.{Geometry, geometry_of}
use Rattle.feature_model.specs.Descriptions.{Description, description, described, is_multipolygon, entries_for}
use Rattle.feature_model.specs.Candidates.{Candidate, candidate_of, candidates}
use Rattle.feature_model.specs.Weights.{weight}
use Rattle.feature_model.specs.Features.{Shape, point, shape_of, shape, Feature, shaped, feature_of, features, skipped}
use Rattle.feature_model.specs.Limits.{candidate_over, candidate_fault, largest_candidate}
use Rattle.feature_model.specs.Proper.{IsProper, IsOfInput}
use Rattle.feature_model.specs.declared.fault.LimitFault.{LimitFault}
use Rattle.feature_model.proofs.InputFeatures.{features-of_input}
use Rattle.feature_model.proofs.ProperLaws.{features-proper, features-and-skipped}
use Rattle.feature_model.proofs.Rising.{all-both, all-imp, all-unmap}
use Rattle.feature_model.proofs.ShapeLaws.{candidates-parts}
use Rattle.feature_model.proofs.Totals.{total, sum-total}
use Rattle.map_model.specs.MapFile.{shape_size}
use Rattle.mf_rows.specs.Changes.{with_feature}
use Rattle.mf_rows.specs.Heads.{kind_number}
use Rattle.mf_rows.specs.Records.{Record, candidate_told, description_told}
use Rattle.mf_rows.specs.RecordUnits.{units_of, unit_count}
use Rattle.mf_rows.specs.Shapes.{spot_place, drawn_of, shape_told, feature_told, HasShape, IsFeature}
use Rattle.mf_rows.specs.declared.kinds.ShapeRow.{ShapeRow}
use Rattle.spill_parts.specs.Handed.{IsInput, IsRecordOf, AreRecordsOf, candidates_in, feature_row_of, record_rows}
use Rattle.spill_parts.specs.Shaped.{Spelled, IsLight, AreShapes, IsShown}
use Rattle.mf_shape.specs.declared.nodes.Counts.{Counts}
use Rattle.mf_shape.specs.Numbered.{IsSpelled, numbered, AreNumbered, AreCounted, most_units, record_over}
use Rattle.mf_shape.specs.Numbered.{records_fault}
use Rattle.mf_shape.proofs.Turns.{none-over}
use Rattle.mf_shape.proofs.Weights.{kind-is, geometry, node-weight}

-- ---- records of nodes

-- A record of a candidate that is a node.
record IsOfNode (mapping : Mapping) (r : Record) : Type 0 where
  from : Node
  is : IsRecordOf mapping (node from) r

-- These are the records of the candidates among these nodes, one after another.
record AreOfNodes (mapping : Mapping) (entities : List Entity) (nodes : List Node) (records : List Record)
    : Type 0 where
  each : AllByRecursion (IsOfNode mapping) records
  same : filter_map (candidate_of mapping entities) (map node nodes) ≡ map candidate_told records

-- the candidate that a node is, by its description
abbrev drawn_from : List Entity → Entity → Description → Candidate
drawn_from entities e d = record { description = d; geometry = geometry_of entities e }

no-description : (o : Option Description) → is_some o ≡ false → o ≡ None
no-description None none = refl
no-description (Some d) none = absurd (cc none)

-- the candidate of a node is what its record tells
candidate-is : (mapping : Mapping) (entities : List Entity) (n : Node) (r : Record) → IsRecordOf mapping (node n) r
    → candidate_of mapping entities (node n) ≡ Some (candidate_told r)
unfolding candidate_told geometry_of
candidate-is mapping entities n r is = ap (option_map (drawn_from entities (node n))) is.described
    ∙ ap (λ (g : Geometry). Some (record { description = description_told r.head r.texts; geometry = g }))
    (sym (geometry mapping n r is))

of-nodes : (mapping : Mapping) (entities : List Entity) (nodes : List Node) (records : List Record)
    → AreRecordsOf mapping (candidates_in mapping (map node nodes)) records → AreOfNodes mapping entities nodes records
of-nodes mapping entities [] [] told = record { each = tt; same = refl }
of-nodes mapping entities [] (r ∷ records) told = absurd told
of-nodes mapping entities (n ∷ nodes) records told =
    by_test (is_some (description mapping (node n))) refl told (λ rs are. of-nodes mapping entities nodes rs are)
  where
    rest : List Entity
    rest = candidates_in mapping (map node nodes)

    by_record : (records : List Record) → AreRecordsOf mapping (node n ∷ rest) records
        → ((rs : List Record) → AreRecordsOf mapping rest rs → AreOfNodes mapping entities nodes rs)
        → AreOfNodes mapping entities (n ∷ nodes) records
    by_record [] told later = absurd told
    by_record (r ∷ records) told later = let more = later records told.1 in record {
      each = (record { from = n; is = told.0 }, more.each);
      same = (λ i. cons_option (candidate-is mapping entities n r told.0 i) (more.same i));
    }

    by_test : (b : Bool) → is_some (description mapping (node n)) ≡ b
        → AreRecordsOf mapping (cond b (node n ∷ rest) rest) records
        → ((rs : List Record) → AreRecordsOf mapping rest rs → AreOfNodes mapping entities nodes rs)
        → AreOfNodes mapping entities (n ∷ nodes) records
    by_test true there told later = by_record records told later
    by_test false there told later = let more = later records told in record {
      each = more.each;
      same = ap (λ o. cons_option (option_map (drawn_from entities (node n)) o)
          (filter_map (candidate_of mapping entities) (map node nodes)))
          (no-description (description mapping (node n)) there) ∙ more.same;
    }

-- ---- no other candidates

no-choice : (tags : Tags) → choice [] tags ≡ None
unfolding choice matches
no-choice tags = refl

none-chosen : (e : Entity) (o : Option Choice) → o ≡ None → option_map (described e) o ≡ None
none-chosen e o none = ap (option_map (described e)) none

no-way : (mapping : Mapping) → mapping.way ≡ [] → (w : Way) → description mapping (way w) ≡ None
unfolding description
no-way mapping none w = none-chosen (way w) (choice mapping.way w.tags)
    (ap (λ es. choice es w.tags) none ∙ no-choice w.tags)

no-relation : (mapping : Mapping) → mapping.way ≡ [] → (r : Relation) → description mapping (relation r) ≡ None
unfolding description
no-relation mapping none r = by_test (is_multipolygon r.tags)
  where
    by_test : (b : Bool) → cond b (option_map (described (relation r)) (choice mapping.way r.tags)) None ≡ None
    by_test true = none-chosen (relation r) (choice mapping.way r.tags)
        (ap (λ es. choice es r.tags) none ∙ no-choice r.tags)
    by_test false = refl

none-of : {A : Type 0} (mapping : Mapping) (entities : List Entity) (back : A → Entity)
    → ((a : A) → description mapping (back a) ≡ None) → (list : List A)
    → filter_map (candidate_of mapping entities) (map back list) ≡ []
none-of mapping entities back none [] = refl
none-of mapping entities back none (a ∷ list) =
    ap (λ o. cons_option (option_map (drawn_from entities (back a)) o)
    (filter_map (candidate_of mapping entities) (map back list))) (none a)
    ∙ none-of mapping entities back none list

-- ---- what the records of nodes weigh

module _ (mapping : Mapping) where
  spelled-one : (r : Record) → IsOfNode mapping r → IsSpelled r
  spelled-one r of = record { whole = of.is.whole; counted = (node-weight mapping of.from r of.is).1 }

  weighs : (r : Record) → IsOfNode mapping r → weight (candidate_told r) ≡ unit_count r
  weighs r of = (node-weight mapping of.from r of.is).0

  spelled-all : (records : List Record) → AllByRecursion (IsOfNode mapping) records → AllByRecursion IsSpelled records
  spelled-all [] each = tt
  spelled-all (r ∷ records) each = (spelled-one r each.0, spelled-all records each.1)

  weights-are : (records : List Record) → AllByRecursion (IsOfNode mapping) records
      → map weight (map candidate_told records) ≡ map unit_count records
  weights-are [] each = refl
  weights-are (r ∷ records) each = (λ i. weighs r each.0 i ∷ weights-are records each.1 i)

  over-is : (r : Record) → IsOfNode mapping r → candidate_over (candidate_told r) ≡ record_over r
  unfolding candidate_told
  over-is r of = ap (LimitFault.Feature r.head.kind r.head.id) (weighs r of)

  over-all : (limit : ℕ) (records : List Record) → AllByRecursion (IsOfNode mapping) records
      → option_map candidate_over (find (λ c. nat_lt limit (weight c)) (map candidate_told records))
      ≡ records_fault limit records
  over-all limit [] each = refl
  over-all limit (r ∷ records) each =
      ap (λ w. option_map candidate_over (cond (nat_lt limit w) (Some (candidate_told r)) rest)) (weighs r each.0)
      ∙ by_test (nat_lt limit (unit_count r)) (over-all limit records each.1)
    where
      rest : Option Candidate
      rest = find (λ c. nat_lt limit (weight c)) (map candidate_told records)

      by_test : (b : Bool) → option_map candidate_over rest ≡ records_fault limit records
          → option_map candidate_over (cond b (Some (candidate_told r)) rest)
          ≡ option_map record_over (cond b (Some r) (find (λ (q : Record). nat_lt limit (unit_count q)) records))
      by_test true later = ap Some (over-is r each.0)
      by_test false later = later

-- ---- all candidates of an input

-- each record of a candidate that is a node is spelled by its units
pub each-spelled : (mapping : Mapping) (entities : List Entity) (records : List Record)
    → AreRecordsOf mapping (candidates_in mapping (map node (nodes_of entities))) records
    → AllByRecursion IsSpelled records
each-spelled mapping entities records told =
    spelled-all mapping records (of-nodes mapping entities (nodes_of entities) records told).each

module _ (mapping : Mapping) (none : mapping.way ≡ []) (entities : List Entity) (records : List Record)
    (told : AreRecordsOf mapping (candidates_in mapping (map node (nodes_of entities))) records)
  where
    nodes : AreOfNodes mapping entities (nodes_of entities) records
    nodes = of-nodes mapping entities (nodes_of entities) records told

    -- the candidates are what the records tell
    pub candidates-are : candidates mapping entities ≡ map candidate_told records
    candidates-are = candidates-parts mapping entities
        ∙ (λ i. nodes.same i ++ none-of mapping entities way (no-way mapping none) (ways_of entities) i
        ++ none-of mapping entities relation (no-relation mapping none) (relations_of entities) i)
        ∙ append-nil (map candidate_told records ++ []) ∙ append-nil (map candidate_told records)

    -- the first record over the limit is the candidate that is refused
    pub fault-is : (limit : ℕ) → candidate_fault limit mapping entities ≡ records_fault limit records
    unfolding candidate_fault
    fault-is limit = ap (λ cs. option_map candidate_over (find (λ c. nat_lt limit (weight c)) cs)) candidates-are
        ∙ over-all mapping limit records nodes.each

    -- the greatest weight is the greatest number of units
    pub largest-is : largest_candidate mapping entities ≡ most_units records
    unfolding largest_candidate
    largest-is = ap (λ cs. fold max 0 (map weight cs)) candidates-are
        ∙ ap (fold max 0) (weights-are mapping records nodes.each)

-- ---- the features of records

-- the feature that a record becomes; it does not tell its number
abbrev shown : Record → Feature
shown r = feature_told (with_feature 0 (unit_count r) r)

same-feature : (n : ℕ) (r : Record) → feature_told (with_feature n (unit_count r) r) ≡ shown r
unfolding feature_told candidate_told
same-feature n r = refl

shown-weight : (r : Record) → (shown r).weight ≡ unit_count r
unfolding feature_told
shown-weight r = refl

numbered-shown : (n : ℕ) (records : List Record) → map feature_told (numbered n records) ≡ map shown records
numbered-shown n [] = refl
numbered-shown n (r ∷ records) = (λ i. same-feature n r i ∷ numbered-shown (n + 1) records i)

-- the number of a record
abbrev number_of : Record → ℕ
number_of r = r.head.number

numbers-count : (n : ℕ) (records : List Record)
    → map number_of (numbered n records) ≡ range_with_len n (length records)
numbers-count n [] = refl
numbers-count n (r ∷ records) = ap (λ ns. n ∷ ns) (numbers-count (n + 1) records)

-- the record that is spelled
abbrev told_of : Spelled → Record
told_of s = s.told

map-told : {B : Type 0} (f : Record → B) (spelled : List Spelled)
    → map (λ (s : Spelled). f s.told) spelled ≡ map f (map told_of spelled)
map-told f [] = refl
map-told f (s ∷ spelled) = ap (λ bs. f s.told ∷ bs) (map-told f spelled)

-- a record that is a feature, and weighs no more than the limit
abbrev IsWeighed : ℕ → Record → Type 0
IsWeighed limit r = IsFeature r × (r.head.weight ≤ limit)

module _ (mapping : Mapping) where
  drawn-is : (r : Record) → (of : IsOfNode mapping r) → shape_told r ≡ point of.from.place
  drawn-is r of = ap (λ k. drawn_of k r.spot r.parts) (kind-is mapping of.from r of.is)
      ∙ ap (λ s. point (spot_place s)) of.is.spot_is

  shape-is : (r : Record) → IsOfNode mapping r → shape (candidate_told r) ≡ Some (shape_told r)
  unfolding shape candidate_told
  shape-is r of = ap shape_of (geometry mapping of.from r of.is) ∙ ap Some (sym (drawn-is r of))

  feature-one : (r : Record) → IsOfNode mapping r → feature_of (candidate_told r, shape_told r) ≡ shown r
  unfolding feature_told candidate_told
  feature-one r of = ap (λ w. record (feature_of (candidate_told r, shape_told r)) { weight = w }) (weighs mapping r of)

  all-shown : (records : List Record) → AllByRecursion (IsOfNode mapping) records
      → map feature_of (filter_map shaped (map candidate_told records)) ≡ map shown records
  all-shown [] each = refl
  all-shown (r ∷ records) each =
      ap (λ o. map feature_of (cons_option (option_map with_shape o) (filter_map shaped (map candidate_told records))))
      (shape-is r each.0)
      ∙ (λ i. feature-one r each.0 i ∷ all-shown records each.1 i)
    where
      with_shape : Shape → Candidate × Shape
      with_shape s = (candidate_told r, s)

  is-feature : (r : Record) → IsOfNode mapping r → IsFeature r
  is-feature r of = subst (λ k. HasShape k r.spot r.parts) (sym (kind-is mapping of.from r of.is))
      (subst IsSome (sym of.is.spot_is) refl)

  weighed-all : (limit n : ℕ) (records : List Record) → AllByRecursion (IsOfNode mapping) records
      → AllByRecursion (λ (r : Record). unit_count r ≤ limit) records
      → AllByRecursion (IsWeighed limit) (numbered n records)
  weighed-all limit n [] each light = tt
  weighed-all limit n (r ∷ records) each light =
      ((is-feature r each.0, light.0), weighed-all limit (n + 1) records each.1 light.1)

  rows-many : (r : Record) → IsOfNode mapping r → length (record_rows r) ≡ unit_count r
  rows-many r of =
      length-map (enumerate_from 0 (units_of r)) (feature_row_of (kind_number r.head.kind) r.head.id)
      ∙ length-enumerate_from 0 (units_of r) ∙ (node-weight mapping of.from r of.is).1

  rows-all : (records : List Record) → AllByRecursion (IsOfNode mapping) records
      → total (λ (f : Feature). f.weight) (map shown records) ≡ length (flat_map record_rows records)
  rows-all [] each = refl
  rows-all (r ∷ records) each = omega (
    arith,
    shown-weight r,
    rows-many r each.0,
    rows-all records each.1,
    length-append (record_rows r) (flat_map record_rows records),
  )

  weights-all : (records : List Record) → AllByRecursion (IsOfNode mapping) records
      → total weight (map candidate_told records) ≡ length (flat_map record_rows records)
  weights-all [] each = refl
  weights-all (r ∷ records) each = omega (
    arith,
    weighs mapping r each.0,
    rows-many r each.0,
    weights-all records each.1,
    length-append (record_rows r) (flat_map record_rows records),
  )

-- ---- all features of an input

module _ (mapping : Mapping) (none : mapping.way ≡ []) (entities : List Entity) (records : List Record)
    (told : AreRecordsOf mapping (candidates_in mapping (map node (nodes_of entities))) records)
  where
    each-node : AllByRecursion (IsOfNode mapping) records
    each-node = (of-nodes mapping entities (nodes_of entities) records told).each

    -- the features are what the records tell once they have a weight
    pub features-are : features mapping entities ≡ map shown records
    unfolding features
    features-are =
        ap (λ cs. map feature_of (filter_map shaped cs)) (candidates-are mapping none entities records told)
        ∙ all-shown mapping records each-node

    features-many : length (features mapping entities) ≡ length records
    features-many = ap length features-are ∙ length-map records shown

    -- each candidate is a feature, and none is skipped
    pub counts-are : (c : Counts) → AreCounted records c
        → (c.features ≡ length (features mapping entities)) × (c.skipped ≡ skipped mapping entities)
    counts-are c counted =
        let many : length (candidates mapping entities) ≡ length records =
        ap length (candidates-are mapping none entities records told) ∙ length-map records candidate_told in
        let both = features-and-skipped mapping entities in
        (counted.features ∙ sym features-many, omega (arith, counted.skipped, both, many, features-many))

    sum-is : sum_by (λ (f : Feature). f.weight) (features mapping entities) ≡ length (flat_map record_rows records)
    sum-is = sum-total (λ (f : Feature). f.weight) (features mapping entities)
        ∙ ap (total (λ (f : Feature). f.weight)) features-are ∙ rows-all mapping records each-node

    light-all : (limit : ℕ) (rows : List ShapeRow) → (are : AreNumbered limit records rows)
        → AllByRecursion (IsLight limit) are.spelled
    light-all limit rows are =
        all-imp (λ (s : Spelled). IsWeighed limit s.told × (length s.units ≡ s.told.head.weight)) (IsLight limit)
        (λ s h. record { feature = h.0.0; units = omega (arith, h.1); weight = h.0.1 }) are.spelled
        (all-both (λ (s : Spelled). IsWeighed limit s.told) (λ (s : Spelled). length s.units ≡ s.told.head.weight)
        are.spelled (all-unmap (IsWeighed limit) told_of are.spelled
        (subst (AllByRecursion (IsWeighed limit)) (sym are.told)
        (weighed-all mapping limit 0 records each-node are.light))) are.counted)

    -- the rows of the records are those of the features
    pub shapes-are : (limit : ℕ) (rows : List ShapeRow) → AreNumbered limit records rows
        → length (flat_map record_rows records) < 2 ^ 63 → AreShapes limit (features mapping entities) rows
    shapes-are limit rows are few = record {
      spelled = are.spelled;
      rows_are = are.rows_are;
      shows = map-told feature_told are.spelled ∙ ap (map feature_told) are.told ∙ numbered-shown 0 records
          ∙ sym features-are;
      numbers = map-told number_of are.spelled ∙ ap (map number_of) are.told ∙ numbers-count 0 records
          ∙ sym (ap (range_with_len 0) features-many);
      each = light-all limit rows are;
      light = omega (arith, sum-is, few);
    }

    -- no candidate passes the limit
    pub no-fault : (limit : ℕ) (rows : List ShapeRow) → AreNumbered limit records rows
        → candidate_fault limit mapping entities ≡ None
    no-fault limit rows are = fault-is mapping none entities records told limit
        ∙ ap (option_map record_over) (none-over limit records are.light)

    -- there are no more rows than the input has entities and its candidates weigh
    pub rows-within : length (flat_map record_rows records) ≤ shape_size mapping entities
    unfolding shape_size
    rows-within =
        let all : sum_by weight (candidates mapping entities) ≡ length (flat_map record_rows records) =
        sum-total weight (candidates mapping entities)
        ∙ ap (total weight) (candidates-are mapping none entities records told) ∙ weights-all mapping records each-node in
        omega (arith, all)

-- ---- what tiles ask of features

-- the features of an accepted input are proper, and are of an input
pub shown-are : (mapping : Mapping) (entities : List Entity) → IsInput entities
    → AllByRecursion (IsShown mapping) (features mapping entities)
shown-are mapping entities input =
    all-both (λ (f : Feature). IsProper (entries_for mapping f.kind) f) IsOfInput (features mapping entities)
    (features-proper mapping entities) (features-of_input mapping entities
    (subst (All IsAccepted) (sym input.all) (input_accepted input.input)))
