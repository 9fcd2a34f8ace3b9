-- Features of an accepted input have ids in range, places on the earth and texts in UTF-8: for layouts, tiles and the
-- map, which ask for it.
use Rattle.std.proofs.Common.{◌≡◌, ◌⊎◌, ℕ, zero, suc, ◌^◌, ◌<◌, ◌≤◌, List, [], ◌∷◌, ◌++◌, map, length, reverse}
use Rattle.std.proofs.Common.{drop, Bool, true, false, not, ℤ}
use Rattle.std.proofs.Common.{Option, Some, None, Result, Ok, Err, refl, sym, ap, ◌∙◌, subst, inl, inr}
use Rattle.std.specs.Prelude.{cond, filter, filter_map, find, option_map, option_and_then, IfSome, IsTrue, ◌==◌}
use Rattle.std.specs.Prelude.{nat_le, ◌&&◌}
use Rattle.std.specs.Prelude.{codes, bytes_eq, All}
use Rattle.std.specs.List.{AllByRecursion, enumerate_from}
use Rattle.std.specs.Str.{is_utf8}
use Rattle.std.proofs.lemmas.Bool.{cases_Bool}
use Rattle.std.proofs.lemmas.List.{reverse-append}
use Rattle.std.proofs.lemmas.Option.{same_Some}
use Rattle.mf_base.proofs.StepLaws.{ok_is}
use Rattle.std.proofs.lemmas.List.Elements.{recursion_from_All}
use Rattle.mf_base.specs.declared.place.Place.{Place}
use Rattle.mf_base.specs.declared.kind.EntityKind.{EntityKind}
use Rattle.mf_base.specs.declared.kind.Role.{Role}
use Rattle.mf_base.specs.Texts.{Text}
use Rattle.mf_base.specs.Tags.{Tag, Tags, value_of, present_text, text_of}
use Rattle.mf_base.specs.Ranges.{is_on_earth}
use Rattle.osm_model.specs.Entities.{Node, Way, Member, Relation, Entity, node, way, relation, nodes_of, ways_of}
use Rattle.osm_model.specs.Entities.{relations_of, as_node, as_way, as_relation, kind_of, id_of}
use Rattle.osm_model.specs.Accepted.{AreTexts, IsAccepted}
use Rattle.feature_model.specs.Mapping.{Mapping, Entry, ValueKind, KeptValue, value_kind, read_by, kept_by}
use Rattle.feature_model.specs.Choice.{Kept, Match, match_of, matches, Choice, choice_of, choice, layer_of}
use Rattle.feature_model.specs.Points.{Point, Part, names, node_named, point_of, way_points, part_of, member_way}
use Rattle.feature_model.specs.Points.{role_of}
use Rattle.feature_model.specs.Points.{member_part, relation_parts, Geometry, place, line, parts, geometry_of}
use Rattle.feature_model.specs.Rings.{Piece, Begun, first_node, last_node, added, extended, TakesFirst, Joined, rings}
use Rattle.feature_model.specs.Rings.{and_then_rings, Joins, finished, starts, Grows, closes, adds, stays_open}
use Rattle.feature_model.specs.declared.fault.RingFault.{RingFault}
use Rattle.feature_model.specs.Blocks.{JoinedBlock, places, begins_inside, blocks_of, has_role, pieces_of}
use Rattle.feature_model.specs.Blocks.{blocks_joined}
use Rattle.feature_model.specs.Blocks.{relation_blocks}
use Rattle.feature_model.specs.Descriptions.{Description, tags_of, entries_for, may_be_shown, reference_of, described}
use Rattle.feature_model.specs.Descriptions.{description, kept_text}
use Rattle.feature_model.specs.Candidates.{Candidate, candidate_of, by_kind, candidates}
use Rattle.feature_model.specs.Features.{Shape, point, Block, drawn_blocks, shape_of, shape_of_blocks, shape}
use Rattle.feature_model.specs.Features.{shaped, feature_of, features}
use Rattle.feature_model.specs.Proper.{AllPlaces, IsUtf8Text, IsOfInput}
use Rattle.feature_model.proofs.ListLemmas.{all-filter_map, all-map, all-take, all-weaker, any-all}
use Rattle.feature_model.proofs.Rising.{all-append, all-filter, all-items}
use Rattle.feature_model.proofs.RingLaws.{rings-joins}
use Rattle.feature_model.proofs.BlockBounds.{relation_blocks-none, relation_blocks-some}

-- ---- texts

-- what holds of all items holds of the one that is found
find-of : {X : Type 0} (P : X → Type 0) (p : X → Bool) (xs : List X) (x : X) → AllByRecursion P xs
    → find p xs ≡ Some x → P x
find-of P p [] x all e = absurd (cc e)
find-of {X} P p (y ∷ ys) x all e = by_test (cases_Bool (p y)) (λ later. find-of P p ys x all.1 later)
  where
    by_test : (p y ≡ true) ⊎ (p y ≡ false) → (find p ys ≡ Some x → P x) → P x
    by_test (inl hit) more = subst P (same_Some y x (rw hit at e)) all.0
    by_test (inr miss) more = more (rw miss at e)

abbrev AreUtf8 : Tags → Type 0
AreUtf8 tags = AllByRecursion (λ (t : Tag). is_utf8 t.1 ≡ true) tags

value-utf8 : (key : Text) (tags : Tags) (v : Text) → AreUtf8 tags → value_of key tags ≡ Some v → is_utf8 v ≡ true
unfolding value_of
value-utf8 key tags v all e = by_tag (find (λ t. bytes_eq t.0 key) tags) refl e
  where
    by_tag : (o : Option Tag) → find (λ t. bytes_eq t.0 key) tags ≡ o → option_map (λ (t : Tag). t.1) o ≡ Some v
        → is_utf8 v ≡ true
    by_tag None same h = absurd (cc h)
    by_tag (Some t) same h =
        subst (λ u. is_utf8 u ≡ true) (same_Some t.1 v h)
        (find-of (λ (t : Tag). is_utf8 t.1 ≡ true) (λ t. bytes_eq t.0 key) tags t all same)

present-same : (t u : Text) → present_text t ≡ Some u → t ≡ u
unfolding present_text
present-same t u e = by_test (cases_Bool (nat_le 1 (length t) && nat_le (length t) 1020))
  where
    by_test : ((nat_le 1 (length t) && nat_le (length t) 1020) ≡ true)
        ⊎ ((nat_le 1 (length t) && nat_le (length t) 1020) ≡ false) → t ≡ u
    by_test (inl good) = same_Some t u (rw good at e)
    by_test (inr bad) = absurd (cc (rw bad at e))

text-utf8 : (key : Text) (tags : Tags) → AreUtf8 tags → IfSome (text_of key tags) IsUtf8Text
unfolding text_of
text-utf8 key tags all = by_value (value_of key tags) refl
  where
    by_text : (t : Text) (o : Option Text) → is_utf8 t ≡ true → present_text t ≡ o → IfSome o IsUtf8Text
    by_text t None good e = tt
    by_text t (Some u) good e = subst IsUtf8Text (present-same t u e) good

    by_value : (o : Option Text) → value_of key tags ≡ o → IfSome (option_and_then present_text o) IsUtf8Text
    by_value None e = tt
    by_value (Some v) e = by_text v (present_text v) (value-utf8 key tags v all e) refl

reference-utf8 : (kind : EntityKind) (tags : Tags) → AreUtf8 tags → IfSome (reference_of kind tags) IsUtf8Text
reference-utf8 EntityKind.Node tags all = tt
reference-utf8 EntityKind.Way tags all = text-utf8 (codes "ref") tags all
reference-utf8 EntityKind.Relation tags all = text-utf8 (codes "ref") tags all

-- the text of a kept value is that of the tag
abbrev IsKeptUtf8 : KeptValue → Type 0
IsKeptUtf8 v = IfSome (kept_text v) IsUtf8Text

made-number : (make : ℤ → KeptValue) (o : Option ℤ) (v : KeptValue) → ((z : ℤ) → IsKeptUtf8 (make z))
    → option_map make o ≡ Some v → IsKeptUtf8 v
made-number make None v fine e = absurd (cc e)
made-number make (Some z) v fine e = subst IsKeptUtf8 (same_Some (make z) v e) (fine z)

made-text : (t : Text) (o : Option Text) (v : KeptValue) → is_utf8 t ≡ true → present_text t ≡ o
    → option_map KeptValue.text o ≡ Some v → IsKeptUtf8 v
made-text t None v good same e = absurd (cc e)
made-text t (Some u) v good same e =
    subst IsKeptUtf8 (same_Some (KeptValue.text u) v e) (subst IsUtf8Text (present-same t u same) good)

made-plain : (b : Bool) (v : KeptValue) → cond b (Some KeptValue.plain) None ≡ Some v → IsKeptUtf8 v
made-plain true v e = subst IsKeptUtf8 (same_Some KeptValue.plain v e) tt
made-plain false v e = absurd (cc e)

read-utf8 : (kind : ValueKind) (wanted value : Text) (v : KeptValue) → is_utf8 value ≡ true
    → read_by kind wanted value ≡ Some v → IsKeptUtf8 v
read-utf8 ValueKind.plain wanted value v good e = made-plain _ v e
read-utf8 ValueKind.byte wanted value v good e = made-number KeptValue.byte _ v (λ z. tt) e
read-utf8 ValueKind.short wanted value v good e = made-number KeptValue.short _ v (λ z. tt) e
read-utf8 ValueKind.int wanted value v good e = made-number KeptValue.int _ v (λ z. tt) e
read-utf8 ValueKind.text wanted value v good e = made-text value (present_text value) v good refl e

kept-utf8 : (entry : Entry) (tags : Tags) (v : KeptValue) → AreUtf8 tags → kept_by entry tags ≡ Some v → IsKeptUtf8 v
unfolding kept_by
kept-utf8 entry tags v all e = by_value (value_of entry.key tags) refl e
  where
    by_value : (o : Option Text) → value_of entry.key tags ≡ o
        → option_and_then (read_by (value_kind entry.value) entry.value) o ≡ Some v → IsKeptUtf8 v
    by_value None same h = absurd (cc h)
    by_value (Some t) same h =
        read-utf8 (value_kind entry.value) entry.value t v (value-utf8 entry.key tags t all same) h

match-utf8 : (tags : Tags) (numbered : ℕ × Entry) (m : Match) → AreUtf8 tags → match_of tags numbered ≡ Some m
    → IsKeptUtf8 m.kept.value
match-utf8 tags numbered m all e = by_value (kept_by numbered.1 tags) refl e
  where
    with_value : KeptValue → Match
    with_value value = record { kept = record { tag = numbered.0; value = value }; entry = numbered.1 }

    by_value : (o : Option KeptValue) → kept_by numbered.1 tags ≡ o → option_map with_value o ≡ Some m
        → IsKeptUtf8 m.kept.value
    by_value None same h = absurd (cc h)
    by_value (Some v) same h =
        subst (λ (m : Match). IsKeptUtf8 m.kept.value) (same_Some (with_value v) m h)
        (kept-utf8 numbered.1 tags v all same)

-- what is kept by a choice
choice-utf8 : (entries : List Entry) (tags : Tags) (c : Choice) → AreUtf8 tags → choice entries tags ≡ Some c
    → AllByRecursion (λ (k : Kept). IsKeptUtf8 k.value) c.tags
unfolding choice matches
choice-utf8 entries tags c all e =
    by_matches (filter_map (match_of tags) (enumerate_from 0 entries))
    (all-filter_map (λ p. Unit {0}) (λ (m : Match). IsKeptUtf8 m.kept.value) (match_of tags)
    (enumerate_from 0 entries) (any-all (enumerate_from 0 entries)) (λ p m u h. match-utf8 tags p m all h)) e
  where
    by_matches : (found : List Match) → AllByRecursion (λ (m : Match). IsKeptUtf8 m.kept.value) found
        → choice_of (layer_of tags) found ≡ Some c → AllByRecursion (λ (k : Kept). IsKeptUtf8 k.value) c.tags
    by_matches [] good h = absurd (cc h)
    by_matches (first ∷ more) good h =
        subst (λ (c : Choice). AllByRecursion (λ (k : Kept). IsKeptUtf8 k.value) c.tags) (same_Some _ c h)
        (all-take (λ (k : Kept). IsKeptUtf8 k.value) 15 (map (λ (m : Match). m.kept) (first ∷ more))
        (all-map (λ (k : Kept). IsKeptUtf8 k.value) (λ (m : Match). m.kept) (first ∷ more) good))

-- ---- places

abbrev OnEarth : Place → Type 0
OnEarth p = IsTrue (is_on_earth p)

abbrev AreOnEarth : List Point → Type 0
AreOnEarth points = AllByRecursion (λ (p : Point). OnEarth p.place) points

-- what an accepted input says of an entity, by recursion on its lists
record IsGood (e : Entity) : Type 0 where
  id : (1 ≤ id_of e) × (id_of e < 2 ^ 63)
  tags : AreUtf8 (tags_of e)
  place_is : IfSome (as_node e) (λ n. OnEarth n.place)

values-utf8 : (tags : Tags) → AreTexts tags → AreUtf8 tags
values-utf8 tags all =
    all-weaker (λ (t : Tag). (is_utf8 t.0 ≡ true) × (is_utf8 t.1 ≡ true)) (λ (t : Tag). is_utf8 t.1 ≡ true) tags
    (λ t h. h.1)
    (recursion_from_All (λ (t : Tag). (is_utf8 t.0 ≡ true) × (is_utf8 t.1 ≡ true)) tags all)

good-of : (e : Entity) → IsAccepted e → IsGood e
good-of (node n) h = let parts = h.parts in
    record { id = (h.least, h.most); tags = values-utf8 n.tags parts.1; place_is = parts.0 }
good-of (way w) h = let parts = h.parts in
    record { id = (h.least, h.most); tags = values-utf8 w.tags parts.1; place_is = tt }
good-of (relation r) h = let parts = h.parts in
    record { id = (h.least, h.most); tags = values-utf8 r.tags parts.1; place_is = tt }

all-good : (entities : List Entity) → All IsAccepted entities → AllByRecursion IsGood entities
all-good entities all = all-weaker IsAccepted IsGood entities good-of (recursion_from_All IsAccepted entities all)

nodes-good : (entities : List Entity) → AllByRecursion IsGood entities
    → AllByRecursion (λ (n : Node). OnEarth n.place) (nodes_of entities)
nodes-good entities all =
    all-filter_map IsGood (λ (n : Node). OnEarth n.place) as_node entities all
    (λ e n good same. subst (λ o. IfSome o (λ (n : Node). OnEarth n.place)) same good.place_is)

kinds-good : {N : Type 0} (pick : Entity → Option N) (back : N → Entity) (entities : List Entity)
    → ((e : Entity) (n : N) → pick e ≡ Some n → e ≡ back n) → AllByRecursion IsGood entities
    → AllByRecursion IsGood (map back (filter_map pick entities))
kinds-good pick back entities same all =
    all-map IsGood back (filter_map pick entities)
    (all-filter_map IsGood (λ n. IsGood (back n)) pick entities all (λ e n good h. subst IsGood (same e n h) good))

node-back : (e : Entity) (n : Node) → as_node e ≡ Some n → e ≡ node n
node-back (node m) n h = ap node (same_Some m n h)
node-back (way w) n h = absurd (cc h)
node-back (relation r) n h = absurd (cc h)

way-back : (e : Entity) (w : Way) → as_way e ≡ Some w → e ≡ way w
way-back (node m) w h = absurd (cc h)
way-back (way v) w h = ap way (same_Some v w h)
way-back (relation r) w h = absurd (cc h)

relation-back : (e : Entity) (r : Relation) → as_relation e ≡ Some r → e ≡ relation r
relation-back (node m) r h = absurd (cc h)
relation-back (way w) r h = absurd (cc h)
relation-back (relation s) r h = ap relation (same_Some s r h)

by_kind-good : (entities : List Entity) → AllByRecursion IsGood entities → AllByRecursion IsGood (by_kind entities)
by_kind-good entities all =
    all-append IsGood (map node (nodes_of entities) ++ map way (ways_of entities))
    (map relation (relations_of entities))
    (all-append IsGood (map node (nodes_of entities)) (map way (ways_of entities))
    (kinds-good as_node node entities node-back all) (kinds-good as_way way entities way-back all))
    (kinds-good as_relation relation entities relation-back all)

-- the points of a way
points-good : (entities : List Entity) (w : Way) → AllByRecursion IsGood entities → AreOnEarth (way_points entities w)
unfolding way_points
points-good entities w all =
    all-filter_map (λ ref. Unit {0}) (λ (p : Point). OnEarth p.place)
    (λ ref. option_map point_of (node_named entities ref)) w.refs (any-all w.refs) (λ ref p u h. of_ref ref p h)
  where
    of_ref : (ref : ℤ) (p : Point) → option_map point_of (node_named entities ref) ≡ Some p → OnEarth p.place
    of_ref ref p h = by_node (node_named entities ref) refl h
      where
        by_node : (o : Option Node) → node_named entities ref ≡ o → option_map point_of o ≡ Some p → OnEarth p.place
        by_node None same h = absurd (cc h)
        by_node (Some n) same h =
            subst (λ (p : Point). OnEarth p.place) (same_Some (point_of n) p h)
            (find-of (λ (n : Node). OnEarth n.place) (λ n. names ref n.id) (nodes_of entities) n
            (nodes-good entities all) same)

part-good : (role : Role) (points : List Point) (p : Part) → AreOnEarth points → part_of role points ≡ Some p
    → AreOnEarth p.points
part-good role points p good e = by_test (cases_Bool (nat_le 2 (length points)))
  where
    by_test : (nat_le 2 (length points) ≡ true) ⊎ (nat_le 2 (length points) ≡ false) → AreOnEarth p.points
    by_test (inl two) =
        subst (λ (q : Part). AreOnEarth q.points)
        (same_Some (record { role = role; points = points }) p (rw two at e)) good
    by_test (inr few) = absurd (cc (rw few at e))

member-good : (entities : List Entity) (m : Member) (p : Part) → AllByRecursion IsGood entities
    → member_part entities m ≡ Some p → AreOnEarth p.points
unfolding member_part
member-good entities m p all e = by_role (role_of m.role) (member_way entities m) e
  where
    by_role : (r : Option Role) (w : Option Way)
        → option_and_then (λ role. option_and_then (λ w. part_of role (way_points entities w)) w) r ≡ Some p
        → AreOnEarth p.points
    by_role None w e = absurd (cc e)
    by_role (Some role) None e = absurd (cc e)
    by_role (Some role) (Some w) e = part-good role (way_points entities w) p (points-good entities w all) e

abbrev AreGoodParts : List Part → Type 0
AreGoodParts all = AllByRecursion (λ (p : Part). AreOnEarth p.points) all

parts-good : (entities : List Entity) (r : Relation) → AllByRecursion IsGood entities
    → AreGoodParts (relation_parts entities r)
unfolding relation_parts
parts-good entities r all =
    all-filter_map (λ m. Unit {0}) (λ (p : Part). AreOnEarth p.points) (member_part entities) r.members
    (any-all r.members) (λ m p u e. member-good entities m p all e)

abbrev IsGoodGeometry : Geometry → Type 0
IsGoodGeometry (place p) = OnEarth p
IsGoodGeometry (line points) = AreOnEarth points
IsGoodGeometry (parts all) = AreGoodParts all

geometry-good : (entities : List Entity) (e : Entity) → IsGood e → AllByRecursion IsGood entities
    → IsGoodGeometry (geometry_of entities e)
unfolding geometry_of
geometry-good entities (node n) good all = good.place_is
geometry-good entities (way w) good all = points-good entities w all
geometry-good entities (relation r) good all = parts-good entities r all

-- ---- rings

all-drop : {X : Type 0} (P : X → Type 0) (n : ℕ) (xs : List X) → AllByRecursion P xs → AllByRecursion P (drop n xs)
all-drop P zero xs all = all
all-drop P (suc n) [] all = tt
all-drop P (suc n) (x ∷ xs) all = all-drop P n xs all.1

all-reverse : {X : Type 0} (P : X → Type 0) (xs : List X) → AllByRecursion P xs → AllByRecursion P (reverse xs)
all-reverse P [] all = tt
all-reverse P (x ∷ xs) all =
    subst (AllByRecursion P) (sym (reverse-append (x ∷ []) xs))
    (all-append P (reverse xs) (x ∷ []) (all-reverse P xs all.1) (all.0, tt))

abbrev AreGoodPieces : List Piece → Type 0
AreGoodPieces pieces = AllByRecursion (λ (p : Piece). AreOnEarth p.points) pieces

-- rings whose points are on the earth, where there are rings
abbrev AreGoodRings : Joined → Type 0
AreGoodRings (Ok found) = AllByRecursion AreOnEarth found
AreGoodRings (Err start) = Unit {0}

with-ring : (ring : List Point) (outcome : Joined) → AreOnEarth ring → AreGoodRings outcome
    → AreGoodRings (and_then_rings ring outcome)
with-ring ring (Ok found) here good = (here, good)
with-ring ring (Err start) here good = tt

either-way : (b : Bool) (points : List Point) → AreOnEarth points → AreOnEarth (cond b points (reverse points))
either-way true points good = good
either-way false points good = all-reverse (λ (p : Point). OnEarth p.place) points good

extended-good : (ring : Begun) (part : Piece) → AreOnEarth ring.points → AreOnEarth part.points
    → AreOnEarth (extended ring part).points
extended-good ring part here good =
    all-append (λ (p : Point). OnEarth p.place) ring.points (added (last_node ring.points) part) here
    (all-drop (λ (p : Point). OnEarth p.place) 1
    (cond (first_node part.points == last_node ring.points) part.points (reverse part.points))
    (either-way (first_node part.points == last_node ring.points) part.points good))

split-good : (before : List Piece) (part : Piece) (after : List Piece) → AreGoodPieces (before ++ part ∷ after)
    → AreOnEarth part.points × AreGoodPieces (before ++ after)
split-good [] part after h = (h.0, h.1)
split-good (q ∷ before) part after h = let more = split-good before part after h.1 in (more.0, (h.0, more.1))

by_taking : (ring : Begun) (unused rest : List Piece) (part : Piece) (outcome : Joined)
    → TakesFirst (last_node ring.points) unused part rest → AreOnEarth ring.points → AreGoodPieces unused
    → (AreOnEarth (extended ring part).points → AreGoodPieces rest → AreGoodRings outcome) → AreGoodRings outcome
by_taking ring unused rest part outcome (before, after, whole, others, fit, none) here good more =
    let parts = split-good before part after (subst AreGoodPieces whole good) in
    more (extended-good ring part here parts.0) (subst AreGoodPieces (sym others) parts.1)

mutual
  joins-good : {unused : List Piece} {outcome : Joined} → Joins unused outcome → AreGoodPieces unused
      → AreGoodRings outcome
  joins-good finished good = tt
  joins-good (starts {part} {unused} {outcome} g) good = grows-good g good.0 good.1

  grows-good : {ring : Begun} {unused : List Piece} {outcome : Joined} → Grows ring unused outcome
      → AreOnEarth ring.points → AreGoodPieces unused → AreGoodRings outcome
  grows-good (closes {ring} {unused} {outcome} closed j) here good =
      with-ring ring.points outcome here (joins-good j good)
  grows-good (adds {ring} {unused} {rest} {part} {outcome} ajar takes g) here good =
      by_taking ring unused rest part outcome takes here good (grows-good g)
  grows-good (stays_open {ring} {unused} ajar none) here good = tt

pieces-good : (role : Role) (all : List Part) → AreGoodParts all → AreGoodPieces (pieces_of role all)
pieces-good role all good =
    all-map (λ (p : Piece). AreOnEarth p.points) (λ (p : ℕ × Part). record { number = p.0; points = p.1.points })
    (filter (λ (p : ℕ × Part). has_role role p.1) (enumerate_from 0 all))
    (all-filter (λ (p : ℕ × Part). AreOnEarth p.1.points) (λ (p : ℕ × Part). has_role role p.1) (enumerate_from 0 all)
    (all-items (λ (p : Part). AreOnEarth p.points) 0 all good))

abbrev AreGoodBlocks : List JoinedBlock → Type 0
AreGoodBlocks found = AllByRecursion (λ (block : JoinedBlock). AllByRecursion AreOnEarth block) found

blocks-good : (outer inner : List (List Point)) → AllByRecursion AreOnEarth outer → AllByRecursion AreOnEarth inner
    → AreGoodBlocks (blocks_of outer inner)
unfolding blocks_of
blocks-good [] inner os is = tt
blocks-good (o ∷ outer) inner os is = (
  (os.0, all-filter AreOnEarth (begins_inside o) inner is),
  blocks-good outer (filter (λ ring. not (begins_inside o ring)) inner) os.1
      (all-filter AreOnEarth (λ ring. not (begins_inside o ring)) inner is),
)

joined-good : (o i : Joined) (found : List JoinedBlock) → AreGoodRings o → AreGoodRings i
    → blocks_joined o i ≡ Ok found → AreGoodBlocks found
joined-good (Err start) i found os is e = absurd (cc e)
joined-good (Ok os) (Err start) found go gi e = absurd (cc e)
joined-good (Ok os) (Ok is) found go gi e =
    subst AreGoodBlocks (ok_is (blocks_of os is) found e) (blocks-good os is go gi)

relation-good : (all : List Part) (found : List JoinedBlock) → AreGoodParts all → relation_blocks all ≡ Ok found
    → AreGoodBlocks found
relation-good all found good e = by_outer (pieces_of Role.Outer all) refl
  where
    by_outer : (outer : List Piece) → pieces_of Role.Outer all ≡ outer → AreGoodBlocks found
    by_outer [] same = absurd (cc (sym (relation_blocks-none all same) ∙ e))
    by_outer (first ∷ outer) same =
        joined-good (rings (first ∷ outer)) (rings (pieces_of Role.Inner all)) found
        (joins-good (rings-joins (first ∷ outer)) (subst AreGoodPieces same (pieces-good Role.Outer all good)))
        (joins-good (rings-joins (pieces_of Role.Inner all)) (pieces-good Role.Inner all good))
        (sym (relation_blocks-some all first outer same) ∙ e)

-- ---- shapes and features

ring-places : (ring : List Point) → AreOnEarth ring → AllByRecursion OnEarth (places ring)
ring-places ring good = all-map OnEarth (λ (p : Point). p.place) ring good

drawn-good : (found : List JoinedBlock) → AreGoodBlocks found → AllPlaces OnEarth (drawn_blocks found)
drawn-good found good =
    all-map (λ (block : Block). AllByRecursion (λ ring. AllByRecursion OnEarth ring) block) (map places) found
    (all-weaker (λ (block : JoinedBlock). AllByRecursion AreOnEarth block)
    (λ block. AllByRecursion (λ ring. AllByRecursion OnEarth ring) (map places block)) found
    (λ block h. all-map (λ ring. AllByRecursion OnEarth ring) places block
    (all-weaker AreOnEarth (λ ring. AllByRecursion OnEarth (places ring)) block ring-places h)) good)

shape-good : (g : Geometry) (s : Shape) → IsGoodGeometry g → shape_of g ≡ Some s → AllPlaces OnEarth s
shape-good (place p) s good e = subst (AllPlaces OnEarth) (same_Some (point p) s e) good
shape-good (line points) s good e = by_test (cases_Bool (nat_le 2 (length points)))
  where
    by_test : (nat_le 2 (length points) ≡ true) ⊎ (nat_le 2 (length points) ≡ false) → AllPlaces OnEarth s
    by_test (inl two) =
        subst (AllPlaces OnEarth) (same_Some (drawn_blocks ((points ∷ []) ∷ [])) s (rw two at e))
        (drawn-good ((points ∷ []) ∷ []) ((good, tt), tt))
    by_test (inr few) = absurd (cc (rw few at e))
shape-good (parts all) s good e = by_blocks (relation_blocks all) refl e
  where
    by_blocks : (r : Result (List JoinedBlock) RingFault) → relation_blocks all ≡ r → shape_of_blocks r ≡ Some s
        → AllPlaces OnEarth s
    by_blocks (Err why) same h = absurd (cc h)
    by_blocks (Ok found) same h =
        subst (AllPlaces OnEarth) (same_Some (drawn_blocks found) s h)
        (drawn-good found (relation-good all found good same))

-- what holds of a candidate of an accepted input
record IsGoodCandidate (c : Candidate) : Type 0 where
  id : (1 ≤ c.description.id) × (c.description.id < 2 ^ 63)
  name : IfSome c.description.name IsUtf8Text
  house : IfSome c.description.house IsUtf8Text
  reference : IfSome c.description.reference IsUtf8Text
  kept : AllByRecursion (λ (k : Kept). IsKeptUtf8 k.value) c.description.choice.tags
  geometry : IsGoodGeometry c.geometry

described-good : (e : Entity) (chosen : Choice) (mapping : Mapping) (geometry : Geometry) → IsGood e
    → choice (entries_for mapping (kind_of e)) (tags_of e) ≡ Some chosen → IsGoodGeometry geometry
    → IsGoodCandidate (record { description = described e chosen; geometry = geometry })
described-good e chosen mapping geometry good same drawn = record {
  id = good.id;
  name = text-utf8 (codes "name") (tags_of e) good.tags;
  house = text-utf8 (codes "addr:housenumber") (tags_of e) good.tags;
  reference = reference-utf8 (kind_of e) (tags_of e) good.tags;
  kept = choice-utf8 (entries_for mapping (kind_of e)) (tags_of e) chosen good.tags same;
  geometry = drawn;
}

candidate-good : (mapping : Mapping) (entities : List Entity) (e : Entity) (c : Candidate)
    → AllByRecursion IsGood entities → IsGood e → candidate_of mapping entities e ≡ Some c → IsGoodCandidate c
unfolding description
candidate-good mapping entities e c all good h = by_test (may_be_shown e) h
  where
    drawn : Description → Candidate
    drawn d = record { description = d; geometry = geometry_of entities e }

    by_choice : (o : Option Choice) → choice (entries_for mapping (kind_of e)) (tags_of e) ≡ o
        → option_map drawn (option_map (described e) o) ≡ Some c → IsGoodCandidate c
    by_choice None same h = absurd (cc h)
    by_choice (Some chosen) same h =
        subst IsGoodCandidate (same_Some (drawn (described e chosen)) c h)
        (described-good e chosen mapping (geometry_of entities e) good same (geometry-good entities e good all))

    by_test : (b : Bool)
        → option_map drawn
        (cond b (option_map (described e) (choice (entries_for mapping (kind_of e)) (tags_of e))) None) ≡ Some c
        → IsGoodCandidate c
    by_test true h = by_choice (choice (entries_for mapping (kind_of e)) (tags_of e)) refl h
    by_test false h = absurd (cc h)

feature-good : (c : Candidate) (p : Candidate × Shape) → IsGoodCandidate c → shaped c ≡ Some p
    → IsOfInput (feature_of p)
unfolding shape
feature-good c p good e = by_shape (shape_of c.geometry) refl e
  where
    with_shape : Shape → Candidate × Shape
    with_shape s = (c, s)

    by_shape : (o : Option Shape) → shape_of c.geometry ≡ o → option_map with_shape o ≡ Some p
        → IsOfInput (feature_of p)
    by_shape None same h = absurd (cc h)
    by_shape (Some s) same h =
        subst (λ (p : Candidate × Shape). IsOfInput (feature_of p)) (same_Some (with_shape s) p h)
        (record {
          id = good.id;
          places = shape-good c.geometry s good.geometry same;
          name = good.name;
          house =
              good.house;
          reference = good.reference;
          kept = good.kept;
        })

pub features-of_input : (mapping : Mapping) (entities : List Entity) → All IsAccepted entities
    → AllByRecursion IsOfInput (features mapping entities)
unfolding features candidates
features-of_input mapping entities accepted =
    let all = all-good entities accepted in
    all-map IsOfInput feature_of (filter_map shaped (filter_map (candidate_of mapping entities) (by_kind entities)))
    (all-filter_map IsGoodCandidate (λ p. IsOfInput (feature_of p)) shaped
    (filter_map (candidate_of mapping entities) (by_kind entities))
    (all-filter_map IsGood IsGoodCandidate (candidate_of mapping entities) (by_kind entities)
    (by_kind-good entities all) (λ e c good h. candidate-good mapping entities e c all good h))
    (λ c p good h. feature-good c p good h))

pub ruleset input_laws = (features-of_input)
