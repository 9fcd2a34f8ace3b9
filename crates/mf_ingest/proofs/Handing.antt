-- The rows of entities stand one behind another.
use Rattle.std.proofs.Common.{◌≡◌, List, [], ◌∷◌, ◌++◌, map, Option, Some, None, refl, sym, ap, ◌∙◌}
use Rattle.std.proofs.Common.{subst, append_assoc}
use Rattle.std.specs.Prelude.{filter_map, flat_map, is_some}
use Rattle.std.proofs.lemmas.List.{append-nil, map-append}
use Rattle.std.proofs.lemmas.Grind.{flat_map-append}
use Rattle.std.proofs.lemmas.List.Elements.{filter-append, filter_map-append}
use Rattle.osm_model.specs.Entities.{Entity, Node, Way, Relation, node, way, relation, nodes_of, ways_of, relations_of}
use Rattle.osm_model.specs.Entities.{as_node, as_way, as_relation}
use Rattle.feature_model.specs.Mapping.{Mapping}
use Rattle.feature_model.specs.Descriptions.{Description, description}
use Rattle.mf_rows.specs.Records.{Record}
use Rattle.mf_rows.specs.declared.kinds.FeatureRow.{FeatureRow}
use Rattle.spill_parts.specs.Handed.{node_row_of, ref_rows, member_rows, candidate_relations, candidates_in}
use Rattle.spill_parts.specs.Handed.{IsRecordOf, AreRecordsOf, record_rows, AreCandidates, SixParts, AreRowsOf}
use Rattle.mf_ingest.specs.Gathered.{Gathered, gathered_rows, rows_behind, no_rows, HasPut}

module _ (mapping : Mapping) where
  -- ---- candidates

  records-append : (a b : List Entity) (r q : List Record) → AreRecordsOf mapping a r → AreRecordsOf mapping b q
      → AreRecordsOf mapping (a ++ b) (r ++ q)
  records-append [] b [] q first second = second
  records-append [] b (r ∷ rs) q first second = absurd first
  records-append (e ∷ a) b [] q first second = absurd first
  records-append (e ∷ a) b (r ∷ rs) q first second = (first.0, records-append a b rs q first.1 second)

  candidates-append : {a b : List Entity} {rows more : List FeatureRow} → AreCandidates mapping a rows
      → AreCandidates mapping b more → AreCandidates mapping (a ++ b) (rows ++ more)
  candidates-append {a} {b} {rows} {more} first second =
      let both : candidates_in mapping (a ++ b) ≡ candidates_in mapping a ++ candidates_in mapping b =
      filter-append (λ e. is_some (description mapping e)) a b in
      record {
        records = first.records ++ second.records;
        told = subst (λ es. AreRecordsOf mapping es (first.records ++ second.records)) (sym both)
            (records-append (candidates_in mapping a) (candidates_in mapping b) first.records second.records first.told
            second.told);
        spelled = ap (λ rs. rs ++ more) first.spelled ∙ ap (λ rs. flat_map record_rows first.records ++ rs) second.spelled
            ∙ sym (flat_map-append record_rows first.records second.records);
      }

  pub no-candidates : AreCandidates mapping [] []
  no-candidates = record { records = []; told = tt; spelled = refl }

  pub one-candidate : (e : Entity) (r : Record) → IsRecordOf mapping e r
      → AreCandidates mapping (e ∷ []) (record_rows r)
  one-candidate e r is =
      let only : candidates_in mapping (e ∷ []) ≡ e ∷ [] = rw is.described refl in
      record {
        records = r ∷ [];
        told = subst (λ es. AreRecordsOf mapping es (r ∷ [])) (sym only) (is, tt);
        spelled = sym (append-nil (record_rows r));
      }

  pub none-candidate : (e : Entity) → description mapping e ≡ None → AreCandidates mapping (e ∷ []) []
  none-candidate e none =
      let not_one : candidates_in mapping (e ∷ []) ≡ [] = rw none refl in
      record { records = []; told = subst (λ es. AreRecordsOf mapping es []) (sym not_one) tt; spelled = refl }

  -- ---- rows of one entity

  pub node-rows : (n : Node) (units : List FeatureRow) → AreCandidates mapping (node n ∷ []) units
      → AreRowsOf mapping (node n ∷ []) (record no_rows { places = node_row_of n ∷ []; node_units = units })
  node-rows n units is = record {
    nodes_are = refl;
    refs_are = refl;
    members_are = refl;
    node_candidates = is;
    way_candidates = no-candidates;
    relation_candidates = no-candidates;
  }

  pub way-rows : (w : Way) (units : List FeatureRow) → AreCandidates mapping (way w ∷ []) units
      → AreRowsOf mapping (way w ∷ []) (record no_rows { refs = ref_rows w; way_units = units })
  way-rows w units is = record {
    nodes_are = refl;
    refs_are = sym (append-nil (ref_rows w));
    members_are = refl;
    node_candidates = no-candidates;
    way_candidates = is;
    relation_candidates = no-candidates;
  }

  pub relation-rows : (r : Relation) (d : Description) (units : List FeatureRow) → description mapping (relation r) ≡ Some d
      → AreCandidates mapping (relation r ∷ []) units
      → AreRowsOf mapping (relation r ∷ []) (record no_rows { members = member_rows r; relation_units = units })
  relation-rows r d units some is =
      let only : candidate_relations mapping (r ∷ []) ≡ r ∷ [] = rw some refl in
      record {
        nodes_are = refl;
        refs_are = refl;
        members_are = sym (ap (flat_map member_rows) only ∙ append-nil (member_rows r));
        node_candidates = no-candidates;
        way_candidates = no-candidates;
        relation_candidates = is;
      }

  pub no-relation-rows : (r : Relation) → description mapping (relation r) ≡ None
      → AreRowsOf mapping (relation r ∷ []) no_rows
  no-relation-rows r none =
      let not_one : candidate_relations mapping (r ∷ []) ≡ [] = rw none refl in
      record {
        nodes_are = refl;
        refs_are = refl;
        members_are = sym (ap (flat_map member_rows) not_one);
        node_candidates = no-candidates;
        way_candidates = no-candidates;
        relation_candidates = none-candidate (relation r) none;
      }

  -- ---- rows of entities behind those of others

  kinds-append : {N : Type 0} (pick : Entity → Option N) (a b : List Entity)
      → filter_map pick (a ++ b) ≡ filter_map pick a ++ filter_map pick b
  kinds-append pick a b = filter_map-append pick a b

  units-append : {N : Type 0} (pick : Entity → Option N) (back : N → Entity) (a b : List Entity)
      (rows more : List FeatureRow) → AreCandidates mapping (map back (filter_map pick a)) rows
      → AreCandidates mapping (map back (filter_map pick b)) more
      → AreCandidates mapping (map back (filter_map pick (a ++ b))) (rows ++ more)
  units-append pick back a b rows more first second =
      subst (λ es. AreCandidates mapping es (rows ++ more))
      (sym (ap (map back) (kinds-append pick a b) ∙ map-append back (filter_map pick a) (filter_map pick b)))
      (candidates-append first second)

  pub rows-append : (a b : List Entity) (rows more : SixParts) → AreRowsOf mapping a rows → AreRowsOf mapping b more
      → AreRowsOf mapping (a ++ b) (rows_behind rows more)
  rows-append a b rows more first second = record {
    nodes_are = rw (first.nodes_are, second.nodes_are, kinds-append as_node a b)
        (sym (map-append node_row_of (nodes_of a) (nodes_of b)));
    refs_are = rw (first.refs_are, second.refs_are, kinds-append as_way a b)
        (sym (flat_map-append ref_rows (ways_of a) (ways_of b)));
    members_are = rw (
      first.members_are,
      second.members_are,
      kinds-append as_relation a b,
      filter-append (λ r. is_some (description mapping (relation r))) (relations_of a) (relations_of b),
    )
        (sym (flat_map-append member_rows (candidate_relations mapping (relations_of a))
        (candidate_relations mapping (relations_of b))));
    node_candidates = units-append as_node node a b rows.node_units more.node_units first.node_candidates
        second.node_candidates;
    way_candidates = units-append as_way way a b rows.way_units more.way_units first.way_candidates
        second.way_candidates;
    relation_candidates = units-append as_relation relation a b rows.relation_units more.relation_units
        first.relation_candidates second.relation_candidates;
  }

  -- ---- what was put

  pub put-append : {a b : List Entity} {old now new : Gathered} → HasPut mapping a old now → HasPut mapping b now new
      → HasPut mapping (a ++ b) old new
  put-append {a} {b} {old} {now} {new} first second = record {
    more = rows_behind first.more second.more;
    rows = rows-append a b first.more second.more first.rows second.rows;
    behind = second.behind ∙ ap (λ rows. rows_behind rows second.more) first.behind
        ∙ behind-assoc (gathered_rows old) first.more second.more;
  }
    where
      behind-assoc : (x y z : SixParts) → rows_behind (rows_behind x y) z ≡ rows_behind x (rows_behind y z)
      behind-assoc x y z =
          rw (
            append_assoc x.places y.places z.places,
            append_assoc x.refs y.refs z.refs,
            append_assoc x.members y.members z.members,
            append_assoc x.node_units y.node_units z.node_units,
            append_assoc x.way_units y.way_units z.way_units,
            append_assoc x.relation_units y.relation_units z.relation_units,
          ) refl
