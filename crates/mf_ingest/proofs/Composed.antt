-- What was put of all entities so far, from empty parts on.
use Rattle.std.proofs.Common.{◌≡◌, ◌≤◌, ◌+◌, ℕ, List, [], length, sym, ap, ◌∙◌, subst, refl, arith}
use Rattle.mf_edge.specs.Spill.{part_limit}
use Rattle.osm_model.specs.Entities.{Entity}
use Rattle.feature_model.specs.Mapping.{Mapping}
use Rattle.spill_parts.specs.Handed.{SixParts, AreRowsOf}
use Rattle.mf_ingest.specs.Gathered.{Gathered, gathered_rows, rows_behind, no_rows, HasPut, HaveGrown, HaveSpace}
use Rattle.mf_ingest.proofs.Handing.{no-candidates}
use Rattle.mf_ingest.proofs.Gatherings.{as-before, all-behind}

module _ (mapping : Mapping) where
  -- before the first entity
  pub none-put : (g : Gathered) → HasPut mapping [] g g
  none-put g = record {
    more = no_rows;
    rows = record {
      nodes_are = refl;
      refs_are = refl;
      members_are = refl;
      node_candidates = no-candidates mapping;
      way_candidates = no-candidates mapping;
      relation_candidates = no-candidates mapping;
    };
    behind = all-behind g g no_rows (as-before g.places.rows) (as-before g.refs.rows) (as-before g.members.rows)
        (as-before g.node_units.rows) (as-before g.way_units.rows) (as-before g.relation_units.rows);
  }

  -- behind the last
  pub all-put : {entities : List Entity} {first now : Gathered} → gathered_rows first ≡ no_rows
      → HasPut mapping entities first now → AreRowsOf mapping entities (gathered_rows now)
  all-put {entities} none put = subst (AreRowsOf mapping entities)
      (sym (put.behind ∙ ap (λ (rows : SixParts). rows_behind rows put.more) none)) put.rows

-- ---- how much was put

pub none-grown : (g : Gathered) → HaveGrown 0 g g
none-grown g = record {
  places = omega arith;
  refs = omega arith;
  members = omega arith;
  node_units = omega arith;
  way_units = omega arith;
  relation_units = omega arith;
}

pub grown-more : {a b : ℕ} {first now next : Gathered} → HaveGrown a first now → HaveGrown b now next
    → HaveGrown (a + b) first next
grown-more {a} {b} {first} {now} {next} before here = record {
  places = omega (arith, before.places, here.places);
  refs = omega (arith, before.refs, here.refs);
  members = omega (arith, before.members, here.members);
  node_units = omega (arith, before.node_units, here.node_units);
  way_units = omega (arith, before.way_units, here.way_units);
  relation_units = omega (arith, before.relation_units, here.relation_units);
}

-- parts that were empty, and have grown by so many bytes, have space for so many more
pub space-left : {a b : ℕ} {first now : Gathered} → gathered_rows first ≡ no_rows → HaveGrown a first now
    → a + b ≤ part_limit → HaveSpace b now
space-left {a} {b} {first} {now} none grown few = record {
  places = omega (arith, grown.places, ap (λ (s : SixParts). length s.places) none);
  refs = omega (arith, grown.refs, ap (λ (s : SixParts). length s.refs) none);
  members = omega (arith, grown.members, ap (λ (s : SixParts). length s.members) none);
  node_units = omega (arith, grown.node_units, ap (λ (s : SixParts). length s.node_units) none);
  way_units = omega (arith, grown.way_units, ap (λ (s : SixParts). length s.way_units) none);
  relation_units = omega (arith, grown.relation_units, ap (λ (s : SixParts). length s.relation_units) none);
}
