-- One entity more was put to the parts of a store, or the store failed at it.
use Rattle.std.proofs.Common.{◌≡◌, ◌∙◌, ◌+◌, ◌≤◌, ◌<◌, ◌^◌, ℕ, List, [], ◌∷◌, ◌++◌, refl, sym, subst, arith}
use Rattle.mf_edge.specs.Device.{CountsOne}
use Rattle.mf_edge.specs.Spill.{SpillState}
use Rattle.osm_model.specs.Entities.{Entity, node, way, relation}
use Rattle.extract_pass.specs.EntitySizes.{entity_size}
use Rattle.extract_pass.specs.Counting.{counts_of}
use Rattle.spill_parts.specs.Parts.{HasJust}
use Rattle.spill_parts.proofs.Kept.{same_trans}
use Rattle.mf_ingest.specs.Gathered.{gathered_pieces, HasPut, HasFew, HaveGrown, KeepsStore, gathered_rows, no_rows}
use Rattle.mf_ingest.specs.Gathered.{most_bytes}
use Rattle.mf_ingest.specs.Ingesting.{most_of, KeepsIngest, HasIngested, HasFailed}
use Rattle.mf_ingest.specs.declared.ingester.Ingester.{Ingester}
use Rattle.mf_ingest.proofs.Composed.{none-put, none-grown, grown-more, space-left}
use Rattle.mf_ingest.proofs.Handing.{put-append}

-- an entity of a block has few refs or members
pub has-few : (e : Entity) (n : ℕ) → entity_size e ≤ n → n < 2 ^ 32 → HasFew e
has-few (node n) most few near = tt
has-few (way w) most few near = omega (arith, few, near)
has-few (relation r) most few near = omega (arith, few, near)

-- the entities so far, and one more
most-more : (before : List Entity) (e : Entity) → most_of (before ++ e ∷ []) ≡ most_of before + most_bytes e
most-more [] e = omega arith
most-more (x ∷ before) e = let more = most-more before e in omega (arith, more)

-- What putting an entity of a mapping does to the parts and the store, whatever is answered.
pub record PutsOne {P : Type 0} (state : P → SpillState) (old new : Ingester P) (e : Entity) : Type 0 where
  pub mapping : new.mapping.now ≡ old.mapping.now
  pub reference : new.spill.ghost_name ≡ old.spill.ghost_name
  pub kept : KeepsStore (most_bytes e) old.parts (state old.spill.now) (state new.spill.now)

keeps-more : {P : Type 0} (state : P → SpillState) (first old new : Ingester P) (before : List Entity) (e : Entity)
    → HasIngested state first old before → PutsOne state old new e → KeepsIngest state first new (before ++ e ∷ [])
keeps-more state first old new before e has one = record {
  same_mapping = one.mapping ∙ has.kept.same_mapping;
  same_reference = one.reference ∙ has.kept.same_reference;
  same = same_trans has.kept.same one.kept.same;
  count = one.kept.count ∙ has.kept.count;
  within = λ few.
      one.kept.within (space-left has.empty has.grown (omega (arith, few, most-more before e)))
      ∙ has.kept.within (omega (arith, few, most-more before e));
}

pub ingests-more : {P : Type 0} (state : P → SpillState) (first old new : Ingester P) (before : List Entity) (e : Entity)
    → HasIngested state first old before → PutsOne state old new e
    → HasPut old.mapping.now (e ∷ []) old.parts new.parts → HaveGrown (most_bytes e) old.parts new.parts
    → new.counts ≡ counts_of (before ++ e ∷ []) → HasJust (gathered_pieces new.parts) (state new.spill.now)
    → (state new.spill.now).faults ≡ (state old.spill.now).faults → HasIngested state first new (before ++ e ∷ [])
ingests-more state first old new before e has one put grown counts just same = record {
  kept = keeps-more state first old new before e has one;
  empty = has.empty;
  put = put-append first.mapping.now has.put
      (subst (λ m. HasPut m (e ∷ []) old.parts new.parts) has.kept.same_mapping put);
  grown = subst (λ n. HaveGrown n first.parts new.parts) (sym (most-more before e)) (grown-more has.grown grown);
  counts = counts;
  just = just;
  same_faults = same ∙ has.same_faults;
}

pub fails-at : {P : Type 0} (state : P → SpillState) (first old new : Ingester P) (before : List Entity) (e : Entity)
    → HasIngested state first old before → PutsOne state old new e
    → CountsOne (state old.spill.now).faults (state new.spill.now).faults → HasFailed state first new before e
fails-at state first old new before e has one failed = record {
  kept = keeps-more state first old new before e has one;
  failed = subst (λ n. CountsOne n (state new.spill.now).faults) has.same_faults failed;
}

-- before the first entity
pub ingests-none : {P : Type 0} (state : P → SpillState) (first : Ingester P) → gathered_rows first.parts ≡ no_rows
    → first.counts ≡ counts_of [] → HasJust (gathered_pieces first.parts) (state first.spill.now)
    → HasIngested state first first []
ingests-none state first empty counts just = record {
  kept = record {
    same_mapping = refl;
    same_reference = refl;
    same = record { name = refl; started = refl; tells = refl };
    count = refl;
    within = λ few. refl;
  };
  empty = empty;
  put = none-put first.mapping.now first.parts;
  grown = none-grown first.parts;
  counts = counts;
  just = just;
  same_faults = refl;
}
