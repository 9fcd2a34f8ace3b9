-- What an ingest tells, by what its pass over the entities tells.
use Rattle.std.proofs.Common.{◌≡◌, ◌≢◌, ◌∙◌, ◌++◌, ◌∷◌, ◌*◌, ℕ, List, [], Option, Some, None, Result, Ok, Err, refl}
use Rattle.std.proofs.Common.{sym, ap, subst, append-nil, length, arith, inl, ◌≤◌}
use Rattle.std.specs.Prelude.{IfSome, IsTrue}
use Rattle.mf_base.specs.Ranges.{is_rect}
use Rattle.mf_base.specs.declared.place.Rect.{Rect}
use Rattle.mf_edge.specs.Device.{CountsOne}
use Rattle.mf_edge.specs.Spill.{SpillState}
use Rattle.mf_edge.specs.Stream.{StreamState}
use Rattle.osm_model.specs.Entities.{Entity}
use Rattle.osm_model.specs.Input.{input_fault, input_entities, input_box}
use Rattle.osm_model.proofs.PlaceRange.{input-rect}
use Rattle.feature_model.specs.Mapping.{Mapping}
use Rattle.extract_pass.specs.declared.counts.Counts.{Counts}
use Rattle.extract_pass.specs.declared.fault.PassFault.{PassFault}
use Rattle.extract_pass.specs.declared.fault.PassFault.TheVariants as pass_fault
use Rattle.extract_pass.specs.EntityPass.{IsAccepted, WereHanded, TellsPass, TellsPassOf}
use Rattle.spill_parts.specs.Handed.{AreRowsOf, ingested_rows, ingested_pieces}
use Rattle.spill_parts.specs.declared.handed.Ingested.{Ingested}
use Rattle.mf_ingest.specs.Gathered.{gathered_rows}
use Rattle.mf_ingest.specs.Ingesting.{KeepsIngest, HasIngested, HasFailed, most_per_byte}
use Rattle.mf_ingest.specs.Ingest.{AreIngested, TellsIngest, TellsIngestOf, HasSmallParts, AreWithin, told_pass}
use Rattle.mf_ingest.specs.declared.ingest.IngestFault.TheVariants as ingest_fault
use Rattle.mf_ingest.specs.declared.ingester.Ingester.{Ingester}
use Rattle.mf_ingest.proofs.Composed.{all-put}
use Rattle.mf_ingest.proofs.InputSizes.{handed-most}

-- What was finished of a reader: its counts, its parts, and this box.
pub record IsFinished {P : Type 0} (now : Ingester P) (bounds : Option Rect) (found : Ingested) : Type 0 where
  pub counts : now.counts ≡ record { nodes = found.nodes; ways = found.ways; relations = found.relations }
  pub boxed : found.bounds ≡ bounds
  pub rows : ingested_rows found ≡ gathered_rows now.parts

-- the box of the bytes that were taken is a rectangle on the earth
pub box-rect : (mapping : Mapping) (found : Ingested) (old new : StreamState) → TellsIngest mapping old (Ok found) new
    → IfSome found.bounds (λ box. IsTrue (is_rect box))
box-rect mapping found old new h = go found.bounds h.holds.0.boxed
  where
    go : (o : Option Rect) → o ≡ input_box h.bytes → IfSome o (λ box. IsTrue (is_rect box))
    go None same = tt
    go (Some box) same = input-rect h.bytes box (sym same)

pub err-same : {A F : Type 0} (f g : F) → ◌≡◌ {A = Result A F} (Err f) (Err g) → f ≡ g
err-same f g e = cc

-- a pass of an ingester stops just where the store fails
pub stopped-is : (fault : PassFault) → told_pass fault ≡ ingest_fault.Spill → fault ≡ pass_fault.Stopped
stopped-is (pass_fault.Input fault) e = cc
stopped-is pass_fault.Stopped e = refl
stopped-is pass_fault.Read e = cc

module _ {P : Type 0} (state : P → SpillState) (first now : Ingester P) where
  ingested : (bounds : Option Rect) (found : Ingested) (bytes : List ℕ) → IsFinished now bounds found
      → IsAccepted (HasIngested state first now) bounds bytes → AreIngested first.mapping.now found bytes
  ingested bounds found bytes finished is =
      let counts = sym finished.counts ∙ is.stands.counts in record {
        sound = is.sound;
        node_count = ap (λ (c : Counts). c.nodes) counts;
        way_count = ap (λ (c : Counts). c.ways) counts;
        relation_count = ap (λ (c : Counts). c.relations) counts;
        boxed = finished.boxed ∙ sym is.boxed;
        rows = subst (AreRowsOf first.mapping.now (input_entities bytes)) (sym finished.rows)
            (all-put first.mapping.now is.stands.empty is.stands.put);
      }

  pub tells-ok : (bounds : Option Rect) (found : Ingested) (old new : StreamState) → IsFinished now bounds found
      → TellsPass (HasIngested state first now) (HasFailed state first now) old (Ok bounds) new
      → TellsIngest first.mapping.now old (Ok found) new
  tells-ok bounds found old new finished h = record {
    bytes = h.bytes;
    taken = h.taken;
    counted = h.counted;
    holds = (ingested bounds found h.bytes finished h.holds.0, h.holds.1);
  }

  pub exact-ok : (bounds : Option Rect) (found : Ingested) (all : List ℕ) → IsFinished now bounds found
      → TellsPassOf (HasIngested state first now) (HasFailed state first now) all (Ok bounds)
      → TellsIngestOf first.mapping.now all (Ok found)
  exact-ok bounds found all finished is = ingested bounds found all finished is

  pub tells-err : (fault : PassFault) (mapping : Mapping) (old new : StreamState)
      → TellsPass (HasIngested state first now) (HasFailed state first now) old (Err fault) new
      → TellsIngest mapping old (Err (told_pass fault)) new
  tells-err (pass_fault.Input fault) mapping old new h = record {
    bytes = h.bytes;
    taken = h.taken;
    counted = h.counted;
    holds = h.holds.0;
  }
  tells-err pass_fault.Stopped mapping old new h = tt
  tells-err pass_fault.Read mapping old new h = tt

  pub exact-err : (fault : PassFault) (mapping : Mapping) (all : List ℕ)
      → TellsPassOf (HasIngested state first now) (HasFailed state first now) all (Err fault)
      → TellsIngestOf mapping all (Err (told_pass fault))
  exact-err (pass_fault.Input fault) mapping all h = h.0
  exact-err pass_fault.Stopped mapping all h = tt
  exact-err pass_fault.Read mapping all h = tt

  -- ---- the store

  pub keeps : (old new : StreamState) (result : Result (Option Rect) PassFault)
      → TellsPass (HasIngested state first now) (HasFailed state first now) old result new
      → (es : List Entity) × KeepsIngest state first now es
  keeps old new (Ok bounds) h = (_, h.holds.0.stands.kept)
  keeps old new (Err (pass_fault.Input fault)) h = let (es, handed, has) = h.holds.1 in (es, has.kept)
  keeps old new (Err pass_fault.Stopped) h = let (es, e, handed, failed) = h.holds in (es ++ e ∷ [], failed.kept)
  keeps old new (Err pass_fault.Read) (mid, h) = let (es, handed, has) = h.holds in (es, has.kept)

  -- the count of faults, by what was answered
  pub faults-same : (old new : StreamState) (result : Result (Option Rect) PassFault) → result ≢ Err pass_fault.Stopped
      → TellsPass (HasIngested state first now) (HasFailed state first now) old result new
      → (state now.spill.now).faults ≡ (state first.spill.now).faults
  faults-same old new (Ok bounds) other h = h.holds.0.stands.same_faults
  faults-same old new (Err (pass_fault.Input fault)) other h =
      let (es, handed, has) = h.holds.1 in has.same_faults
  faults-same old new (Err pass_fault.Stopped) other h = absurd (other refl)
  faults-same old new (Err pass_fault.Read) other (mid, h) =
      let (es, handed, has) = h.holds in has.same_faults

  pub faults-one : (old new : StreamState)
      → TellsPass (HasIngested state first now) (HasFailed state first now) old (Err pass_fault.Stopped) new
      → CountsOne (state first.spill.now).faults (state now.spill.now).faults
  faults-one old new h = let (es, e, handed, failed) = h.holds in failed.failed

  accepted_handed : (all : List ℕ) → input_fault all ≡ None → WereHanded all (input_entities all)
  accepted_handed all sound = record {
    front = all;
    rest = [];
    whole = sym (append-nil all);
    sound = sound;
    more = [];
    told = sym (append-nil (input_entities all));
    from = inl refl;
  }

  pub within : (all : List ℕ) (result : Result (Option Rect) PassFault) → HasSmallParts all
      → TellsPassOf (HasIngested state first now) (HasFailed state first now) all result
      → (state now.spill.now).is_overrun ≡ (state first.spill.now).is_overrun
  within all (Ok bounds) small is =
      is.stands.kept.within (small (input_entities all) (accepted_handed all is.sound))
  within all (Err (pass_fault.Input fault)) small h =
      let (es, handed, has) = h.1 in has.kept.within (small es handed)
  within all (Err pass_fault.Stopped) small (es, e, handed, failed) =
      failed.kept.within (small (es ++ e ∷ []) handed)
  within all (Err pass_fault.Read) small (es, handed, has) = has.kept.within (small es handed)

  -- ---- the sizes of parts

  pieces-within : (most : ℕ) (found : Ingested) → 16 * length found.places.rows ≤ most
      → 20 * length found.refs.rows ≤ most → 21 * length found.members.rows ≤ most
      → 29 * length found.node_units.rows ≤ most → 29 * length found.way_units.rows ≤ most
      → 29 * length found.relation_units.rows ≤ most → AreWithin most (ingested_pieces found)
  pieces-within most found a b c d e f = (a, (b, (c, (d, (e, (f, tt))))))

  pub sizes-ok : (bounds : Option Rect) (found : Ingested) (all : List ℕ) → IsFinished now bounds found
      → TellsPassOf (HasIngested state first now) (HasFailed state first now) all (Ok bounds)
      → AreWithin (most_per_byte * length all) (ingested_pieces found)
  sizes-ok bounds found all finished is =
      let most = handed-most all (input_entities all) (accepted_handed all is.sound) in
      let few = is.stands.grown in
      let none = is.stands.empty in
      let same = finished.rows in
      pieces-within (most_per_byte * length all) found
      (omega (arith, most, few.places, ap (λ s. length s.places) none, ap (λ s. length s.places) same))
      (omega (arith, most, few.refs, ap (λ s. length s.refs) none, ap (λ s. length s.refs) same))
      (omega (arith, most, few.members, ap (λ s. length s.members) none, ap (λ s. length s.members) same))
      (omega (arith, most, few.node_units, ap (λ s. length s.node_units) none, ap (λ s. length s.node_units) same))
      (omega (arith, most, few.way_units, ap (λ s. length s.way_units) none, ap (λ s. length s.way_units) same))
      (omega (
        arith,
        most,
        few.relation_units,
        ap (λ s. length s.relation_units) none,
        ap (λ s. length s.relation_units) same,
      ))
