-- A compilation, by what its passes tell.
use Rattle.std.proofs.Common.{◌≡◌, ◌≢◌, ◌∙◌, ◌+◌, ◌*◌, ◌≤◌, ℕ, List, Some, Result, Ok, Err, refl, sym, ap}
use Rattle.std.proofs.Common.{subst, arith, length, true, false, inl, inr}
use Rattle.std.specs.Prelude.{IfOk, OnOk, OnErr}
use Rattle.std.specs.Result.{IsErrAnd}
use Rattle.mf_base.specs.declared.place.Rect.{Rect}
use Rattle.osm_model.specs.Input.{input_entities}
use Rattle.osm_model.specs.Entities.{Entity}
use Rattle.osm_model.specs.declared.faults.InputFault.{InputFault}
use Rattle.feature_model.specs.Mapping.{Mapping}
use Rattle.feature_model.specs.declared.fault.LimitFault.{LimitFault}
use Rattle.map_model.specs.declared.report.Report.{Report}
use Rattle.feature_model.specs.Features.{features}
use Rattle.map_model.specs.TagLists.{tag_lists}
use Rattle.map_model.specs.SubFile.{TileContent}
use Rattle.map_model.specs.MapFile.{map_file, map_of, map_of_contents, all_contents, limit_fault, job_size}
use Rattle.mf_edge.specs.Device.{SourceState, SinkState, Gained, GainedFront, CountsOne}
use Rattle.mf_edge.specs.Spill.{SpillState, SameStore, part_limit}
use Rattle.spill_parts.specs.Handed.{IsIngested}
use Rattle.spill_parts.specs.declared.handed.Ingested.{Ingested}
use Rattle.mf_layout.specs.declared.emit.EmitFault.{EmitFault}
use Rattle.mf_layout.specs.declared.emit.EmitFault.TheVariants as emit_fault
use Rattle.mf_layout.specs.SubFiles.{HoldTiles}
use Rattle.mf_layout.specs.declared.sub_files.SubFiles.{SubFiles}
use Rattle.job_words.specs.Settings.{JobSettings}
use Rattle.mf_ingest.specs.Ingesting.{most_per_byte}
use Rattle.mf_ingest.specs.Ingest.{AreIngested, HasSmallParts}
use Rattle.mf_ingest.proofs.InputSizes.{small-parts}
use Rattle.mf_compile.specs.declared.fault.Fault.{Fault}
use Rattle.mf_compile.specs.declared.fault.Fault.TheVariants as fault
use Rattle.mf_compile.specs.Faults.{emit_told}
use Rattle.mf_compile.specs.Outcomes.{job_box, outcome, extent}
use Rattle.mf_compile.specs.Gathering.{HasRead, HasReadAll, AreGathered, TellsGathered, TellsGatheredOf}
use Rattle.mf_compile.specs.LaidOut.{IsLaidOut}
use Rattle.mf_compile.specs.Runs.{Moment, moment, answer_for, HasBegun, TellsCompiled, IsBoxed, TellsInput}
use Rattle.mf_compile.specs.Runs.{IsCompiled}
use Rattle.mf_compile.proofs.Outcomes.{made-is, outcome-refused, outcome-limit, outcome-made, extent-is}

-- what was gathered of an accepted input can be handed on
pub ingested-is : (mapping : Mapping) (found : Ingested) (bytes : List ℕ) → AreIngested mapping found bytes
    → IsIngested mapping (input_entities bytes) found
ingested-is mapping found bytes h = record {
  input = record { input = bytes; accepted = h.sound; all = refl };
  node_count = h.node_count;
  way_count = h.way_count;
  relation_count = h.relation_count;
  rows = h.rows;
}

-- the same of other bytes that were read
pub read-of : {A B : List ℕ → Type 0} {old new : SourceState} → ((bytes : List ℕ) → A bytes → B bytes)
    → HasRead A old new → HasRead B old new
read-of holds h = record { bytes = h.bytes; taken = h.taken; reads = h.reads; holds = holds h.bytes h.holds }

pub read_all-of : {A B : List ℕ → Type 0} {old new : SourceState} → ((bytes : List ℕ) → A bytes → B bytes)
    → HasReadAll A old new → HasReadAll B old new
read_all-of holds h =
    record { bytes = h.bytes; taken = h.taken; reads = h.reads; holds = (holds h.bytes h.holds.0, h.holds.1) }

-- the same with a fault that was handed on
pub compiled-as : (job : JobSettings) (before after : Moment) (why : Fault) (r : Result Report Fault)
    → IsErrAnd r (λ f. f ≡ why) → IsCompiled job before after (Err why) → IsCompiled job before after r
compiled-as job before after why (Ok report) is h = absurd is
compiled-as job before after why (Err f) is h = subst (λ w. IsCompiled job before after (Err w)) (sym is) h

-- ---- where nothing was gathered

-- What is known of the store and of the counts of faults once a gathering ended.
pub record Gathers (job : JobSettings) (i j : SourceState) (s t : SpillState) (result : Result (Ingested × Rect) Fault)
    : Type 0 where
  pub told : TellsGathered job i result j
  pub exact : (all : List ℕ) → i.left ≡ Some all → TellsGatheredOf job all result
  pub read : result ≡ Err fault.Read → CountsOne i.faults j.faults
  pub same_input : result ≢ Err fault.Read → j.faults ≡ i.faults
  pub spill : result ≡ Err fault.Spill → CountsOne s.faults t.faults
  pub same_store : result ≢ Err fault.Spill → t.faults ≡ s.faults
  pub within : (all : List ℕ) → i.left ≡ Some all → HasSmallParts all → t.is_overrun ≡ false
  pub name : t.name ≡ Some job.folder
  pub tells : t.tells ≡ s.tells

module _ (job : JobSettings) (i j : SourceState) (o : SinkState) (s t : SpillState) (n : ℕ) where
  gather-told : (why : Fault) → TellsGathered job i (Err why) j
      → TellsCompiled job (moment i o s n) (Err why) (moment j o t n)
  gather-told (fault.Input why) h = h
  gather-told (fault.Limit why) h = absurd h
  gather-told fault.NoBox h = read_all-of (λ bytes e. outcome-refused job bytes fault.NoBox e) h
  gather-told fault.Read h = tt
  gather-told fault.Write h = absurd h
  gather-told fault.Spill h = inl refl

  gather-input : (why : Fault) → TellsGathered job i (Err why) j → TellsInput job i (Err why) j
  gather-input (fault.Input why) h = h
  gather-input (fault.Limit why) h = absurd h
  gather-input fault.NoBox h = h
  gather-input fault.Read h = tt
  gather-input fault.Write h = absurd h
  gather-input fault.Spill h = tt

  answer-refused : (all : List ℕ) (why : Fault) → job_box job all ≡ Err why → Err why ≡ answer_for (outcome job all)
  answer-refused all why e = sym (ap answer_for (outcome-refused job all why e))

  gather-exact : (all : List ℕ) (why : Fault) → TellsGatheredOf job all (Err why)
      → ◌≢◌ {A = Result Report Fault} (Err why) (Err fault.Read)
      → ◌≢◌ {A = Result Report Fault} (Err why) (Err fault.Spill) → Err why ≡ answer_for (outcome job all)
  gather-exact all (fault.Input why) h no_read no_spill = answer-refused all (fault.Input why) h
  gather-exact all (fault.Limit why) h no_read no_spill = absurd h
  gather-exact all fault.NoBox h no_read no_spill = answer-refused all fault.NoBox h
  gather-exact all fault.Read h no_read no_spill = absurd (no_read refl)
  gather-exact all fault.Write h no_read no_spill = absurd h
  gather-exact all fault.Spill h no_read no_spill = absurd (no_spill refl)

  gather-never : (why : Fault) → TellsGathered job i (Err why) j → why ≢ fault.Write
  gather-never (fault.Input why) h e = cc
  gather-never (fault.Limit why) h e = h
  gather-never fault.NoBox h e = cc
  gather-never fault.Read h e = cc
  gather-never fault.Write h e = h
  gather-never fault.Spill h e = cc

  err-same : {A : Type 0} (a b : Fault) → ◌≡◌ {A = Result A Fault} (Err a) (Err b) → a ≡ b
  err-same a b e = cc

  pub compiled-ungathered : (why : Fault) → Gathers job i j s t (Err why)
      → IsCompiled job (moment i o s n) (moment j o t n) (Err why)
  compiled-ungathered why g = record {
    told = λ tells. gather-told why g.told;
    accepted = gather-input why g.told;
    exact = λ all left tells no_read no_write no_spill. gather-exact all why (g.exact all left) no_read no_spill;
    faults = record {
      read = λ e. g.read (ap Err (err-same why fault.Read e));
      same_input = λ other. g.same_input (λ e. other (ap Err (err-same why fault.Read e)));
      write = λ e. absurd (gather-never why g.told (err-same why fault.Write e));
      same_output = λ other. refl;
      spill = λ e. g.spill (ap Err (err-same why fault.Spill e));
      same_store = λ other. g.same_store (λ e. other (ap Err (err-same why fault.Spill e)));
    };
    untouched = λ f e no_write no_spill. refl;
    few_steps = λ all left tells. omega arith;
    within = λ all left tells small few. g.within all left (small-parts all small);
    name = g.name;
    tells = g.tells;
  }

-- ---- where nothing was laid out

-- What is known once a layout ended, of what was gathered.
pub record LaysOut (job : JobSettings) (found : Ingested) (box : Rect) (t u : SpillState) (n m : ℕ)
    (result : Result (SubFiles × Report) Fault) : Type 0 where
  pub laid : (entities : List Entity) → IsIngested job.mapping entities found → t.tells ≡ true
      → IfOk result (λ r. IsLaidOut job box entities r.0 r.1 u)
  pub limit : (entities : List Entity) (f : LimitFault) → IsIngested job.mapping entities found → t.tells ≡ true
      → result ≡ Err (fault.Limit f) → limit_fault job.rows job.head job.mapping box entities ≡ Some f
  pub within : (entities : List Entity) → IsIngested job.mapping entities found → t.tells ≡ true
      → 39 * job_size job.head job.mapping box entities ≤ part_limit → u.is_overrun ≡ t.is_overrun
  pub few_steps : (entities : List Entity) → IsIngested job.mapping entities found → t.tells ≡ true
      → m ≤ n + 68 * job_size job.head job.mapping box entities
  pub spill : result ≡ Err fault.Spill → CountsOne t.faults u.faults
  pub same_faults : result ≢ Err fault.Spill → u.faults ≡ t.faults
  pub no_read : result ≢ Err fault.Read
  pub no_write : result ≢ Err fault.Write
  pub no_box : result ≢ Err fault.NoBox
  pub no_input : (why : InputFault) → result ≢ Err (fault.Input why)
  pub same : SameStore t u

module _ (job : JobSettings) (i j : SourceState) (o : SinkState) (s t u : SpillState) (n m : ℕ) (found : Ingested)
    (box : Rect) (g : Gathers job i j s t (Ok (found, box))) where
  ok_other : {A : Type 0} (x : A) (why : Fault) → ◌≢◌ {A = Result A Fault} (Ok x) (Err why)
  ok_other x why e = cc

  -- the entities of what was gathered can be handed on
  handed : (bytes : List ℕ) → AreGathered job found box bytes → IsIngested job.mapping (input_entities bytes) found
  handed bytes are = ingested-is job.mapping found bytes are.parts

  boxed_input : HasReadAll (IsBoxed job) i j
  boxed_input = read_all-of (λ bytes are. (box, are.boxed)) g.told

  faults_one : CountsOne t.faults u.faults → CountsOne s.faults u.faults
  faults_one one = subst (λ f. CountsOne f u.faults) (g.same_store (ok_other (found, box) fault.Spill)) one

  few : (all : List ℕ) (are : AreGathered job found box all)
      → m ≤ n + 68 * job_size job.head job.mapping box (input_entities all) → m ≤ n + 1536 * extent job all
  few all are steps = let is = extent-is job all box are.boxed in omega (arith, steps, is)

  small : (all : List ℕ) (are : AreGathered job found box all) → 64 * extent job all ≤ part_limit
      → 39 * job_size job.head job.mapping box (input_entities all) ≤ part_limit
  small all are h = let is = extent-is job all box are.boxed in omega (arith, h, is)

  module _ (why : Fault) (l : LaysOut job found box t u n m (Err why)) where
    lay-told : (w : Fault) → w ≡ why → s.tells ≡ true → TellsCompiled job (moment i o s n) (Err w) (moment j o u m)
    lay-told (fault.Input f) e tells = absurd (l.no_input f (ap Err (sym e)))
    lay-told (fault.Limit f) e tells =
        read_all-of (λ bytes are. outcome-limit job bytes box f are.boxed
        (l.limit (input_entities bytes) f (handed bytes are) (g.tells ∙ tells) (ap Err (sym e)))) g.told
    lay-told fault.NoBox e tells = absurd (l.no_box (ap Err (sym e)))
    lay-told fault.Read e tells = tt
    lay-told fault.Write e tells = absurd (l.no_write (ap Err (sym e)))
    lay-told fault.Spill e tells = inl refl

    lay-input : (w : Fault) → w ≡ why → TellsInput job i (Err w) j
    lay-input (fault.Input f) e = absurd (l.no_input f (ap Err (sym e)))
    lay-input (fault.Limit f) e = boxed_input
    lay-input fault.NoBox e = absurd (l.no_box (ap Err (sym e)))
    lay-input fault.Read e = tt
    lay-input fault.Write e = boxed_input
    lay-input fault.Spill e = tt

    lay-exact : (all : List ℕ) (w : Fault) → w ≡ why → AreGathered job found box all → s.tells ≡ true
        → ◌≢◌ {A = Result Report Fault} (Err w) (Err fault.Spill) → Err w ≡ answer_for (outcome job all)
    lay-exact all (fault.Input f) e are tells other = absurd (l.no_input f (ap Err (sym e)))
    lay-exact all (fault.Limit f) e are tells other =
        sym (ap answer_for (outcome-limit job all box f are.boxed
        (l.limit (input_entities all) f (handed all are) (g.tells ∙ tells) (ap Err (sym e)))))
    lay-exact all fault.NoBox e are tells other = absurd (l.no_box (ap Err (sym e)))
    lay-exact all fault.Read e are tells other = absurd (l.no_read (ap Err (sym e)))
    lay-exact all fault.Write e are tells other = absurd (l.no_write (ap Err (sym e)))
    lay-exact all fault.Spill e are tells other = absurd (other refl)

    again : {w : Fault} → ◌≡◌ {A = Result Report Fault} (Err why) (Err w) → ◌≡◌ {A = Result (SubFiles × Report) Fault} (Err why) (Err w)
    again e = ap Err (err_is e)
      where
        err_is : {w : Fault} → ◌≡◌ {A = Result Report Fault} (Err why) (Err w) → why ≡ w
        err_is h = cc

    pub compiled-unlaid : IsCompiled job (moment i o s n) (moment j o u m) (Err why)
    compiled-unlaid = record {
      told = λ tells. lay-told why refl tells;
      accepted = lay-input why refl;
      exact = λ all left tells no_read no_write no_spill. lay-exact all why refl (g.exact all left) tells no_spill;
      faults = record {
        read = λ e. absurd (l.no_read (again e));
        same_input = λ other. g.same_input (ok_other (found, box) fault.Read);
        write = λ e. absurd (l.no_write (again e));
        same_output = λ other. refl;
        spill = λ e. faults_one (l.spill (again e));
        same_store = λ other. l.same_faults (λ e. other (ap Err (err_of e)))
            ∙ g.same_store (ok_other (found, box) fault.Spill);
      };
      untouched = λ f e no_write no_spill. refl;
      few_steps = λ all left tells. few all (g.exact all left)
          (l.few_steps (input_entities all) (handed all (g.exact all left)) (g.tells ∙ tells));
      within = λ all left tells few_bytes few_rows.
          l.within (input_entities all) (handed all (g.exact all left)) (g.tells ∙ tells)
          (small all (g.exact all left) few_rows) ∙ g.within all left (small-parts all few_bytes);
      name = l.same.name ∙ g.name;
      tells = l.same.tells ∙ g.tells;
    }
      where
        err_of : ◌≡◌ {A = Result (SubFiles × Report) Fault} (Err why) (Err fault.Spill) → why ≡ fault.Spill
        err_of h = cc

-- ---- where a map was written, or a front of it

-- What is known once the writing of what was laid out ended.
pub record Writes (job : JobSettings) (box : Rect) (subs : SubFiles) (u v : SpillState) (o p : SinkState) (m k : ℕ)
    (result : Result (Unit {0}) EmitFault) : Type 0 where
  pub whole : OnOk result ((all : List (List TileContent)) → u.tells ≡ true → HoldTiles all subs u
      → Gained o (map_of_contents job.head (tag_lists job.mapping) box all) p)
  pub front : OnErr result ((all : List (List TileContent)) → u.tells ≡ true → HoldTiles all subs u
      → GainedFront o (map_of_contents job.head (tag_lists job.mapping) box all) p)
  pub few_steps : k ≤ m + 18 * length subs.index.rows + subs.tiles.size
  pub write : result ≡ Err emit_fault.Write → CountsOne o.faults p.faults
  pub same_output : result ≢ Err emit_fault.Write → p.faults ≡ o.faults
  pub spill : result ≡ Err emit_fault.Spill → CountsOne u.faults v.faults
  pub same_store : result ≢ Err emit_fault.Spill → v.faults ≡ u.faults
  pub same : SameStore u v
  pub same_overrun : v.is_overrun ≡ u.is_overrun

-- the map of the contents of a job's features is its map
map-is : (job : JobSettings) (box : Rect) (entities : List Entity)
    → map_of_contents job.head (tag_lists job.mapping) box
    (all_contents job.head box (features job.mapping entities)) ≡ map_file job.head job.mapping box entities
unfolding map_file map_of
map-is job box entities = refl

module _ (job : JobSettings) (i j : SourceState) (o p : SinkState) (s t u v : SpillState) (n m k : ℕ) (found : Ingested)
    (box : Rect) (subs : SubFiles) (told : Report) (g : Gathers job i j s t (Ok (found, box)))
    (l : LaysOut job found box t u n m (Ok (subs, told))) where
  laid_of : (bytes : List ℕ) → AreGathered job found box bytes → s.tells ≡ true
      → IsLaidOut job box (input_entities bytes) subs told u
  laid_of bytes are tells = l.laid (input_entities bytes) (handed bytes are) (g.tells ∙ tells)
    where
      handed : (b : List ℕ) → AreGathered job found box b → IsIngested job.mapping (input_entities b) found
      handed b a = ingested-is job.mapping found b a.parts

  -- the outcome of the bytes
  outcome_of : (bytes : List ℕ) → AreGathered job found box bytes → s.tells ≡ true
      → outcome job bytes
      ≡ Ok (record { map = map_file job.head job.mapping box (input_entities bytes); report = told })
  outcome_of bytes are tells =
      let laid = laid_of bytes are tells in
      outcome-made job bytes box are.boxed laid.no_limit
      ∙ ap Ok (sym (made-is job bytes box)
      ∙ ap (λ r. record { map = map_file job.head job.mapping box (input_entities bytes); report = r })
      (sym laid.report_is))

  few_all : (all : List ℕ) → AreGathered job found box all → s.tells ≡ true
      → k ≤ m + 18 * length subs.index.rows + subs.tiles.size → k ≤ n + 1536 * extent job all
  few_all all are tells steps =
      let laid = laid_of all are tells in
      let before = l.few_steps (input_entities all) (ingested-is job.mapping found all are.parts) (g.tells ∙ tells) in
      let is = extent-is job all box are.boxed in
      omega (arith, steps, before, laid.few, is)

  within_all : (all : List ℕ) → AreGathered job found box all → i.left ≡ Some all → s.tells ≡ true
      → most_per_byte * length all ≤ part_limit → 64 * extent job all ≤ part_limit → v.is_overrun ≡ u.is_overrun
      → v.is_overrun ≡ false
  within_all all are left tells few_bytes few_rows same =
      let is = extent-is job all box are.boxed in
      same
      ∙ l.within (input_entities all) (ingested-is job.mapping found all are.parts) (g.tells ∙ tells)
      (omega (arith, few_rows, is))
      ∙ g.within all left (small-parts all few_bytes)

  same_input : j.faults ≡ i.faults
  same_input = g.same_input (λ e. cc e)

  same_before : u.faults ≡ s.faults
  same_before = l.same_faults (λ e. cc e) ∙ g.same_store (λ e. cc e)

  boxed : HasReadAll (IsBoxed job) i j
  boxed = read_all-of (λ bytes are. (box, are.boxed)) g.told

  module _ (w : Writes job box subs u v o p m k (Ok tt)) where
    pub compiled-written : IsCompiled job (moment i o s n) (moment j p v k) (Ok told)
    compiled-written = record {
      told = λ tells. record {
        map = map_file job.head job.mapping box (input_entities g.told.bytes);
        input = record {
          bytes = g.told.bytes;
          taken = g.told.taken;
          reads = g.told.reads;
          holds = (outcome_of g.told.bytes g.told.holds.0 tells, g.told.holds.1);
        };
        written = subst (λ bytes. Gained o bytes p) (map-is job box (input_entities g.told.bytes))
            (w.whole (all_contents job.head box (features job.mapping (input_entities g.told.bytes)))
            (l.same.tells ∙ g.tells ∙ tells) (laid_of g.told.bytes g.told.holds.0 tells).holds);
      };
      accepted = boxed;
      exact = λ all left tells no_read no_write no_spill.
          sym (ap answer_for (outcome_of all (g.exact all left) tells));
      faults = record {
        read = λ e. cc e;
        same_input = λ other. same_input;
        write = λ e. cc e;
        same_output = λ other. w.same_output (λ e. cc e);
        spill = λ e. cc e;
        same_store = λ other. w.same_store (λ e. cc e) ∙ same_before;
      };
      untouched = λ f e no_write no_spill. absurd (cc e);
      few_steps = λ all left tells. few_all all (g.exact all left) tells w.few_steps;
      within = λ all left tells few_bytes few_rows.
          within_all all (g.exact all left) left tells few_bytes few_rows w.same_overrun;
      name = w.same.name ∙ l.same.name ∙ g.name;
      tells = w.same.tells ∙ l.same.tells ∙ g.tells;
    }

  module _ (why : EmitFault) (w : Writes job box subs u v o p m k (Err why)) where
    begun : s.tells ≡ true → HasBegun job (moment i o s n) (moment j p v k)
    begun tells = record {
      made = record {
        map = map_file job.head job.mapping box (input_entities g.told.bytes);
        report = told;
      };
      input = record {
        bytes = g.told.bytes;
        taken = g.told.taken;
        reads = g.told.reads;
        holds = (outcome_of g.told.bytes g.told.holds.0 tells, g.told.holds.1);
      };
      front = subst (λ bytes. GainedFront o bytes p) (map-is job box (input_entities g.told.bytes))
          (w.front (all_contents job.head box (features job.mapping (input_entities g.told.bytes)))
          (l.same.tells ∙ g.tells ∙ tells) (laid_of g.told.bytes g.told.holds.0 tells).holds);
    }

    emit-told : (e : EmitFault) → e ≡ why → s.tells ≡ true
        → TellsCompiled job (moment i o s n) (Err (emit_told e)) (moment j p v k)
    emit-told emit_fault.Write same tells = begun tells
    emit-told emit_fault.Spill same tells = inr (begun tells)

    emit-input : (e : EmitFault) → TellsInput job i (Err (emit_told e)) j
    emit-input emit_fault.Write = boxed
    emit-input emit_fault.Spill = tt

    is_device : {A : Type 0} (e : EmitFault) → ◌≢◌ {A = Result A Fault} (Err (emit_told e)) (Err fault.Write)
        → ◌≢◌ {A = Result A Fault} (Err (emit_told e)) (Err fault.Spill) → ⊥
    is_device emit_fault.Write no_write no_spill = no_write refl
    is_device emit_fault.Spill no_write no_spill = no_spill refl

    told_as_write : (e : EmitFault) → ◌≡◌ {A = Result Report Fault} (Err (emit_told e)) (Err fault.Write)
        → e ≡ emit_fault.Write
    told_as_write emit_fault.Write h = refl
    told_as_write emit_fault.Spill h = cc

    told_as_spill : (e : EmitFault) → ◌≡◌ {A = Result Report Fault} (Err (emit_told e)) (Err fault.Spill)
        → e ≡ emit_fault.Spill
    told_as_spill emit_fault.Write h = cc
    told_as_spill emit_fault.Spill h = refl

    told_as_read : (e : EmitFault) → ◌≡◌ {A = Result Report Fault} (Err (emit_told e)) (Err fault.Read) → ⊥
    told_as_read emit_fault.Write h = cc
    told_as_read emit_fault.Spill h = cc

    err_of : (e f : EmitFault) → ◌≡◌ {A = Result (Unit {0}) EmitFault} (Err e) (Err f) → e ≡ f
    err_of e f h = cc

    told_err : (e f : EmitFault) → e ≡ f → ◌≡◌ {A = Result Report Fault} (Err (emit_told e)) (Err (emit_told f))
    told_err e f same = ap (λ x. Err (emit_told x)) same

    untouched_never : (f : Fault) → ◌≡◌ {A = Result Report Fault} (Err (emit_told why)) (Err f) → f ≢ fault.Write
        → f ≢ fault.Spill → p ≡ o
    untouched_never f e no_write no_spill =
        absurd (is_device why (λ h. no_write (fault_of (sym e ∙ h))) (λ h. no_spill (fault_of (sym e ∙ h))))
      where
        fault_of : {a b : Fault} → ◌≡◌ {A = Result Report Fault} (Err a) (Err b) → a ≡ b
        fault_of h = cc

    pub compiled-unwritten : IsCompiled job (moment i o s n) (moment j p v k) (Err (emit_told why))
    compiled-unwritten = record {
      told = λ tells. emit-told why refl tells;
      accepted = emit-input why;
      exact = λ all left tells no_read no_write no_spill. absurd (is_device why no_write no_spill);
      faults = record {
        read = λ e. absurd (told_as_read why e);
        same_input = λ other. same_input;
        write = λ e. w.write (ap Err (told_as_write why e));
        same_output = λ other. w.same_output (λ e. other (told_err why emit_fault.Write (err_of why emit_fault.Write e)));
        spill = λ e. subst (λ f. CountsOne f v.faults) same_before (w.spill (ap Err (told_as_spill why e)));
        same_store = λ other.
            w.same_store (λ e. other (told_err why emit_fault.Spill (err_of why emit_fault.Spill e))) ∙ same_before;
      };
      untouched = untouched_never;
      few_steps = λ all left tells. few_all all (g.exact all left) tells w.few_steps;
      within = λ all left tells few_bytes few_rows.
          within_all all (g.exact all left) left tells few_bytes few_rows w.same_overrun;
      name = w.same.name ∙ l.same.name ∙ g.name;
      tells = w.same.tells ∙ l.same.tells ∙ g.tells;
    }
