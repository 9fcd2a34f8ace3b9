use Rattle.std.proofs.Common.{◌≡◌, ◌∙◌, refl, sym, ap, subst, arith, Ok, Err, Some}
use Rattle.std.specs.Prelude.{slice_range}
use Rattle.mf_base.proofs.StepLaws.{err_is_no_ok}
use Rattle.mf_edge.specs.Stream.{at}
use Rattle.mf_edge.proofs.Walking.{walk-then}
use Rattle.osm_model.specs.declared.limits.TheConstants.{FRAME_LIMIT}
use Rattle.pbf_frame.specs.FrameReading.{content_shown}
use Rattle.extract_pass.specs.Behind.{IsBehind}
use Rattle.extract_pass.specs.BlobReading.{ReadsBlob}
use Rattle.extract_pass.specs.EntityPass.{TellsPass}
use Rattle.extract_pass.proofs.WholePass.{walk-none, pass-first, pass-blob, pass-stop, pass-end, pass-none, told-exact}
use Rattle.extract_pass.proofs.pass.read_entities.Goals as goal

pub loop-frame-init : goal.loop-frame-init
loop-frame-init g c = (
  λ first stands. pass-first (IsBehind c.new-behind.result) (g.R.EntityReader.stands first c.args.reader.now)
      (at g.S.Source.state c.args.src.now) c.new-behind.ensures stands,
  omega (arith, c.requires.start),
  refl,
  walk-none (at g.S.Source.state c.args.src.now),
  refl,
)

pub read-requires-clause-stood : goal.read-requires-clause-stood
read-requires-clause-stood g c =
    let (first, none) = c.requires.begun in
    let so = c.loop-frame.invariant.0 first none in
    let (es, box, both, read) = so.holds in (first, es, box, both.0, both.1)

pub returns-in-Err-read-clause-told : goal.returns-in-Err-read-clause-told
returns-in-Err-read-clause-told g c first none =
    let f = c.in-Ok-Some.frame in
    let Behind = IsBehind c.loop-frame.behind in
    let Stands = g.R.EntityReader.stands first c.loop-frame.reader in
    let BehindNow = IsBehind c.read.new.self in
    let Now = g.R.EntityReader.stands first c.read.new.reader in
    let StoppedAt = g.R.EntityReader.stopped first c.read.new.reader in
    let old = at g.S.Source.state c.args.src.now in
    let new = at g.S.Source.state c.next.new.src in
    subst (λ fault. TellsPass Now StoppedAt old (Err fault) new) (sym c.stopped_at.ensures)
    (pass-stop Behind Stands BehindNow Now StoppedAt old (at g.S.Source.state c.loop-frame.src) new
    c.next.new.block.bytes c.next.result f (Unit {0}) c.in-Err-read.stop c.requires.start
    (c.loop-frame.invariant.0 first none) c.next.ensures.takes (c.in-Ok-Some.is ∙ ap Ok c.in-Ok-Some.field-0-is)
    (λ es box behind stands. subst (ReadsBlob BehindNow Now StoppedAt es box
    (content_shown f.kind (slice_range c.next.new.block.bytes f.start f.end))) c.in-Err-read.is
    (subst (λ b. ReadsBlob BehindNow Now StoppedAt es box (content_shown f.kind (slice_range b f.start f.end))
    c.read.result) c.bytes.ensures.bytes (c.read.ensures first es box behind stands))))

pub returns-in-Err-read-clause-exact : goal.returns-in-Err-read-clause-exact
returns-in-Err-read-clause-exact g c first all none told =
    told-exact (g.R.EntityReader.stands first c.read.new.reader) (g.R.EntityReader.stopped first c.read.new.reader)
    (at g.S.Source.state c.args.src.now) (at g.S.Source.state c.next.new.src) all (Err c.stopped_at.result)
    (returns-in-Err-read-clause-told g c first none) told

pub loop-frame-preserved : goal.loop-frame-preserved
loop-frame-preserved g c =
    let f = c.in-Ok-Some.frame in
    let is : c.next.result ≡ Ok (Some f) = c.in-Ok-Some.is ∙ ap Ok c.in-Ok-Some.field-0-is in
    let given = rw is at c.next.ensures.given in (
      λ first none.
          let BehindNow = IsBehind c.read.new.self in
          let Now = g.R.EntityReader.stands first c.read.new.reader in
          let StoppedAt = g.R.EntityReader.stopped first c.read.new.reader in
          pass-blob (IsBehind c.loop-frame.behind) (g.R.EntityReader.stands first c.loop-frame.reader) BehindNow Now
          StoppedAt (at g.S.Source.state c.args.src.now) (at g.S.Source.state c.loop-frame.src)
          (at g.S.Source.state c.next.new.src) c.next.new.block.bytes c.next.result f (Unit {0}) _ c.requires.start
          (c.loop-frame.invariant.0 first none) c.next.ensures.takes is
          (λ es box behind stands. subst (ReadsBlob BehindNow Now StoppedAt es box
          (content_shown f.kind (slice_range c.next.new.block.bytes f.start f.end))) c.in_default.is
          (subst (λ b. ReadsBlob BehindNow Now StoppedAt es box (content_shown f.kind (slice_range b f.start f.end))
          c.read.result) c.bytes.ensures.bytes (c.read.ensures first es box behind stands))),
      omega (arith, given.below),
      c.next.ensures.faults.same_faults (λ e. absurd (err_is_no_ok _ _ (sym e ∙ c.in-Ok-Some.is)))
          ∙ c.loop-frame.invariant.2,
      walk-then 0 (at g.S.Source.state c.args.src.now) (at g.S.Source.state c.loop-frame.src)
          (at g.S.Source.state c.next.new.src) c.loop-frame.invariant.3 given.walk,
      c.next.ensures.capacity ∙ c.loop-frame.invariant.4,
    )

pub returns-in-Ok-None-clause-told : goal.returns-in-Ok-None-clause-told
returns-in-Ok-None-clause-told g c first none =
    pass-end (IsBehind c.loop-frame.behind) (g.R.EntityReader.stands first c.loop-frame.reader)
    (g.R.EntityReader.stopped first c.loop-frame.reader) (at g.S.Source.state c.args.src.now)
    (at g.S.Source.state c.loop-frame.src) (at g.S.Source.state c.next.new.src) c.next.new.block.bytes c.next.result
    c.bounds.result c.requires.start (c.loop-frame.invariant.0 first none) c.next.ensures.takes
    (c.in-Ok-None.is ∙ ap Ok c.in-Ok-None.field-0-is)
    (λ es box behind. sym behind.boxed ∙ sym c.bounds.ensures)

pub returns-in-Ok-None-clause-exact : goal.returns-in-Ok-None-clause-exact
returns-in-Ok-None-clause-exact g c first all none told =
    told-exact (g.R.EntityReader.stands first c.loop-frame.reader) (g.R.EntityReader.stopped first c.loop-frame.reader)
    (at g.S.Source.state c.args.src.now) (at g.S.Source.state c.next.new.src) all (Ok c.bounds.result)
    (returns-in-Ok-None-clause-told g c first none) told

pub returns-in-Err-clause-told : goal.returns-in-Err-clause-told
returns-in-Err-clause-told g c first none =
    let Stands = g.R.EntityReader.stands first c.loop-frame.reader in
    let StoppedAt = g.R.EntityReader.stopped first c.loop-frame.reader in
    let old = at g.S.Source.state c.args.src.now in
    let new = at g.S.Source.state c.next.new.src in
    subst (λ fault. TellsPass Stands StoppedAt old (Err fault) new) (sym c.pass_fault.ensures)
    (pass-none (IsBehind c.loop-frame.behind) Stands StoppedAt old (at g.S.Source.state c.loop-frame.src) new
    c.next.new.block.bytes c.next.result c.in-Err.fault c.requires.start (c.loop-frame.invariant.0 first none)
    c.next.ensures.takes c.in-Err.is)

pub returns-in-Err-clause-exact : goal.returns-in-Err-clause-exact
returns-in-Err-clause-exact g c first all none told =
    told-exact (g.R.EntityReader.stands first c.loop-frame.reader) (g.R.EntityReader.stopped first c.loop-frame.reader)
    (at g.S.Source.state c.args.src.now) (at g.S.Source.state c.next.new.src) all (Err c.pass_fault.result)
    (returns-in-Err-clause-told g c first none) told

pub returns-in-Err-read-clause-walk : goal.returns-in-Err-read-clause-walk
returns-in-Err-read-clause-walk g c =
    walk-then FRAME_LIMIT (at g.S.Source.state c.args.src.now) (at g.S.Source.state c.loop-frame.src)
    (at g.S.Source.state c.next.new.src) c.loop-frame.invariant.3 c.next.ensures.walk

pub returns-in-Ok-None-clause-walk : goal.returns-in-Ok-None-clause-walk
returns-in-Ok-None-clause-walk g c =
    walk-then FRAME_LIMIT (at g.S.Source.state c.args.src.now) (at g.S.Source.state c.loop-frame.src)
    (at g.S.Source.state c.next.new.src) c.loop-frame.invariant.3 c.next.ensures.walk

pub returns-in-Err-clause-walk : goal.returns-in-Err-clause-walk
returns-in-Err-clause-walk g c =
    walk-then FRAME_LIMIT (at g.S.Source.state c.args.src.now) (at g.S.Source.state c.loop-frame.src)
    (at g.S.Source.state c.next.new.src) c.loop-frame.invariant.3 c.next.ensures.walk
