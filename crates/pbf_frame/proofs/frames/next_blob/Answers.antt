use Rattle.std.proofs.Common.{◌≡◌, ◌≢◌, ◌∙◌, ◌+◌, ◌<◌, ◌≤◌, ℕ, ap, arith, rules, inl, inr, Result, Ok, Err}
use Rattle.std.proofs.lemmas.Bool.{cases_lt}
use Rattle.mf_edge.specs.Stream.{at}
use Rattle.mf_edge.proofs.Walking.{walk-then}
use Rattle.osm_model.specs.declared.limits.TheConstants.{FRAME_LIMIT, OFFSET_LIMIT}
use Rattle.pbf_frame.specs.declared.blob_read.Step.{Step}
use Rattle.pbf_frame.specs.declared.blob_read.Step.TheVariants.{End, Passed, Kept}
use Rattle.pbf_frame.specs.declared.frame_fault.NextFault.{NextFault}
use Rattle.pbf_frame.specs.declared.frame_fault.NextFault.TheVariants.{Read}
use Rattle.pbf_frame.proofs.NextBlob.{took-passed, takes-blob, takes-fault}
use Rattle.pbf_frame.proofs.frames.next_blob.Goals as goal

-- how far the offset comes in one blob
near_after : (m to : ℕ) → m < OFFSET_LIMIT + FRAME_LIMIT → to ≤ m + FRAME_LIMIT → (OFFSET_LIMIT ≤ m → to ≤ m + 1)
    → to ≤ OFFSET_LIMIT + FRAME_LIMIT
near_after m to near far ends = elim (cases_lt m OFFSET_LIMIT) [
  | inl less ↦ omega (arith, less, far)
  | inr not_less ↦ (let one = ends not_less in omega (arith, near, one))
]

passed_no_end : Passed ≢ End
passed_no_end e = cc

no_fault : (r : Result Step NextFault) → r ≡ Ok Passed → r ≢ Err Read
no_fault r e f = absurd (cc (e, f))

pub returns-in_err-read_blob-clause-takes : goal.returns-in_err-read_blob-clause-takes
returns-in_err-read_blob-clause-takes g c =
    let e : c.from_residual.result ≡ Err c.in_err-read_blob.field-0.0 = search rules in
    takes-fault _ _ _ c.read_blob.new.block.bytes _ _ e c.loop-frame.invariant.0
    (c.in_err-read_blob.ensures {u = tt}).tells

pub returns-in_err-read_blob-clause-near : goal.returns-in_err-read_blob-clause-near
returns-in_err-read_blob-clause-near g c low =
    near_after (at g.S.Source.state c.loop-frame.src).offset (at g.S.Source.state c.read_blob.new.src).offset
    (c.loop-frame.invariant.4 low) c.read_blob.ensures.step.far c.read_blob.ensures.ends

pub returns-in_err-read_blob-clause-far : goal.returns-in_err-read_blob-clause-far
returns-in_err-read_blob-clause-far g c high =
    let same = c.loop-frame.invariant.5 high in
    let one = c.read_blob.ensures.ends (omega (arith, same, high)) in
    omega (arith, same, one)

pub loop-frame-preserved : goal.loop-frame-preserved
loop-frame-preserved g c =
    let is : c.read_blob.result ≡ Ok Passed = c.in_ok-read_blob.was {u = tt} ∙ ap Ok c.in-Passed.is in
    let over = c.read_blob.ensures.over Passed is passed_no_end in
    let step = c.read_blob.ensures.step in
    let inv = c.loop-frame.invariant in (
      took-passed _ _ _ c.read_blob.new.block.bytes inv.0 (rw is at c.read_blob.ensures.tells),
      c.read_blob.ensures.faults.same_faults (no_fault c.read_blob.result is) ∙ inv.1,
      walk-then 0 _ _ _ inv.2 over.walk,
      c.read_blob.ensures.capacity ∙ inv.3,
      λ low. omega (arith, over.near, step.far),
      λ high. (let same = inv.5 high in absurd (omega (arith, same, high, over.near))),
    )

pub returns-in-Kept-clause-takes : goal.returns-in-Kept-clause-takes
returns-in-Kept-clause-takes g c =
    let is : c.read_blob.result ≡ Ok (Kept c.in-Kept.frame) = c.in_ok-read_blob.was {u = tt} ∙ ap Ok c.in-Kept.is in
    takes-blob _ _ _ c.read_blob.new.block.bytes c.in-Kept.frame c.loop-frame.invariant.0
    (rw is at c.read_blob.ensures.tells)
