use Rattle.std.proofs.Common.{◌≡◌, ◌<◌, ◌∷◌, refl, sym, subst, arith, rules, Err}
use Rattle.byteorder.specs.Endian.{big_number}
use Rattle.mf_edge.specs.Stream.{at}
use Rattle.osm_model.specs.declared.faults.FrameFault.TheVariants.{TooLong}
use Rattle.osm_model.specs.declared.limits.TheConstants.{HEADER_LIMIT}
use Rattle.pbf_frame.specs.FrameReading.{BeginsNoBlob}
use Rattle.pbf_frame.proofs.BlobFront.{begins-too_long, begins-length_cut, begins-header_length}
use Rattle.pbf_frame.proofs.TakenSteps.{taken-none, taken-as, fails-as}
use Rattle.pbf_frame.proofs.blob_read.head_size.Goals as goal

pub returns-then-begin-ge-OFFSET_LIMIT-clause-tells : goal.returns-then-begin-ge-OFFSET_LIMIT-clause-tells
returns-then-begin-ge-OFFSET_LIMIT-clause-tells g c =
    let old = at g.S.Source.state c.args.src.now in (
      refl,
      taken-none old (λ bytes. BeginsNoBlob c.args.begin TooLong old.source (c.args.first ∷ bytes))
          (begins-too_long c.args.begin c.args.first old.source c.if-begin-ge-OFFSET_LIMIT.true),
    )

pub returns-in_err-fill_part-clause-tells : goal.returns-in_err-fill_part-clause-tells
returns-in_err-fill_part-clause-tells g c =
    let source = (at g.S.Source.state c.fill_part.new.src).source in
    let e : c.from_residual.result ≡ Err c.in_err-fill_part.field-0.0 = search rules in
    fails-as _ _ _ c.args.begin _ _ _ _ e (c.in_err-fill_part.ensures {u = tt}).tells (λ f x cut.
    subst (λ h. BeginsNoBlob c.args.begin h source (c.args.first ∷ x)) (sym cut.0)
    (begins-length_cut c.args.begin c.args.first x source c.if-begin-ge-OFFSET_LIMIT.false cut.1 cut.2))

pub returns-then-size-gt-HEADER_LIMIT-clause-tells : goal.returns-then-size-gt-HEADER_LIMIT-clause-tells
returns-then-size-gt-HEADER_LIMIT-clause-tells g c =
    let source = (at g.S.Source.state c.fill_part.new.src).source in
    let is : c.bytes.result.now ≡ c.fill_part.new.block.bytes = c.bytes.ensures.bytes in
    let number : HEADER_LIMIT < big_number 4 (c.args.first ∷ c.fill_part.new.block.bytes) =
    subst (λ b. HEADER_LIMIT < big_number 4 (c.args.first ∷ b)) is
    (subst (λ n. HEADER_LIMIT < n) c.length_of-size.ensures.number c.if-size-gt-HEADER_LIMIT.true) in (
      refl,
      taken-as _ _ _ _ (c.in_ok-fill_part.ensures {u = tt}).tells (λ x same.
          begins-header_length c.args.begin (c.args.first ∷ x) source c.if-begin-ge-OFFSET_LIMIT.false
          (omega (arith, same.1)) (subst (λ b. HEADER_LIMIT < big_number 4 (c.args.first ∷ b)) (sym same.0)
          number)),
    )
