use Rattle.std.proofs.Common.{◌≡◌, ◌∷◌, ◌++◌, [], ℕ, List, sym, subst, rules, Err}
use Rattle.mf_edge.specs.Stream.{at}
use Rattle.pbf_frame.specs.FrameReading.{BeginsNoBlob}
use Rattle.pbf_frame.specs.BlobReading.{Tells, HasLength, SpellsStep}
use Rattle.pbf_frame.proofs.BlobFront.{IsHeaded, headed, head-fails, blob-fails, blob-spells}
use Rattle.pbf_frame.proofs.TakenSteps.{taken-then, fails-then, tells-then}
use Rattle.pbf_frame.proofs.blob_read.read_blob.Goals as goal

-- the first byte, and the three behind it
length_joined : (at size first : ℕ) (x y : List ℕ) → x ≡ first ∷ [] → HasLength at size (first ∷ y)
    → HasLength at size (x ++ y)
length_joined at size first x y e h = subst (λ z. HasLength at size (z ++ y)) (sym e) h

pub returns-in_err-head-clause-tells : goal.returns-in_err-head-clause-tells
returns-in_err-head-clause-tells g c =
    let begin = c.offset-begin.result in
    let old = at g.S.Source.state c.args.src.now in
    let new = at g.S.Source.state c.read_head.new.src in
    let first = rw c.in-Some.is at (c.in_ok-first.ensures {u = tt}).tells in
    let four = taken-then _ _ _ _ _ (HasLength begin c.in_ok-size.size) first (c.in_ok-size.ensures {u = tt}).tells
    (λ x y e h. length_joined begin c.in_ok-size.size c.in-Some.first x y e h) in
    let e : c.from_residual-in_err-head.result ≡ Err c.in_err-head.field-0.0 = search rules in
    subst (λ n. Tells (SpellsStep n c.read_head.new.block.bytes new.source)
    (λ fault bytes. BeginsNoBlob n fault new.source bytes) n old c.from_residual-in_err-head.result new)
    c.offset-begin.ensures
    (fails-then (SpellsStep begin c.read_head.new.block.bytes new.source) _
    (λ fault bytes. BeginsNoBlob begin fault new.source bytes) _ begin _ _ _ _ _ e four
    (c.in_err-head.ensures {u = tt}).tells (λ f x y h fails. head-fails begin c.in_ok-size.size new.source f x y h
    fails))

pub returns-clause-tells : goal.returns-clause-tells
returns-clause-tells g c =
    let begin = c.offset-begin.result in
    let block = c.read_body.new.block.bytes in
    let old = at g.S.Source.state c.args.src.now in
    let new = at g.S.Source.state c.read_body.new.src in
    let first = rw c.in-Some.is at (c.in_ok-first.ensures {u = tt}).tells in
    let four = taken-then _ _ _ _ _ (HasLength begin c.in_ok-size.size) first (c.in_ok-size.ensures {u = tt}).tells
    (λ x y e h. length_joined begin c.in_ok-size.size c.in-Some.first x y e h) in
    let head = taken-then _ _ _ _ _ (IsHeaded begin c.in_ok-head.head) four (c.in_ok-head.ensures {u = tt}).tells
    (λ x y h held. headed begin c.in_ok-size.size c.in_ok-head.head x y h held) in
    subst (λ n. Tells (SpellsStep n block new.source) (λ fault bytes. BeginsNoBlob n fault new.source bytes) n old
    c.read_body.result new) c.offset-begin.ensures
    (tells-then _ (SpellsStep begin block new.source) _ (λ fault bytes. BeginsNoBlob begin fault new.source bytes) _
    begin _ _ _ c.read_body.result head c.read_body.ensures.tells
    (λ step x y h held. blob-spells begin c.in_ok-head.head block new.source step x y h held)
    (λ f x y h fails. blob-fails begin c.in_ok-head.head new.source f x y h fails))
