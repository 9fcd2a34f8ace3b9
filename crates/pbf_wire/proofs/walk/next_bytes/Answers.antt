use Rattle.std.proofs.Common.{◌∙◌, ◌++◌, ap, arith}
use Rattle.osm_model.specs.Wire.{fields}
use Rattle.osm_model.specs.Tables.{bytes_of}
use Rattle.pbf_wire.proofs.MessageReads.{bytes-next, bytes-none, bytes-fault}
use Rattle.pbf_wire.proofs.walk.next_bytes.Goals as goal

pub returns-in-Some-clause-bytes : goal.returns-in-Some-clause-bytes
returns-in-Some-clause-bytes c =
    let (f, shows, read) = rw c.in-Ok-Some.field-0-is at c.in-Ok-Some.ensures.reads in
    c.loop-field.invariant.same ∙ bytes-next c.args.number _ _ f read
    ∙ ap (λ b. b ++ bytes_of c.args.number (fields c.next.new.self).items) (c.in-Some.ensures.bytes f shows)

pub loop-field-preserved : goal.loop-field-preserved
loop-field-preserved c =
    let (f, shows, read) = rw c.in-Ok-Some.field-0-is at c.in-Ok-Some.ensures.reads in
    let begins = rw c.in-Ok-Some.field-0-is at c.in-Ok-Some.ensures.found in
    record {
      same = c.loop-field.invariant.same ∙ bytes-next c.args.number _ _ f read
          ∙ ap (λ b. b ++ bytes_of c.args.number (fields c.next.new.self).items) (c.in_default.ensures.bytes f shows);
      shorter = omega (arith, begins.shorter, c.loop-field.invariant.shorter);
    }

pub returns-in-Ok-None-clause-bytes : goal.returns-in-Ok-None-clause-bytes
returns-in-Ok-None-clause-bytes c =
    let reads = rw c.in-Ok-None.field-0-is at c.in-Ok-None.ensures.reads in
    c.loop-field.invariant.same ∙ bytes-none c.args.number _ reads.0

pub returns-in-Err-clause-bytes : goal.returns-in-Err-clause-bytes
returns-in-Err-clause-bytes c = c.loop-field.invariant.same ∙ bytes-fault c.args.number _ _ c.in-Err.ensures.reads.0
