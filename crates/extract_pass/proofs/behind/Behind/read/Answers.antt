use Rattle.std.proofs.Common.{subst, sym, Ok, Err}
use Rattle.osm_model.specs.Frames.{header}
use Rattle.pbf_frame.specs.FrameReading.{content_shown}
use Rattle.extract_pass.specs.declared.fault.BlobStop.TheVariants as blob_stop
use Rattle.extract_pass.specs.Behind.{IsBehind}
use Rattle.extract_pass.specs.BlobReading.{NotesBlob, ReadsBlob}
use Rattle.extract_pass.proofs.BehindBlobs.{header-reads, header-stops}
use Rattle.extract_pass.proofs.behind.Behind.read.Goals as goal

pub returns-in-Ok : goal.returns-in-Ok
returns-in-Ok g c first es box behind stands =
    let raw = c.args.raw.now in
    let Now = IsBehind c.note_header.new.self in
    let Stands = g.R.EntityReader.stands first c.args.reader.now in
    let StoppedAt = g.R.EntityReader.stopped first c.args.reader.now in
    subst (λ kind. ReadsBlob {A = Unit {0}} Now Stands StoppedAt es box (content_shown kind raw) (Ok tt)) (sym c.in-Header.is)
    (header-reads (Unit {0}) (Unit {0}) Now Stands StoppedAt es box raw tt tt
    (subst (NotesBlob Now es box (header raw)) c.in-Ok.is (c.note_header.ensures es box behind)) stands)

pub returns-in-Err : goal.returns-in-Err
returns-in-Err g c first es box behind stands =
    let raw = c.args.raw.now in
    let Now = IsBehind c.note_header.new.self in
    let Stands = g.R.EntityReader.stands first c.args.reader.now in
    let StoppedAt = g.R.EntityReader.stopped first c.args.reader.now in
    subst (λ kind. ReadsBlob {A = Unit {0}} Now Stands StoppedAt es box (content_shown kind raw)
    (Err (blob_stop.Fault c.in-Err.code))) (sym c.in-Header.is)
    (header-stops (Unit {0}) (Unit {0}) Now Stands StoppedAt es box raw c.in-Err.code
    (subst (NotesBlob Now es box (header raw)) c.in-Err.is (c.note_header.ensures es box behind)) stands)
