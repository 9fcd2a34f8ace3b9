use Rattle.std.proofs.Common.{refl, sym, ap, ◌∙◌}
use Rattle.osm_entity.specs.BlockEntities.{objects_left}
use Rattle.pbf_block.specs.Head.{answer_told, head_told}
use Rattle.extract_pass.specs.Behind.{IsBehind}
use Rattle.extract_pass.proofs.BlockPass.{has-objects, objects-rise, objects-fit, head-refused}
use Rattle.extract_pass.proofs.BehindBlobs.{block-none, block-reads}
use Rattle.extract_pass.proofs.behind.Behind.read_indexed.Goals as goal

pub returns-in-Err : goal.returns-in-Err
returns-in-Err g c first es box behind stands =
    let raw = c.args.raw.now in
    let Stands = g.R.EntityReader.stands first c.args.reader.now in
    let StoppedAt = g.R.EntityReader.stopped first c.args.reader.now in
    block-none (Unit {0}) (IsBehind c.args.self.now) Stands StoppedAt es box raw c.in-Err.fault
    (head-refused raw c.in-Err.fault (sym c.block_head.ensures ∙ ap answer_told c.in-Err.is)) stands

pub read_all-requires-clause-fit : goal.read_all-requires-clause-fit
read_all-requires-clause-fit g c before behind =
    let raw = c.args.raw.now in
    let objects = objects_left c.start-entities.result in
    objects-fit before raw objects (has-objects raw c.args.strings.now (head_told c.in-Ok.head) objects
    (sym c.block_head.ensures ∙ ap answer_told c.in-Ok.is) c.requires.strings c.start-entities.ensures.objects)

pub read_all-requires-clause-stood : goal.read_all-requires-clause-stood
read_all-requires-clause-stood g c =
    let raw = c.args.raw.now in
    let objects = objects_left c.start-entities.result in
    let has = has-objects raw c.args.strings.now (head_told c.in-Ok.head) objects
    (sym c.block_head.ensures ∙ ap answer_told c.in-Ok.is) c.requires.strings c.start-entities.ensures.objects in
    let (first, es, box, behind, stands) = c.requires.stood in
    (first, es, behind.order, stands, objects-rise es raw objects has behind.rising)

pub returns-in-Ok : goal.returns-in-Ok
returns-in-Ok g c first es box behind stands =
    let raw = c.args.raw.now in
    let objects = objects_left c.start-entities.result in
    let has = has-objects raw c.args.strings.now (head_told c.in-Ok.head) objects
    (sym c.block_head.ensures ∙ ap answer_told c.in-Ok.is) c.requires.strings c.start-entities.ensures.objects in
    block-reads (Unit {0}) (g.R.EntityReader.stands first c.read_all.new.reader)
    (g.R.EntityReader.stopped first c.read_all.new.reader) c.args.self.now _ es box raw objects c.read_all.result has behind
    refl (c.read_all.ensures first es behind.order stands (objects-rise es raw objects has behind.rising))
