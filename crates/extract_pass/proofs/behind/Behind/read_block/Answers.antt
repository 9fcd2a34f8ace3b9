use Rattle.osm_model.specs.Blocks.{block_strings}
use Rattle.osm_entity.proofs.StringPlaces.{strings-at}
use Rattle.extract_pass.specs.Behind.{IsBehind}
use Rattle.extract_pass.proofs.BlockPass.{fault-is}
use Rattle.extract_pass.proofs.BehindBlobs.{block-none}
use Rattle.extract_pass.proofs.behind.Behind.read_block.Goals as goal

pub read_indexed-requires-clause-strings : goal.read_indexed-requires-clause-strings
read_indexed-requires-clause-strings g c =
    strings-at c.args.raw.now c.index.new.self c.in-Ok.ensures.refused c.in-Ok.ensures.strings

pub returns-in-Err : goal.returns-in-Err
returns-in-Err g c first es box behind stands =
    let raw = c.args.raw.now in
    let Stands = g.R.EntityReader.stands first c.args.reader.now in
    let StoppedAt = g.R.EntityReader.stopped first c.args.reader.now in
    block-none (Unit {0}) (IsBehind c.args.self.now) Stands StoppedAt es box raw c.in-Err.fault
    (fault-is _ (block_strings raw) c.in-Err.fault c.in-Err.ensures.refused) stands
