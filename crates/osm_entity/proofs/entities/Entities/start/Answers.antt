use Rattle.std.proofs.Common.{◌∙◌}
use Rattle.pbf_block.specs.Head.{head_told}
use Rattle.osm_entity.proofs.EntityReads.{all-objects, shown-is, empty-first}
use Rattle.osm_entity.proofs.entities.Entities.start.Goals as goal

pub returns-clause-objects : goal.returns-clause-objects
returns-clause-objects c b e =
    empty-first _ _
    ∙ all-objects c.args.block.now c.args.strings.now (head_told c.args.head) b _ c.requires.head c.requires.strings e
    (shown-is c.args.block.now c.places.result.now c.args.strings.now (head_told c.args.head) c.places.ensures)
