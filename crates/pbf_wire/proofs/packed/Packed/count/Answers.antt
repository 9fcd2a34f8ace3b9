use Rattle.std.proofs.Common.{ap, ◌∙◌, length}
use Rattle.pbf_wire.proofs.PackedReads.{count-whole}
use Rattle.pbf_wire.proofs.packed.Packed.count.Goals as goal

pub returns : goal.returns
returns c = c.low_bytes.ensures ∙ count-whole c.self.inside.rest.now c.self.invariant ∙ ap length c.self.view_is
