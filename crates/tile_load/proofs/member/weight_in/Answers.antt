use Rattle.std.proofs.Common.{◌∙◌, []}
use Rattle.tile_load.proofs.Heads.{weight-told}
use Rattle.tile_load.proofs.member.weight_in.Goals as goal

pub returns-clause-told : goal.returns-clause-told
returns-clause-told c rest r is = let h = c.read_u64.ensures in h ∙ weight-told c.args.units.now rest r [] is c.if-units-lt2.false
