use Rattle.std.proofs.Common.{◌≡◌, ◌∙◌, ◌+◌, ◌*◌, ◌/◌, ◌%◌, arith}
use Rattle.map_model.specs.TileRects.{meets}
use Rattle.tile_assign.proofs.Bits.{no_bits, one_more_bit, all_bits}
use Rattle.tile_assign.proofs.bitmap.bitmap.Goals as goal

pub loop-n-init : goal.loop-n-init
loop-n-init c = no_bits c.args.rect.now c.args.z c.args.x c.args.y

pub loop-n-preserved : goal.loop-n-preserved
loop-n-preserved c =
    let is : c.has_tile-is_met.result ≡ meets c.args.rect.now (c.args.z + 2) (4 * c.args.x + c.loop-n.n % 4)
    (4 * c.args.y + c.loop-n.n / 4) =
    c.has_tile-is_met.ensures
    ∙ c.tiles-met.ensures.meets (4 * c.args.x + c.loop-n.n % 4) (4 * c.args.y + c.loop-n.n / 4) in
    one_more_bit c.args.rect.now c.args.z c.args.x c.args.y c.loop-n.n c.loop-n.bits c.has_tile-is_met.result
    c.from.result c.loop-n-test.true is c.from.ensures c.loop-n.invariant

pub returns : goal.returns
returns c = all_bits c.args.rect.now c.args.z c.args.x c.args.y c.loop-n.n c.loop-n.bits (omega arith)
    c.loop-n.invariant
