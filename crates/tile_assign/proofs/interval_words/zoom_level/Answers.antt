use Rattle.std.proofs.Common.{arith}
use Rattle.tile_assign.proofs.Listed.{level-most}
use Rattle.tile_assign.proofs.interval_words.zoom_level.Goals as goal

pub overflow_cast-result : goal.overflow_cast-result
overflow_cast-result c =
    record { fits = omega (arith, level-most c.args.text.now c.in_ok-level.level c.in_ok-level.ensures) }
