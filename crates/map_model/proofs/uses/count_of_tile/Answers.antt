use Rattle.std.proofs.Common.{sym, ◌∙◌, arith}
use Rattle.map_model.proofs.Using.{no_key, seen-begun, seen-step, keys-taken}
use Rattle.map_model.proofs.uses.count_of_tile.Goals as goal

pub loop-n-init : goal.loop-n-init
loop-n-init c = seen-begun c.args.tile.now c.args.keys.now

pub loop-n-preserved : goal.loop-n-preserved
loop-n-preserved c =
    seen-step c.args.tile.now c.args.keys.now c.loop-n.n no_key c.loop-n-test.true (sym c.is_of_tile.ensures
    ∙ c.if-is_of_tile.true) c.loop-n.invariant

pub returns-else-is_of_tile : goal.returns-else-is_of_tile
returns-else-is_of_tile c = record {
  members = λ features later up same.
      keys-taken features c.args.tile.now later c.args.keys.now c.loop-n.n no_key up same c.loop-n.invariant
      (λ lt. sym c.is_of_tile.ensures ∙ c.if-is_of_tile.false);
}

pub returns-after-loop-n : goal.returns-after-loop-n
returns-after-loop-n c = record {
  members = λ features later up same.
      keys-taken features c.args.tile.now later c.args.keys.now c.loop-n.n no_key up same c.loop-n.invariant
      (λ lt. absurd (omega (arith, lt, c.loop-n-test.false)));
}
