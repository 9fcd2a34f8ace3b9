use Rattle.std.proofs.Common.{arith}
use Rattle.tag_mapping.proofs.OneWord.{no-equals, no-at, no-zoom, a-zoom, zoom-most}
use Rattle.tag_mapping.proofs.one_poi.told_poi.Goals as goal

pub returns-in_err-key-clause-told : goal.returns-in_err-key-clause-told
returns-in_err-key-clause-told c = rw c.from_residual.ensures (no-equals c.args.word.now c.in_err-key.ensures)

pub returns-in_err-value-clause-told : goal.returns-in_err-value-clause-told
returns-in_err-value-clause-told c =
    rw c.from_residual-in_err-value.ensures (no-at c.args.word.now _ _ c.in_ok-key.ensures c.in_err-value.ensures)

pub returns-in_err-zoom-clause-told : goal.returns-in_err-zoom-clause-told
returns-in_err-zoom-clause-told c =
    rw c.from_residual-in_err-zoom.ensures
    (no-zoom c.args.word.now _ _ _ _ c.in_ok-key.ensures c.in_ok-value.ensures
    (rw c.as_bytes.ensures.value at c.in_err-zoom.ensures))

pub overflow_cast-result : goal.overflow_cast-result
overflow_cast-result c = record { fits = omega (arith, zoom-most _ c.in_ok-zoom.zoom c.in_ok-zoom.ensures) }

pub returns-clause-told : goal.returns-clause-told
returns-clause-told c =
    a-zoom c.args.word.now _ _ _ _ c.in_ok-zoom.zoom c.in_ok-key.ensures c.in_ok-value.ensures
    (rw c.as_bytes.ensures.value at c.in_ok-zoom.ensures)
