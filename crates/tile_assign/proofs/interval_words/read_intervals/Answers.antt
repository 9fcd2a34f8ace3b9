use Rattle.std.proofs.Common.{◌≡◌, sym}
use Rattle.tile_assign.proofs.Listed.{refused-list, kept-list, wrong-list}
use Rattle.tile_assign.proofs.interval_words.read_intervals.Goals as goal

pub returns-in_err-all : goal.returns-in_err-all
returns-in_err-all c =
    rw c.from_residual.ensures (refused-list c.args.word.now (rw c.as_bytes.ensures.value at c.in_err-all.ensures))

pub returns-then-are_intervals : goal.returns-then-are_intervals
returns-then-are_intervals c =
    let same : c.deref.result.now ≡ c.in_ok-all.all.items = c.deref.ensures.0 in
    kept-list c.args.word.now c.in_ok-all.all.items (rw c.as_bytes.ensures.value at c.in_ok-all.ensures)
    (sym (rw same at c.if-are_intervals.ensures))

pub returns-else-are_intervals : goal.returns-else-are_intervals
returns-else-are_intervals c =
    let same : c.deref.result.now ≡ c.in_ok-all.all.items = c.deref.ensures.0 in
    wrong-list c.args.word.now c.in_ok-all.all.items (rw c.as_bytes.ensures.value at c.in_ok-all.ensures)
    (sym (rw same at c.if-are_intervals.ensures))
