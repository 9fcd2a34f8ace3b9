use Rattle.std.proofs.Common.{◌≡◌, ◌+◌, ◌*◌, ◌≤◌, ◌++◌, length, drop}
use Rattle.mf_rows.specs.RecordUnits.{tag_sizes, sizes_total, spans_from}
use Rattle.mf_rows.proofs.told.lay_tags.Given as goal

abbrev pub invariant-loop-i : goal.invariant-loop-i
invariant-loop-i l =
    (l.laid.spans.items ++ spans_from l.laid.size (tag_sizes l.i (drop l.i l.tags))
    ≡ l.fn.laid.spans.items ++ spans_from l.fn.laid.size (tag_sizes 0 l.tags))
    × (l.laid.size + sizes_total (tag_sizes l.i (drop l.i l.tags)) ≡ l.fn.laid.size + sizes_total (tag_sizes 0 l.tags))
    × (length l.laid.spans.items ≤ 3 + l.i) × (l.laid.size ≤ 65535 * (3 + l.i))
