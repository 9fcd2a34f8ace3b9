use Rattle.std.proofs.Common.{◌≡◌, ◌-◌, ◌≤◌, max, length, vec_capacity}
use Rattle.mf_base.proofs.Opened.{IsOpened}
use Rattle.mf_base.proofs.out_buf.open.Given as goal

-- zeros were put, and no more than are wanted
abbrev pub invariant-loop-bytes : goal.invariant-loop-bytes
invariant-loop-bytes l =
    IsOpened l.fn.bytes.items l.bytes.items × (length l.bytes.items ≤ max l.n (length l.fn.bytes.items))
    × (vec_capacity l.bytes ≡ vec_capacity l.fn.bytes)

abbrev pub decreases-loop-bytes : goal.decreases-loop-bytes
decreases-loop-bytes l = l.n - length l.bytes.items
