use Rattle.std.proofs.Common.{arith, rules, inl, inr, length, ◌≤◌}
use Rattle.mf_base.proofs.Present.{unreadable, readable}
use Rattle.mf_base.proofs.texts.text.Goals.{then-is_empty-via-then-is_empty}
use Rattle.mf_base.proofs.texts.text.Goals.{then-is_empty-via-else-is_empty+then-bytes-gt1020}
use Rattle.mf_base.proofs.texts.text.Goals as goal

pub returns-then-is_empty : goal.returns-then-is_empty
returns-then-is_empty c = elim c.then-is_empty.branch [
  | then-is_empty-via-then-is_empty w ↦ unreadable c.args.bytes.now (inl (search rules))
  | then-is_empty-via-else-is_empty+then-bytes-gt1020 w ↦ unreadable c.args.bytes.now (inr w.if-bytes-gt1020.true)
]

pub returns : goal.returns
returns c =
    let some : 1 ≤ length c.args.bytes.now = search rules in
    readable _ c.args.bytes.now c.from_utf8.result c.ok.result some (omega arith) c.from_utf8.ensures.cases
    (search rules)
