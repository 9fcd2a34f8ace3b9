use Rattle.std.proofs.Common.{arith, rules, length, ◌≡◌, Err}
use Rattle.tag_mapping.proofs.Lists.{added-more, added-fault, added-all, passed, told-text}
use Rattle.tag_mapping.proofs.file.entries_in.Goals as goal

pub returns-in_err-add-clause-refused : goal.returns-in_err-add-clause-refused
returns-in_err-add-clause-refused c =
    let e : c.from_residual.result ≡ Err c.in_err-add.field-0.0 = search rules in
    rw e (passed _ _ _
    (λ e. added-fault c.args.list c.args.items.now c.loop-item.item-index c.loop-item.entries c.item-item.result _
    c.loop-item-test.true c.item-item.is c.loop-item.invariant e)
    (rw c.told_entry.ensures.told at c.in_err-add.ensures.refused))

pub loop-item-preserved : goal.loop-item-preserved
loop-item-preserved c =
    added-more c.args.list c.args.items.now c.loop-item.item-index c.loop-item.entries c.add.new.self
    c.item-item.result c.loop-item-test.true c.item-item.is c.loop-item.invariant
    (rw c.told_entry.ensures.told at c.in_ok-add.ensures.added)
    (rw c.told_entry.ensures.told at (told-text c.told_entry.result c.told_entry.ensures.text))

pub returns-clause-entries : goal.returns-clause-entries
returns-clause-entries c =
    let whole : c.loop-item.item-index ≡ length c.args.items.now = omega arith in
    (added-all c.args.list c.args.items.now c.loop-item.entries (rw whole at c.loop-item.invariant)).0
