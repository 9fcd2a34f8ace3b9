use Rattle.tag_mapping.proofs.Document.{lists-wrong, lists-poi, lists-way, lists-both}
use Rattle.tag_mapping.proofs.file.lists_in.Goals as goal

pub returns-then-not-has_only_lists : goal.returns-then-not-has_only_lists
returns-then-not-has_only_lists c = lists-wrong c.args.top.now.entries c.if-not-has_only_lists.ensures

pub returns-in_err-poi : goal.returns-in_err-poi
returns-in_err-poi c =
    rw c.from_residual.ensures
    (lists-poi c.args.top.now.entries c.if-not-has_only_lists.ensures (rw c.member.ensures at c.in_err-poi.ensures))

pub returns-in_err-way : goal.returns-in_err-way
returns-in_err-way c =
    rw c.from_residual-in_err-way.ensures
    (lists-way c.args.top.now.entries _ c.if-not-has_only_lists.ensures (rw c.member.ensures at c.in_ok-poi.ensures)
    (rw c.member-2.ensures at c.in_err-way.ensures))

pub returns : goal.returns
returns c = lists-both c.args.top.now.entries _ _ c.if-not-has_only_lists.ensures
    (rw c.member.ensures at c.in_ok-poi.ensures) (rw c.member-2.ensures at c.in_ok-way.ensures)
