use Rattle.std.proofs.Common.{rules, ◌≡◌, length}
use Rattle.mf_rows.proofs.Walked.{all-seen, last-seen}
use Rattle.mf_rows.proofs.told.last_of.Goals as goal

pub returns-clause-there : goal.returns-clause-there
returns-clause-there c =
    let empty : length c.loop-first.left.now ≡ 0 = search rules in
    all-seen c.args.units.now c.loop-first.left.now c.loop-first.last c.loop-first.invariant empty

pub returns-clause-place : goal.returns-clause-place
returns-clause-place c =
    let empty : length c.loop-first.left.now ≡ 0 = search rules in
    last-seen c.args.units.now c.loop-first.left.now c.loop-first.last c.loop-first.invariant empty
