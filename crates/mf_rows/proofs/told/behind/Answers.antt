use Rattle.std.proofs.Common.{rules, ◌≡◌, ◌<◌, ◌≤◌, None, Some, length}
use Rattle.mf_rows.specs.Units.{part_in}
use Rattle.mf_rows.proofs.Walked.{follows, part-short, no-part-there}
use Rattle.mf_rows.proofs.told.behind.Goals as goal

pub returns-in_err-points-clause-none : goal.returns-in_err-points-clause-none
returns-in_err-points-clause-none c = λ none.
    let is : part_in c.args.first.now ≡ None = search rules in
    no-part-there c.args.first.now c.args.rest.now is

pub returns-then-points-rest-clause-none : goal.returns-then-points-rest-clause-none
returns-then-points-rest-clause-none c = λ none.
    let is : part_in c.args.first.now ≡ Some (c.in_ok-points.field-0-0, c.in_ok-points.points) = search rules in
    let past : length c.args.rest.now < c.in_ok-points.points = search rules in
    part-short c.args.first.now c.args.rest.now c.in_ok-points.field-0-0 c.in_ok-points.points is past

pub returns-clause-some : goal.returns-clause-some
returns-clause-some c =
    let is : part_in c.args.first.now ≡ Some (c.in_ok-points.field-0-0, c.in_ok-points.points) = search rules in
    let within : c.in_ok-points.points ≤ length c.args.rest.now = search rules in
    follows c.args.first.now c.args.rest.now c.in_ok-points.field-0-0 c.in_ok-points.points is within
    c.split_at.result.1.now c.split_at.ensures.back
