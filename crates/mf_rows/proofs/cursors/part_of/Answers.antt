use Rattle.std.proofs.Common.{rules, ◌≡◌, None}
use Rattle.mf_rows.specs.Units.{part_in}
use Rattle.mf_rows.proofs.Parts.{first_part, no_part_first}
use Rattle.mf_rows.proofs.cursors.part_of.Goals as goal

pub split_at-requires : goal.split_at-requires
split_at-requires c =
    (first_part c.args.first.now c.args.rest.now c.in-Some.role c.in-Some.points (search rules) c.requires).within

pub returns-in-Some-clause-rest : goal.returns-in-Some-clause-rest
returns-in-Some-clause-rest c =
    rw c.split_at.ensures.back
    (first_part c.args.first.now c.args.rest.now c.in-Some.role c.in-Some.points (search rules) c.requires).rest

pub returns-in-Some-clause-some : goal.returns-in-Some-clause-some
returns-in-Some-clause-some c =
    rw (c.split_at.ensures.front, c.split_at.ensures.back)
    (first_part c.args.first.now c.args.rest.now c.in-Some.role c.in-Some.points (search rules) c.requires).all_is

pub returns-in-None-clause-there : goal.returns-in-None-clause-there
returns-in-None-clause-there c =
    let part : part_in c.args.first.now ≡ None = search rules in
    absurd (no_part_first c.args.first.now c.args.rest.now part c.requires)
