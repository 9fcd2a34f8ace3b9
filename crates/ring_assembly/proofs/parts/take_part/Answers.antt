use Rattle.std.proofs.Common.{◌≡◌, ◌∙◌, sym, ap, subst, refl, drop, rules, Option, None}
use Rattle.ring_assembly.specs.Marked.{AreMarked}
use Rattle.ring_assembly.specs.Taken.{Takes}
use Rattle.ring_assembly.specs.declared.parts.Taken.{Taken}
use Rattle.ring_assembly.proofs.Takings.{none-taken, found-within, part-taken}
use Rattle.ring_assembly.proofs.parts.take_part.Goals as goal

pub first_part-requires-clause-marked : goal.first_part-requires-clause-marked
first_part-requires-clause-marked c =
    subst AreMarked (sym (c.split_at.ensures.back ∙ ap (drop c.args.front) c.loose.ensures)) c.requires.parts

pub returns-in_err-found : goal.returns-in_err-found
returns-in_err-found c =
    let is = c.split_at.ensures.back ∙ ap (drop c.args.front) c.loose.ensures in
    let none : c.from_residual.result ≡ None = search rules in
    subst (λ (r : Option Taken). Takes c.args.front c.args.role c.args.end r c.args.records.now c.args.records.now)
    (sym none) (
      refl,
      none-taken c.args.front c.args.role c.args.end c.args.records.now c.requires
          (c.in_err-found.ensures c.requires.parts.0 (is ∙ c.requires.parts.1)),
    )

pub use_up-requires-clause-within : goal.use_up-requires-clause-within
use_up-requires-clause-within c =
    let is = c.split_at.ensures.back ∙ ap (drop c.args.front) c.loose.ensures in
    found-within c.args.front c.args.role c.args.end c.args.records.now c.requires c.in_ok-found.found
    (c.in_ok-found.ensures c.requires.parts.0 (is ∙ c.requires.parts.1))

pub returns : goal.returns
returns c =
    let is = c.split_at.ensures.back ∙ ap (drop c.args.front) c.loose.ensures in
    part-taken c.args.front c.args.role c.args.end c.args.records.now c.requires c.in_ok-found.found
    (c.in_ok-found.ensures c.requires.parts.0 (is ∙ c.requires.parts.1)) c.use_up.new.records c.use_up.ensures
