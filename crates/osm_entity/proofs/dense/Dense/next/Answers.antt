use Rattle.std.proofs.Common.{◌≡◌, ◌∙◌, sym, ap, rules, Err}
use Rattle.osm_entity.specs.Answers.{answer_as}
use Rattle.osm_entity.specs.InBlock.{block_shown}
use Rattle.osm_entity.specs.Node.{node_told}
use Rattle.osm_model.specs.Objects.{next_run}
use Rattle.osm_entity.specs.Dense.{dense_left, runs_left}
use Rattle.osm_entity.specs.DenseColumns.{numbers_shown, sums_of}
use Rattle.osm_entity.proofs.ObjectKinds.{dense-later}
use Rattle.osm_entity.proofs.DenseNext.{object_of, next-left, next-fault}
use Rattle.osm_entity.proofs.dense.Dense.next.Goals as goal

pub returns-in_err-view-in-Some-clause-gives : goal.returns-in_err-view-in-Some-clause-gives
returns-in_err-view-in-Some-clause-gives c before behind =
    let e : c.from_residual.result ≡ Err c.in_err-view-in-Some.field-0.0 = search rules in
    let b = block_shown c.args.in_block in
    next-fault before b c.args.self.now c.in-Some.differences c.in-Some.columns c.from_residual.result
    c.in_err-view-in-Some.field-0.0 (dense_left b c.args.self.now) c.in-Some.ensures
    (ap (answer_as (λ found. node_told found.0)) (sym (c.in_err-view-in-Some.was {u = tt}))
    ∙ c.node.ensures.told before behind) e

pub returns-in_ok-view-in-Some-clause-gives : goal.returns-in_ok-view-in-Some-clause-gives
returns-in_ok-view-in-Some-clause-gives c before behind =
    let b = block_shown c.args.in_block in
    let placed_so = sym (ap (answer_as (λ found. node_told found.0)) (sym (c.in_ok-view-in-Some.was {u = tt}))
    ∙ c.node.ensures.told before behind) in (
      object_of b c.args.self.now c.in-Some.differences,
      next-left b c.args.self.now c.in_ok-view-in-Some.behind c.in-Some.differences c.in-Some.columns c.in-Some.ensures
          c.in_ok-view-in-Some.ensures.behind,
      placed_so,
      dense-later before b (sums_of (numbers_shown c.args.self.now.before) (numbers_shown c.in-Some.differences))
          (next_run (runs_left c.args.self.now)) (node_told c.in_ok-view-in-Some.view) placed_so,
    )

pub returns-in-None-clause-lent : goal.returns-in-None-clause-lent
returns-in-None-clause-lent c = c.end.ensures.lent c.args.in_block.block.now
