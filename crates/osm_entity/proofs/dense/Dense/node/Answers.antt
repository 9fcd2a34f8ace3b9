use Rattle.std.proofs.Common.{◌≡◌, ◌∙◌, sym, ap, rules, refl, Err}
use Rattle.mf_base.specs.TagCursor.{all_tags}
use Rattle.osm_model.specs.Objects.{run_tags, next_run}
use Rattle.osm_entity.specs.Answers.{answer_as}
use Rattle.osm_entity.specs.InBlock.{block_shown}
use Rattle.osm_entity.specs.Node.{node_told}
use Rattle.osm_entity.specs.Dense.{runs_left}
use Rattle.osm_entity.specs.DenseColumns.{numbers_shown}
use Rattle.osm_entity.proofs.NodeReads.{front_err, front_read, tagged-no_tags, tagged-is}
use Rattle.osm_entity.proofs.DenseReads.{dense-range, dense-in_range, sums-are}
use Rattle.osm_entity.proofs.dense.Dense.node.Goals as goal

pub returns-in_err-numbers-clause-told : goal.returns-in_err-numbers-clause-told
returns-in_err-numbers-clause-told c before behind =
    let e : c.from_residual.result ≡ Err c.in_err-numbers.field-0.0 = search rules in
    ap (answer_as (λ found. node_told found.0)) e
    ∙ dense-range before (block_shown c.args.in_block) (numbers_shown c.args.self.now.before)
    (numbers_shown c.args.differences) (next_run (runs_left c.args.self.now)) c.in_err-numbers.field-0.0
    (sym c.plus.ensures ∙ ap (answer_as numbers_shown) (c.in_err-numbers.was {u = tt}))

pub returns-in_err-id-clause-told : goal.returns-in_err-id-clause-told
returns-in_err-id-clause-told c before behind =
    let e : c.from_residual-in_err-id.result ≡ Err c.in_err-id.field-0.0 = search rules in
    let b = block_shown c.args.in_block in
    let s = c.in_ok-numbers.numbers in
    let run = next_run (runs_left c.args.self.now) in
    let front = front_read before b.head s.id s.lat s.lon c.check_node.result (search rules) (search rules)
    (search rules) (c.check_node.ensures before behind) in
    ap (answer_as (λ found. node_told found.0)) e
    ∙ front_err before b s.id s.lat s.lon c.in_err-id.field-0.0 (run_tags b.strings run)
    (sym front ∙ c.in_err-id.was {u = tt})
    ∙ sym (dense-in_range before b (numbers_shown c.args.self.now.before) (numbers_shown c.args.differences)
    (numbers_shown s) run (sym c.plus.ensures ∙ ap (answer_as numbers_shown) (c.in_ok-numbers.was {u = tt})))

pub returns-in_err-tags-clause-told : goal.returns-in_err-tags-clause-told
returns-in_err-tags-clause-told c before behind =
    let e : c.from_residual-in_err-tags.result ≡ Err c.in_err-tags.field-0.0 = search rules in
    let b = block_shown c.args.in_block in
    let s = c.in_ok-numbers.numbers in
    let run = next_run (runs_left c.args.self.now) in
    let front = front_read before b.head s.id s.lat s.lon c.check_node.result (search rules) (search rules)
    (search rules) (c.check_node.ensures before behind) in
    ap (answer_as (λ found. node_told found.0)) e
    ∙ tagged-no_tags before b s.id s.lat s.lon c.in_ok-id.id c.in_ok-id.place c.in_err-tags.field-0.0
    (run_tags b.strings run) (sym front ∙ c.in_ok-id.was {u = tt})
    (ap (answer_as (λ found. all_tags found.0)) (sym (c.in_err-tags.was {u = tt})) ∙ c.read_run.ensures.told)
    ∙ sym (dense-in_range before b (numbers_shown c.args.self.now.before) (numbers_shown c.args.differences)
    (numbers_shown s) run (sym c.plus.ensures ∙ ap (answer_as numbers_shown) (c.in_ok-numbers.was {u = tt})))

pub returns-clause-told : goal.returns-clause-told
returns-clause-told c before behind =
    let b = block_shown c.args.in_block in
    let s = c.in_ok-numbers.numbers in
    let run = next_run (runs_left c.args.self.now) in
    let front = front_read before b.head s.id s.lat s.lon c.check_node.result (search rules) (search rules)
    (search rules) (c.check_node.ensures before behind) in
    tagged-is before b s.id s.lat s.lon c.in_ok-id.id c.in_ok-id.place (all_tags c.in_ok-tags.tags) _
    (run_tags b.strings run) (sym front ∙ c.in_ok-id.was {u = tt})
    (ap (answer_as (λ found. all_tags found.0)) (sym (c.in_ok-tags.was {u = tt})) ∙ c.read_run.ensures.told)
    c.new-view.ensures.shown
    ∙ sym (dense-in_range before b (numbers_shown c.args.self.now.before) (numbers_shown c.args.differences)
    (numbers_shown s) run (sym c.plus.ensures ∙ ap (answer_as numbers_shown) (c.in_ok-numbers.was {u = tt})))

pub returns-clause-behind : goal.returns-clause-behind
returns-clause-behind c = record {
  columns_left = refl;
  numbers = sums-are (numbers_shown c.args.self.now.before) (numbers_shown c.args.differences)
      (numbers_shown c.in_ok-numbers.numbers)
      (sym c.plus.ensures ∙ ap (answer_as numbers_shown) (c.in_ok-numbers.was {u = tt}));
  runs = c.in_ok-tags.ensures.behind;
}
