use Rattle.std.proofs.Common.{◌≡◌, ◌+◌, ◌-◌, ◌*◌, true, arith, rules, length, drop, ap, subst, ◌∙◌}
use Rattle.std.proofs.lemmas.Result.{on_err_weaker}
use Rattle.mf_edge.specs.Device.{Gained, GainedFront}
use Rattle.mf_edge.specs.Spill.{SpillState, stretch}
use Rattle.mf_rows.specs.declared.kinds.IndexRow.{IndexRow}
use Rattle.spill_parts.specs.Parts.{Part}
use Rattle.mf_layout.specs.SubFiles.{sub_files_told}
use Rattle.mf_layout.proofs.Answered.{on_err}
use Rattle.mf_layout.proofs.SubFilesPut.{sizes-room, first-within, first-front, others-front}
use Rattle.mf_layout.proofs.Unchanged.{unchanged}
use Rattle.mf_layout.proofs.sub_files_out.+put_sub_files.Goals as goal

pub returns-in_err-put_index-clause-most : goal.returns-in_err-put_index-clause-most
returns-in_err-put_index-clause-most g t c =
    omega (arith, c.requires.bytes, sizes-room c.args.sizes.now c.requires.each, c.in_err-put_index.ensures.most)

pub overflow_add-end : goal.overflow_add-end
overflow_add-end g t c =
    let within = first-within c.args.sizes.now c.in-Some.others.now c.in-Some.first.now c.args.at c.args.tiles.now.size
    c.in-Some.ensures.cases.0 c.requires.each c.requires.bytes in
    omega (arith, within, c.len-whole.ensures.small)

pub put_stretch-requires-clause-range : goal.put_stretch-requires-clause-range
put_stretch-requires-clause-range g t c =
    first-within c.args.sizes.now c.in-Some.others.now c.in-Some.first.now c.args.at c.args.tiles.now.size
    c.in-Some.ensures.cases.0 c.requires.each c.requires.bytes

pub returns-in_err-put_stretch-clause-front : goal.returns-in_err-put_stretch-clause-front
returns-in_err-put_stretch-clause-front g t c = on_err c.from_residual-in_err-put_stretch.result (λ told.
    let index = c.in_ok-put_index.ensures in
    let first = c.in-Some.first.now in
    let at = c.args.at in
    let part = c.args.tiles.now.part in
    let store = g.P.Spill.state c.args.spill.now in
    let now : g.P.Spill.state c.put_index.new.spill ≡ store =
    unchanged index.same (index.same_store (λ e. search (e, rules))) in
    let n = at + (first.bytes - 5 * first.tiles) - at in
    let size : n ≡ first.bytes - 5 * first.tiles = omega arith in
    let front = subst (λ (s : SpillState). s.tells ≡ true
    → GainedFront (g.K.Sink.state c.put_index.new.out) (stretch s part at n) (g.K.Sink.state c.put_stretch.new.out))
    now c.in_err-put_stretch.ensures.front told in
    first-front _ _ _ c.args.sizes.now c.in-Some.others.now first c.args.rows.now.left (drop at (store.bytes part)) n
    c.in-Some.ensures.cases.0 size (index.all told) front)

pub returns-in_err-put_stretch-clause-most : goal.returns-in_err-put_stretch-clause-most
returns-in_err-put_stretch-clause-most g t c =
    let index = c.in_ok-put_index.ensures in
    let within = first-within c.args.sizes.now c.in-Some.others.now c.in-Some.first.now c.args.at c.args.tiles.now.size
    c.in-Some.ensures.cases.0 c.requires.each c.requires.bytes in
    let source = ap (λ (p : Part IndexRow). length p.rows) index.source in
    omega (arith, index.steps, index.reading.some, source, within, c.in_err-put_stretch.ensures.most)

pub returns-clause-front : goal.returns-clause-front
returns-clause-front g t c = on_err_weaker c.put_sub_files.result (λ front told.
    let index = c.in_ok-put_index.ensures in
    let tiles = c.in_ok-put_stretch.ensures in
    let first = c.in-Some.first.now in
    let at = c.args.at in
    let part = c.args.tiles.now.part in
    let store = g.P.Spill.state c.args.spill.now in
    let now : g.P.Spill.state c.put_index.new.spill ≡ store =
    unchanged index.same (index.same_store (λ e. search (e, rules))) in
    let later : g.P.Spill.state c.put_stretch.new.spill ≡ store =
    unchanged tiles.same (tiles.same_store (λ e. search (e, rules))) ∙ now in
    let n = at + (first.bytes - 5 * first.tiles) - at in
    let size : n ≡ first.bytes - 5 * first.tiles = omega arith in
    let end : at + (first.bytes - 5 * first.tiles) ≡ at + n = omega arith in
    let put = subst (λ (s : SpillState). s.tells ≡ true
    → Gained (g.K.Sink.state c.put_index.new.out) (stretch s part at n) (g.K.Sink.state c.put_stretch.new.out))
    now tiles.all told in
    let rest = subst (λ (s : SpillState). s.tells ≡ true
    → GainedFront (g.K.Sink.state c.put_stretch.new.out)
    (sub_files_told c.in-Some.others.now c.put_index.new.rows.left
    (drop (at + (first.bytes - 5 * first.tiles)) (s.bytes part))) (g.K.Sink.state c.put_sub_files.new.out))
    later front told in
    others-front _ _ _ _ c.args.sizes.now c.in-Some.others.now first c.args.rows.now.left c.put_index.new.rows.left
    (store.bytes part) at n c.in-Some.ensures.cases.0 size index.left (index.all told) put
    (subst (λ k. GainedFront (g.K.Sink.state c.put_stretch.new.out) (sub_files_told c.in-Some.others.now
    c.put_index.new.rows.left (drop k (store.bytes part))) (g.K.Sink.state c.put_sub_files.new.out)) end rest))
    c.put_sub_files.ensures.front
