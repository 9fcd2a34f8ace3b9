use Rattle.std.proofs.Common.{◌≡◌, ◌+◌, ◌-◌, ◌<◌, ◌≤◌, ◌++◌, arith, length, take, drop, sym, ap, subst, ◌∙◌}
use Rattle.std.proofs.Common.{length-append}
use Rattle.std.proofs.lemmas.List.{length-drop, drop-drop}
use Rattle.std.proofs.lemmas.Result.{on_ok_weaker, on_err_weaker}
use Rattle.mf_edge.specs.Spill.{SpillState}
use Rattle.mf_rows.specs.Kinds.{index_kind}
use Rattle.spill_parts.specs.Parts.{IsReading}
use Rattle.mf_layout.specs.SubFiles.{entries_told, tiles_size}
use Rattle.mf_layout.proofs.Answered.{on_err}
use Rattle.mf_layout.proofs.Entries.{tiles-one, entries-some, entry-put, tiles-left, entries-none}
use Rattle.mf_layout.proofs.Pending.{put-front, put-none, put-room, put-same, put-all}
use Rattle.mf_layout.proofs.Unchanged.{unchanged}
use Rattle.mf_layout.proofs.index_out.put_index.Goals as goal

pub returns-in_err-make_room-clause-front : goal.returns-in_err-make_room-clause-front
returns-in_err-make_room-clause-front g c = on_err c.from_residual.result (λ told.
    let l = c.loop-left in
    put-front _ _ _ _ l.buffer.bytes (entries_told l.offset (take l.left l.rows.left)) (l.invariant.put told)
    c.in_err-make_room.ensures.front)

pub put_next-requires-clause-fits : goal.put_next-requires-clause-fits
put_next-requires-clause-fits g c = λ told.
    let l = c.loop-left in
    let some : 0 < l.left = c.loop-left-test.true in
    let fits : l.offset + tiles_size (take 1 l.rows.left) ≤ c.args.size.bytes =
    omega (
      arith,
      l.invariant.fits (sym (ap (λ (s : SpillState). s.tells) l.invariant.same) ∙ told),
      tiles-one l.rows.left l.left some,
    ) in
    fits

pub returns-in_err-offset-clause-front : goal.returns-in_err-offset-clause-front
returns-in_err-offset-clause-front g c = on_err c.from_residual-in_err-offset.result (λ told.
    let l = c.loop-left in
    let some : 0 < l.left = c.loop-left-test.true in
    let there : 0 < length l.rows.left = omega (arith, some, l.invariant.some) in
    let rest = entries_told l.offset (take l.left l.rows.left) in
    let left = c.make_room.new.buffer.bytes in
    put-none _ _ _ (left ++ rest)
    (put-room _ _ _ _ l.buffer.bytes left rest (l.invariant.put told) c.in_ok-make_room.ensures.all)
    (omega (arith, length-append left rest, entries-some l.offset l.rows.left l.left some there)))

pub loop-left-preserved : goal.loop-left-preserved
loop-left-preserved g c =
    let l = c.loop-left in
    let I = l.invariant in
    let some : 0 < l.left = c.loop-left-test.true in
    let put = c.in_ok-offset.ensures in
    let store = g.P.Spill.state c.args.spill.now in
    let tells = ap (λ (s : SpillState). s.tells) I.same in
    let same : g.P.Spill.state c.put_next.new.spill ≡ store = unchanged put.same put.same_faults ∙ I.same in
    let far : c.args.size.tiles - l.left + 1 ≡ c.args.size.tiles - (l.left - 1) = omega (arith, some, I.few) in
    record {
      few = omega (arith, I.few);
      rest = put.left ∙ ap (drop 1) I.rest ∙ drop-drop 1 (c.args.size.tiles - l.left) c.args.rows.now.left
          ∙ ap (λ n. drop n c.args.rows.now.left) far;
      some = omega (arith, I.some, ap length put.left, length-drop 1 l.rows.left);
      offset = put.within;
      fits = λ told. tiles-left l.offset c.in_ok-offset.offset c.args.size.bytes l.rows.left c.put_next.new.rows.left
          l.left some (put.offset (tells ∙ told)) put.left (I.fits told);
      put = λ told. put-same _ _ _ _ _
          (entry-put c.make_room.new.buffer.bytes c.put_next.new.buffer.bytes l.offset c.in_ok-offset.offset l.rows.left
          c.put_next.new.rows.left l.left some (put.put (tells ∙ told)) (put.offset (tells ∙ told)) put.left)
          (put-room _ _ _ _ l.buffer.bytes c.make_room.new.buffer.bytes
          (entries_told l.offset (take l.left l.rows.left)) (I.put told) c.in_ok-make_room.ensures.all);
      capacity = put.capacity ∙ c.make_room.ensures.capacity ∙ I.capacity;
      reading = subst (IsReading index_kind c.put_next.new.rows c.put_next.new.page) same put.reading;
      source = put.source ∙ I.source;
      steps = omega (arith, I.steps, put.steps);
      same_room = put.same_room ∙ I.same_room;
      same_output = c.in_ok-make_room.ensures.same_faults ∙ I.same_output;
      same = same;
    }

pub returns-clause-all : goal.returns-clause-all
returns-clause-all g c =
    let l = c.loop-left in
    let none : l.left ≡ 0 = omega (arith, c.loop-left-test.false) in
    on_ok_weaker c.flush.result (λ all told. put-all _ _ _ _ l.buffer.bytes
    (put-same _ _ _ _ _ (entries-none l.buffer.bytes l.offset l.rows.left l.left none) (l.invariant.put told)) all)
    c.flush.ensures.all

pub returns-clause-front : goal.returns-clause-front
returns-clause-front g c =
    let l = c.loop-left in
    on_err_weaker c.flush.result (λ front told. put-front _ _ _ _ l.buffer.bytes
    (entries_told l.offset (take l.left l.rows.left)) (l.invariant.put told) front) c.flush.ensures.front
