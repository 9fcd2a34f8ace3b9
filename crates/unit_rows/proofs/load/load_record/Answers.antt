use Rattle.std.proofs.Common.{◌≡◌, ◌+◌, ◌-◌, List, [], ◌∷◌, ◌++◌, length, sym, ap, subst, ◌∙◌, arith}
use Rattle.std.specs.Prelude.{take}
use Rattle.mf_edge.specs.Spill.{SpillState}
use Rattle.mf_rows.specs.Desks.{units_in}
use Rattle.unit_rows.specs.Runs.{going_on, next_on, held_units}
use Rattle.unit_rows.proofs.Loads.{IsLoading, loading-first, loading-next, loading-ends, rest-told, rest-counted}
use Rattle.unit_rows.proofs.Loads.{read-then, one-held}
use Rattle.unit_rows.proofs.load.load_record.Goals as goal

pub loop-records-init : goal.loop-records-init
loop-records-init g c =
    let unit = g.K.UnitRow.unit_of in
    let place = g.K.UnitRow.place_of in
    let old = c.args.records.now in
    let room = old.capacity - units_in old.records in
    let left = c.args.reader.now.left in
    let read = c.in_ok-next.ensures in
    let put = c.add_if_room.ensures in
    record {
      same = read.same;
      same_faults = read.same_faults;
      reading = read.reading;
      source = read.same_source;
      room = read.same_room;
      records = put.records;
      capacity = put.capacity;
      loading = λ told. subst (λ (rows : List g.row.K.Denot). IsLoading unit place room
          (c.args.first.now ∷ going_on place left) (next_on place left) rows 1 c.add_if_room.new.records.loose)
          (sym (rest-told _ left c.in_ok-next.next c.next.new.self.left read.next told))
          (loading-first unit place room c.args.first.now left c.add_if_room.new.records.loose
          (put.loose
          ∙ (λ i. take room (c.requires.none i ++ c.unit.ensures i ∷ []))));
      counted = ap (λ n. 1 + n) (rest-counted _ left c.in_ok-next.next c.next.new.self.left read.next);
      few = omega (arith, put.longer, ap length c.requires.none);
      some = omega arith;
      steps = read.steps;
      within = read.within;
    }

pub overflow_add-units : goal.overflow_add-units
overflow_add-units g c = omega (arith, c.loop-records.invariant.counted, c.requires.few)

pub loop-records-preserved : goal.loop-records-preserved
loop-records-preserved g c =
    let unit = g.K.UnitRow.unit_of in
    let place = g.K.UnitRow.place_of in
    let I = c.loop-records.invariant in
    let old = c.args.records.now in
    let room = old.capacity - units_in old.records in
    let left = c.args.reader.now.left in
    let here = c.loop-records.reader.left in
    let read = c.in_ok-next-2.ensures in
    let put = c.add_held.ensures in
    let on = sym c.goes_on.ensures ∙ c.loop-records-test.true in
    let same-room : c.loop-records.records.capacity - units_in c.loop-records.records.records ≡ room =
    λ i. I.capacity i - units_in (I.records i) in
    let one = one-held place c.loop-records.next here on in
    let counted = rest-counted _ here c.in_ok-next-2.next c.next-in-loop-records.new.self.left read.next in
    record {
      same = read-then (g.P.Spill.state c.args.spill.now) (g.P.Spill.state c.loop-records.spill)
          (g.P.Spill.state c.next-in-loop-records.new.spill) I.same read.same;
      same_faults = read.same_faults ∙ I.same_faults;
      reading = read.reading;
      source = read.same_source ∙ I.source;
      room = read.same_room ∙ I.room;
      records = put.records ∙ I.records;
      capacity = put.capacity ∙ I.capacity;
      loading = λ told. subst (λ (rows : List g.row.K.Denot). IsLoading unit place room
          (c.args.first.now ∷ going_on place left) (next_on place left) rows (c.loop-records.units + 1)
          c.add_held.new.records.loose)
          (sym (rest-told _ here c.in_ok-next-2.next c.next-in-loop-records.new.self.left read.next
          (ap (λ (s : SpillState). s.tells) I.same ∙ told)))
          (loading-next unit place room (c.args.first.now ∷ going_on place left) (next_on place left)
          c.loop-records.next here c.loop-records.units c.loop-records.records.loose c.add_held.new.records.loose on
          (put.loose ∙ ap (λ n. take n (c.loop-records.records.loose ++ held_units unit c.loop-records.next)) same-room)
          (I.loading told));
      counted = omega (arith, one, counted, I.counted);
      few = omega (arith, put.longer, I.few);
      some = omega arith;
      steps = omega (arith, read.steps, I.steps);
      within = read.within;
    }

pub returns-clause-loose : goal.returns-clause-loose
returns-clause-loose g c told =
    let old = c.args.records.now in
    (loading-ends g.K.UnitRow.unit_of g.K.UnitRow.place_of (old.capacity - units_in old.records) _ _ c.loop-records.next
    c.loop-records.reader.left c.loop-records.units c.loop-records.records.loose
    (sym c.goes_on.ensures ∙ c.loop-records-test.false) (c.loop-records.invariant.loading told)).0

pub returns-clause-units : goal.returns-clause-units
returns-clause-units g c told =
    let old = c.args.records.now in
    let end = loading-ends g.K.UnitRow.unit_of g.K.UnitRow.place_of (old.capacity - units_in old.records) _ _ c.loop-records.next
    c.loop-records.reader.left c.loop-records.units c.loop-records.records.loose
    (sym c.goes_on.ensures ∙ c.loop-records-test.false) (c.loop-records.invariant.loading told) in
    omega (arith, end.1)

pub returns-clause-rest : goal.returns-clause-rest
returns-clause-rest g c told =
    let old = c.args.records.now in
    (loading-ends g.K.UnitRow.unit_of g.K.UnitRow.place_of (old.capacity - units_in old.records) _ _ c.loop-records.next
    c.loop-records.reader.left c.loop-records.units c.loop-records.records.loose
    (sym c.goes_on.ensures ∙ c.loop-records-test.false) (c.loop-records.invariant.loading told)).2
