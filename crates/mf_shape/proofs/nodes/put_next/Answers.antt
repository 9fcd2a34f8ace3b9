use Rattle.std.proofs.Common.{◌≡◌, ◌-◌, ◌≤◌, ◌<◌, length, Some, sym, ap, subst, ◌∙◌, arith}
use Rattle.std.specs.Prelude.{take}
use Rattle.mf_rows.specs.Desks.{Desktop, used, units_in}
use Rattle.mf_rows.specs.RecordUnits.{record_in, units_of, unit_count}
use Rattle.unit_rows.proofs.Loads.{take-all}
use Rattle.mf_shape.specs.Numbered.{IsOneMore}
use Rattle.mf_shape.proofs.Turns.{next-is, over-is, so-far-now, same-fault}
use Rattle.mf_shape.proofs.nodes.put_next.Goals as goal

pub returns-then-loaded-from-clause-limit : goal.returns-then-loaded-from-clause-limit
returns-then-loaded-from-clause-limit g c f is told all each was =
    let capacity = c.args.records.now.capacity in
    let left = c.args.reader.now.left in
    let next = next-is all was.done was.left c.args.first.now left was.whole each was.rest_is in
    let none : used c.clear.new.self ≡ 0 = ap used c.clear.ensures in
    let room : c.clear.new.self.capacity ≡ capacity = ap (λ (d : Desktop). d.capacity) c.clear.ensures in
    let over : capacity < c.in_ok-loaded.loaded.units =
    omega (arith, c.if-loaded-from.true, c.from.ensures, c.spare-limit.ensures.rest, none, room) in
    over-is capacity c.in_ok-loaded.loaded.units all was.done c.args.first.now left next was.numbered_are.light
    (c.in_ok-loaded.ensures.units told) over
    ∙ ap Some (sym c.over.ensures ∙ same-fault c.over.result f is)

pub returns-clause-so_far : goal.returns-clause-so_far
returns-clause-so_far g c told all each was =
    let capacity = c.args.records.now.capacity in
    let left = c.args.reader.now.left in
    let next = next-is all was.done was.left c.args.first.now left was.whole each was.rest_is in
    let r = next.next in
    let loaded = c.in_ok-loaded.ensures in
    let loose = c.load_record.new.records.loose in
    let none : used c.clear.new.self ≡ 0 = ap used c.clear.ensures in
    let empty : units_in c.clear.new.self.records ≡ 0 = ap (λ (d : Desktop). units_in d.records) c.clear.ensures in
    let room : c.clear.new.self.capacity ≡ capacity = ap (λ (d : Desktop). d.capacity) c.clear.ensures in
    let units : c.in_ok-loaded.loaded.units ≡ unit_count r = loaded.units told ∙ next.many in
    let few : unit_count r ≤ capacity =
    omega (arith, units, c.if-loaded-from.false, c.from.ensures, c.spare-limit.ensures.rest, none, room) in
    let all_room : length (units_of r) ≤ c.clear.new.self.capacity - units_in c.clear.new.self.records =
    omega (arith, few, next.spelled.counted, empty, room) in
    let whole : loose ≡ units_of r =
    loaded.loose told
    ∙ ap (λ us. take (c.clear.new.self.capacity - units_in c.clear.new.self.records) us) next.units
    ∙ take-all (c.clear.new.self.capacity - units_in c.clear.new.self.records) (units_of r) all_room in
    let put : IsOneMore r (length loose) c.in_ok-loaded.loaded.units c.args.out.now.rows c.put_feature.new.out.rows
    c.args.counts.now c.put_feature.new.counts =
    c.in_ok-put_feature.ensures.made r (ap record_in whole ∙ next.spelled.whole) in
    so-far-now capacity was.done r c.args.out.now.rows c.put_feature.new.out.rows c.args.counts.now
    c.put_feature.new.counts few was.numbered_are was.counted_are
    (subst (λ n. IsOneMore r n (unit_count r) c.args.out.now.rows c.put_feature.new.out.rows c.args.counts.now
    c.put_feature.new.counts) (ap length whole ∙ next.spelled.counted)
    (subst (λ n. IsOneMore r (length loose) n c.args.out.now.rows c.put_feature.new.out.rows c.args.counts.now
    c.put_feature.new.counts) units put))
    all next.more _ next.whole (loaded.rest told ∙ next.behind)
