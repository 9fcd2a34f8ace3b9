use Rattle.std.proofs.Common.{◌≡◌, ◌+◌, ◌<◌, ◌^◌, arith, sym, ap, subst, length, Some}
use Rattle.std.specs.Prelude.{IfSome, is_some}
use Rattle.mf_rows.specs.RecordUnits.{AreWide}
use Rattle.mf_rows.specs.Units.{part_in, part_unit}
use Rattle.mf_rows.specs.Told.{record_at, IsChanged}
use Rattle.mf_rows.specs.Changes.{with_new_point, TakesPoint}
use Rattle.feature_model.specs.Points.{Point}
use Rattle.mf_rows.proofs.Changed.{spot-changed, ring-changed, at-within, at-unit, few-points, one}
use Rattle.mf_rows.proofs.changes.put_point.Goals as goal

pub push_unit-requires-clause-few : goal.push_unit-requires-clause-few
push_unit-requires-clause-few c = let units = c.args.units.now in
    omega (arith, c.requires.end, c.requires.small, units.ok.0, units.ok.1)

pub returns-in-Node-clause-changed : goal.returns-in-Node-clause-changed
returns-in-Node-clause-changed c =
    let units = c.args.units.now.items in
    let k = c.args.kept.now in
    let p : Point = record { node = c.args.node; place = c.args.place } in
    let new = c.push_unit.new.units in
    let later = new.items in
    let wide : AreWide later = subst AreWide c.deref.ensures.value c.are_wide.ensures in
    let few : length later < 2 ^ 62 =
    omega (arith, new.ok.0, new.ok.1, c.push_unit.ensures.capacity, c.requires.small) in
    let takes = subst (λ kind. TakesPoint kind (record_at units k).spot (record_at units k).parts) c.in-Node.is
    c.requires.takes in
    subst (IsChanged units k (with_new_point p (record_at units k)) later) (sym c.push_unit.ensures.kept)
    (spot-changed units k c.requires.kept c.requires.end later wide few c.told_point-unit.result
    c.push_unit.ensures.units c.in-Node.is takes p (sym c.told_point-unit.ensures))

pub overflow_add-at-in-Way : goal.overflow_add-at-in-Way
overflow_add-at-in-Way c =
    let units = c.args.units.now in
    let few : length units.items < 2 ^ 62 = omega (arith, c.requires.small, units.ok.0, units.ok.1) in
    let within =
    at-within units.items c.args.kept.now c.requires.kept c.requires.end few c.in-Way.is c.requires.takes in
    omega (arith, within, few)

pub overflow_add-at-in-Way-2 : goal.overflow_add-at-in-Way-2
overflow_add-at-in-Way-2 c =
    let units = c.args.units.now in
    let few : length units.items < 2 ^ 62 = omega (arith, c.requires.small, units.ok.0, units.ok.1) in
    let within =
    at-within units.items c.args.kept.now c.requires.kept c.requires.end few c.in-Way.is c.requires.takes in
    omega (arith, within, few)

pub index-requires : goal.index-requires
index-requires c =
    let units = c.args.units.now in
    let few : length units.items < 2 ^ 62 = omega (arith, c.requires.small, units.ok.0, units.ok.1) in
    let within =
    at-within units.items c.args.kept.now c.requires.kept c.requires.end few c.in-Way.is c.requires.takes in
    omega (arith, within, units.ok.0)

pub index_mut-requires : goal.index_mut-requires
index_mut-requires c =
    let units = c.args.units.now in
    let few : length units.items < 2 ^ 62 = omega (arith, c.requires.small, units.ok.0, units.ok.1) in
    let within =
    at-within units.items c.args.kept.now c.requires.kept c.requires.end few c.in-Way.is c.requires.takes in
    omega (arith, within, units.ok.0)

pub with_more-requires : goal.with_more-requires
with_more-requires c =
    let units = c.args.units.now in
    let few : length units.items < 2 ^ 62 = omega (arith, c.requires.small, units.ok.0, units.ok.1) in
    let told = at-unit units.items c.args.kept.now c.requires.kept c.requires.end few c.in-Way.is c.requires.takes
    c.index.result.now c.index.ensures in
    record {
      there = ap is_some told;
      few = subst (λ o. IfSome o (λ q. q.1 < 2 ^ 62)) (sym told)
          (few-points units.items c.args.kept.now c.requires.kept c.requires.end few c.in-Way.is c.requires.takes);
    }

pub returns-in-Way-clause-changed : goal.returns-in-Way-clause-changed
returns-in-Way-clause-changed c =
    let units = c.args.units.now.items in
    let k = c.args.kept.now in
    let r = record_at units k in
    let p : Point = record { node = c.args.node; place = c.args.place } in
    let small : length units < 2 ^ 62 =
    omega (arith, c.requires.small, c.args.units.now.ok.0, c.args.units.now.ok.1) in
    let last = one units k c.requires.kept c.requires.end small c.in-Way.is c.requires.takes in
    let told : part_in c.index.result.now ≡ Some (last.role, last.n) =
    at-unit units k c.requires.kept c.requires.end small c.in-Way.is c.requires.takes c.index.result.now
    c.index.ensures in
    let more : c.with_more.result ≡ part_unit last.role (last.n + 1) =
    subst (λ o. IfSome o (λ q. c.with_more.result ≡ part_unit q.0 (q.1 + 1))) told c.with_more.ensures in
    let new = c.push_unit-in-Way.new.units in
    let wide : AreWide new.items = subst AreWide c.deref-in-Way.ensures.value c.are_wide-in-Way.ensures in
    let few : length new.items < 2 ^ 62 =
    omega (arith, new.ok.0, new.ok.1, c.push_unit-in-Way.ensures.capacity, c.requires.small) in
    subst (IsChanged units k (with_new_point p r) new.items) (sym c.push_unit-in-Way.ensures.kept)
    (ring-changed units k c.requires.kept c.requires.end new.items wide few c.told_point-unit.result small
    c.in-Way.is c.requires.takes c.with_more.result more c.push_unit-in-Way.ensures.units p
    (sym c.told_point-unit.ensures))
