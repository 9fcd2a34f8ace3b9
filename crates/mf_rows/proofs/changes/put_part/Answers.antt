use Rattle.std.proofs.Common.{◌-◌, ◌<◌, ◌^◌, refl, arith, sym, subst, length}
use Rattle.mf_rows.specs.RecordUnits.{AreWide}
use Rattle.mf_rows.specs.Told.{record_at, IsChanged}
use Rattle.mf_rows.specs.Changes.{with_new_part}
use Rattle.mf_rows.proofs.Changed.{part-changed}
use Rattle.mf_rows.proofs.changes.put_part.Goals as goal

pub push_unit-requires-clause-few : goal.push_unit-requires-clause-few
push_unit-requires-clause-few c = let units = c.args.units.now in
    omega (arith, c.requires.end, c.requires.small, units.ok.0, units.ok.1)

pub returns-clause-changed : goal.returns-clause-changed
returns-clause-changed c =
    let units = c.args.units.now.items in
    let k = c.args.kept.now in
    let new = c.push_unit.new.units in
    let later = new.items in
    let wide : AreWide later = subst AreWide c.deref.ensures.value c.are_wide.ensures in
    let few : length later < 2 ^ 62 =
    omega (arith, new.ok.0, new.ok.1, c.push_unit.ensures.capacity, c.requires.small) in
    subst (IsChanged units k (with_new_part c.args.role (record_at units k)) later) (sym c.push_unit.ensures.kept)
    (part-changed units k c.requires.kept c.requires.end later wide few c.part_unit.result c.push_unit.ensures.units
    c.args.role c.part_unit.ensures c.requires.takes (k.count - 10 - k.told.texts) refl)
