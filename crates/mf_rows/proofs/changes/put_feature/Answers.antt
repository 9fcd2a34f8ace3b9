use Rattle.std.proofs.Common.{◌+◌, ◌<◌, ◌^◌, arith, subst, length, refl}
use Rattle.mf_rows.specs.RecordUnits.{AreWide}
use Rattle.std.specs.Prelude.{slice_set}
use Rattle.mf_rows.proofs.FeatureSet.{feature-changed}
use Rattle.mf_rows.proofs.changes.put_feature.Goals as goal

pub returns-clause-changed : goal.returns-clause-changed
returns-clause-changed c =
    let units = c.args.units.now.items in
    let k = c.args.kept.now in
    let later = slice_set (slice_set units k.first c.head_unit.result) (k.first + 1) c.head_unit-2.result in
    let wide : AreWide later = subst AreWide c.deref.ensures.value c.are_wide.ensures in
    let few : length units < 2 ^ 62 =
    omega (arith, c.requires.small, c.args.units.now.ok.0, c.args.units.now.ok.1) in
    feature-changed units later k c.requires.kept c.requires.end wide few c.args.number c.args.weight c.known.ensures
    c.known-2.ensures c.head_unit.result c.head_unit-2.result c.head_unit.ensures c.head_unit-2.ensures refl
