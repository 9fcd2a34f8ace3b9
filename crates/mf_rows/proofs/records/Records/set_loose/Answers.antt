use Rattle.std.proofs.Common.{◌+◌, vec_capacity, refl}
use Rattle.std.specs.Prelude.{slice_set}
use Rattle.mf_rows.proofs.KeptLaws.{set-long, set-kept, set-seen}
use Rattle.mf_rows.proofs.records.Records.set_loose.Goals as goal

pub invariant_of-self : goal.invariant_of-self
invariant_of-self c =
    let s = c.self.inside in
    let v = c.self.invariant in
    let later = slice_set s.units.items (s.closed + c.args.i) c.args.unit.now in (
      set-kept s.units.items s.kept.items s.closed (vec_capacity s.units) c.args.self.now v.0 v.1 c.self.view_is
          later c.args.i c.args.unit.now c.requires refl,
      set-long s.units.items s.kept.items s.closed (vec_capacity s.units) c.args.self.now v.0 v.1 c.self.view_is
          later c.args.i c.args.unit.now c.requires refl,
      v.2,
      v.3,
    )

pub returns : goal.returns
returns c =
    let s = c.self.inside in
    let v = c.self.invariant in
    let later = slice_set s.units.items (s.closed + c.args.i) c.args.unit.now in
    set-seen s.units.items s.kept.items s.closed (vec_capacity s.units) c.args.self.now v.0 v.1 c.self.view_is
    later c.args.i c.args.unit.now c.requires refl (vec_capacity s.units) refl
