use Rattle.std.proofs.Common.{◌/◌, ◌∙◌, ap, sym, vec_capacity, arith}
use Rattle.mf_rows.proofs.KeptLaws.{in-use, room-is, longer, put-kept, put-seen}
use Rattle.mf_rows.proofs.records.Records.add_unit.Goals as goal

pub push_reserved-requires : goal.push_reserved-requires
push_reserved-requires c =
    let s = c.self.inside in
    let v = c.self.invariant in
    omega (
      arith,
      in-use s.units.items s.kept.items s.closed (vec_capacity s.units) c.args.self.now v.0 v.1 c.self.view_is,
      room-is s.units.items s.kept.items s.closed (vec_capacity s.units) c.args.self.now v.0 v.1 c.self.view_is,
      s.units.ok.0,
      c.requires.spare,
    )

pub invariant_of-self : goal.invariant_of-self
invariant_of-self c =
    let s = c.self.inside in
    let v = c.self.invariant in
    let new = c.push_reserved.ensures in (
      put-kept s.units.items s.kept.items s.closed (vec_capacity s.units) c.args.self.now v.0 v.1 c.self.view_is
          c.push_reserved.new.self.items c.args.unit.now new.items,
      longer s.units.items s.kept.items s.closed (vec_capacity s.units) c.args.self.now v.0 v.1 c.self.view_is
          c.push_reserved.new.self.items c.args.unit.now new.items,
      v.2 ∙ ap (λ n. n / 10) (sym new.capacity),
      rw new.capacity v.3,
    )

pub returns : goal.returns
returns c =
    let s = c.self.inside in
    let v = c.self.invariant in
    let new = c.push_reserved.ensures in
    put-seen s.units.items s.kept.items s.closed (vec_capacity s.units) c.args.self.now v.0 v.1 c.self.view_is
    c.push_reserved.new.self.items c.args.unit.now new.items (vec_capacity c.push_reserved.new.self) new.capacity
