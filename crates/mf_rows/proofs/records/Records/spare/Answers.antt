use Rattle.std.proofs.Common.{vec_capacity, arith}
use Rattle.mf_rows.proofs.KeptLaws.{in-use, room-is}
use Rattle.mf_rows.proofs.records.Records.spare.Goals as goal

pub returns-clause-rest : goal.returns-clause-rest
returns-clause-rest c =
    let s = c.self.inside in
    let v = c.self.invariant in
    omega (
      arith,
      in-use s.units.items s.kept.items s.closed (vec_capacity s.units) c.args.self.now v.0 v.1 c.self.view_is,
      room-is s.units.items s.kept.items s.closed (vec_capacity s.units) c.args.self.now v.0 v.1 c.self.view_is,
      s.units.ok.0,
      s.units.ok.1,
      c.capacity.ensures,
      c.len.ensures,
    )

pub returns-clause-most : goal.returns-clause-most
returns-clause-most c =
    let s = c.self.inside in
    let v = c.self.invariant in
    omega (
      arith,
      room-is s.units.items s.kept.items s.closed (vec_capacity s.units) c.args.self.now v.0 v.1 c.self.view_is,
      v.3,
    )
