use Rattle.std.proofs.Common.{◌/◌, ◌∙◌, ap, sym, vec_capacity}
use Rattle.mf_rows.proofs.KeptLaws.{cut-long, cut-kept, cut-seen}
use Rattle.mf_rows.proofs.records.Records.cut_loose.Goals as goal

pub invariant_of-self : goal.invariant_of-self
invariant_of-self c =
    let s = c.self.inside in
    let v = c.self.invariant in
    let new = c.truncate.ensures in (
      cut-kept s.units.items s.kept.items s.closed (vec_capacity s.units) c.args.self.now v.0 v.1 c.self.view_is
          c.truncate.new.self.items c.args.n c.requires new.items,
      cut-long s.units.items s.kept.items s.closed (vec_capacity s.units) c.args.self.now v.0 v.1 c.self.view_is
          c.truncate.new.self.items c.args.n c.requires new.items,
      v.2 ∙ ap (λ n. n / 10) (sym new.capacity),
      rw new.capacity v.3,
    )

pub returns : goal.returns
returns c =
    let s = c.self.inside in
    let v = c.self.invariant in
    let new = c.truncate.ensures in
    cut-seen s.units.items s.kept.items s.closed (vec_capacity s.units) c.args.self.now v.0 v.1 c.self.view_is
    c.truncate.new.self.items c.args.n c.requires new.items (vec_capacity c.truncate.new.self) new.capacity
