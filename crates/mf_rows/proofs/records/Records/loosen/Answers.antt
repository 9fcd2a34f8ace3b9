use Rattle.std.proofs.Common.{◌∙◌, vec_capacity, refl}
use Rattle.mf_rows.proofs.KeptLaws.{front-kept, first-within, loosened}
use Rattle.mf_rows.proofs.records.Records.loosen.Goals as goal

pub invariant_of-self : goal.invariant_of-self
invariant_of-self c =
    let s = c.self.inside in
    let v = c.self.invariant in (
      front-kept s.units.items s.kept.items s.closed (vec_capacity s.units) c.args.self.now v.0 v.1 c.self.view_is
          c.requires.none c.pop.new.self.items c.in-Some.kept c.in-Some.ensures.items,
      first-within s.units.items s.kept.items s.closed (vec_capacity s.units) c.args.self.now v.0 v.1 c.self.view_is
          c.requires.none c.pop.new.self.items c.in-Some.kept c.in-Some.ensures.items,
      c.pop.ensures.capacity ∙ v.2,
      v.3,
    )

pub returns-in-Some : goal.returns-in-Some
returns-in-Some c =
    let s = c.self.inside in
    let v = c.self.invariant in
    loosened s.units.items s.kept.items s.closed (vec_capacity s.units) c.args.self.now v.0 v.1 c.self.view_is
    c.requires.none c.pop.new.self.items c.in-Some.kept c.in-Some.ensures.items (vec_capacity s.units) refl
