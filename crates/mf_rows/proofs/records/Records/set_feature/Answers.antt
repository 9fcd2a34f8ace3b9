use Rattle.std.proofs.Common.{◌≡◌, ◌+◌, ◌-◌, ◌/◌, ◌<◌, ◌∙◌, ap, sym, arith, length, vec_capacity}
use Rattle.mf_rows.specs.Changes.{with_feature}
use Rattle.mf_rows.proofs.KeptLaws.{in-use, room-is}
use Rattle.mf_rows.proofs.LastRecord.{some-kept, last-kept-is, all-closed-is, last-ends, changed-kept}
use Rattle.mf_rows.proofs.LastRecord.{changed-seen, changed-used}
use Rattle.mf_rows.proofs.records.Records.set_feature.Goals as goal

pub overflow_sub-last : goal.overflow_sub-last
overflow_sub-last c =
    let s = c.self.inside in
    let v = c.self.invariant in
    let units = s.units.items in
    let kept = s.kept.items in
    let cap = vec_capacity s.units in
    let d = c.args.self.now in
    let there : 0 < length d.records = c.requires.some in
    let some : 0 < length kept = some-kept units kept s.closed cap d v.0 v.1 c.self.view_is there in
    omega (arith, some, c.len-last.ensures, s.kept.ok.0)

pub index_mut-requires : goal.index_mut-requires
index_mut-requires c =
    let s = c.self.inside in
    let v = c.self.invariant in
    let units = s.units.items in
    let kept = s.kept.items in
    let cap = vec_capacity s.units in
    let d = c.args.self.now in
    let there : 0 < length d.records = c.requires.some in
    let some : 0 < length kept = some-kept units kept s.closed cap d v.0 v.1 c.self.view_is there in
    omega (arith, some, c.len-last.ensures, s.kept.ok.0)

pub put_feature-requires-clause-kept : goal.put_feature-requires-clause-kept
put_feature-requires-clause-kept c =
    let s = c.self.inside in
    let v = c.self.invariant in
    let units = s.units.items in
    let kept = s.kept.items in
    let cap = vec_capacity s.units in
    let d = c.args.self.now in
    let there : 0 < length d.records = c.requires.some in
    let some : 0 < length kept = some-kept units kept s.closed cap d v.0 v.1 c.self.view_is there in
    let end : c.len-last.result - 1 + 1 ≡ length kept = omega (arith, some, c.len-last.ensures, s.kept.ok.0) in
    last-kept-is units kept s.closed cap d v.0 v.1 c.self.view_is c.requires.none (c.len-last.result - 1)
    c.index_mut.result.now end c.index_mut.ensures.value

pub put_feature-requires-clause-end : goal.put_feature-requires-clause-end
put_feature-requires-clause-end c =
    let s = c.self.inside in
    let v = c.self.invariant in
    let units = s.units.items in
    let kept = s.kept.items in
    let cap = vec_capacity s.units in
    let d = c.args.self.now in
    let there : 0 < length d.records = c.requires.some in
    let some : 0 < length kept = some-kept units kept s.closed cap d v.0 v.1 c.self.view_is there in
    let end : c.len-last.result - 1 + 1 ≡ length kept = omega (arith, some, c.len-last.ensures, s.kept.ok.0) in
    last-ends units kept s.closed cap d v.0 v.1 c.self.view_is c.requires.none (c.len-last.result - 1)
    c.index_mut.result.now end c.index_mut.ensures.value

pub invariant_of-self : goal.invariant_of-self
invariant_of-self c =
    let s = c.self.inside in
    let v = c.self.invariant in
    let units = s.units.items in
    let kept = s.kept.items in
    let cap = vec_capacity s.units in
    let d = c.args.self.now in
    let there : 0 < length d.records = c.requires.some in
    let some : 0 < length kept = some-kept units kept s.closed cap d v.0 v.1 c.self.view_is there in
    let end : c.len-last.result - 1 + 1 ≡ length kept = omega (arith, some, c.len-last.ensures, s.kept.ok.0) in
    let new = c.put_feature.new in
    let f = with_feature c.args.number c.args.weight in
    let closed : length units ≡ s.closed =
    all-closed-is units kept s.closed cap d v.0 v.1 c.self.view_is c.requires.none (c.len-last.result - 1)
    c.index_mut.result.now end c.index_mut.ensures.value in
    let ends : s.closed ≡ length new.units.items = omega (arith, closed, c.put_feature.ensures.as_long) in (
      changed-kept units kept s.closed cap d v.0 v.1 c.self.view_is c.requires.none (c.len-last.result - 1)
          c.index_mut.result.now end c.index_mut.ensures.value
          new.units.items new.kept f c.put_feature.ensures.changed (s.closed) ends,
      omega (arith, ends),
      v.2 ∙ ap (λ n. n / 10) (sym c.put_feature.ensures.capacity),
      rw c.put_feature.ensures.capacity v.3,
    )

pub returns-clause-set : goal.returns-clause-set
returns-clause-set c =
    let s = c.self.inside in
    let v = c.self.invariant in
    let units = s.units.items in
    let kept = s.kept.items in
    let cap = vec_capacity s.units in
    let d = c.args.self.now in
    let there : 0 < length d.records = c.requires.some in
    let some : 0 < length kept = some-kept units kept s.closed cap d v.0 v.1 c.self.view_is there in
    let end : c.len-last.result - 1 + 1 ≡ length kept = omega (arith, some, c.len-last.ensures, s.kept.ok.0) in
    let new = c.put_feature.new in
    let f = with_feature c.args.number c.args.weight in
    let closed : length units ≡ s.closed =
    all-closed-is units kept s.closed cap d v.0 v.1 c.self.view_is c.requires.none (c.len-last.result - 1)
    c.index_mut.result.now end c.index_mut.ensures.value in
    let ends : s.closed ≡ length new.units.items = omega (arith, closed, c.put_feature.ensures.as_long) in
    changed-seen units kept s.closed cap d v.0 v.1 c.self.view_is c.requires.none (c.len-last.result - 1)
    c.index_mut.result.now end c.index_mut.ensures.value
    new.units.items new.kept f c.put_feature.ensures.changed (s.closed)
    (vec_capacity new.units) ends
    (c.put_feature.ensures.capacity ∙ sym (room-is units kept s.closed cap d v.0 v.1 c.self.view_is))

pub returns-clause-used : goal.returns-clause-used
returns-clause-used c =
    let s = c.self.inside in
    let v = c.self.invariant in
    let units = s.units.items in
    let kept = s.kept.items in
    let cap = vec_capacity s.units in
    let d = c.args.self.now in
    let there : 0 < length d.records = c.requires.some in
    let some : 0 < length kept = some-kept units kept s.closed cap d v.0 v.1 c.self.view_is there in
    let end : c.len-last.result - 1 + 1 ≡ length kept = omega (arith, some, c.len-last.ensures, s.kept.ok.0) in
    let new = c.put_feature.new in
    let f = with_feature c.args.number c.args.weight in
    let closed : length units ≡ s.closed =
    all-closed-is units kept s.closed cap d v.0 v.1 c.self.view_is c.requires.none (c.len-last.result - 1)
    c.index_mut.result.now end c.index_mut.ensures.value in
    let ends : s.closed ≡ length new.units.items = omega (arith, closed, c.put_feature.ensures.as_long) in
    omega (
      arith,
      changed-used units kept s.closed cap d v.0 v.1 c.self.view_is c.requires.none (c.len-last.result - 1)
          c.index_mut.result.now end c.index_mut.ensures.value
          new.units.items new.kept f c.put_feature.ensures.changed (s.closed)
          (vec_capacity new.units) ends,
      in-use units kept s.closed cap d v.0 v.1 c.self.view_is,
      c.put_feature.ensures.as_long,
    )
