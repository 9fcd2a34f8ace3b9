use Rattle.std.proofs.Common.{◌≡◌, ◌+◌, ◌-◌, ◌/◌, ◌<◌, ◌∙◌, ap, sym, arith, length, vec_capacity}
use Rattle.mf_rows.specs.Records.{Record}
use Rattle.mf_rows.specs.Changes.{TakesPoint, with_new_point}
use Rattle.mf_rows.proofs.KeptLaws.{in-use, room-is}
use Rattle.mf_rows.proofs.LastRecord.{some-last, some-kept, last-kept-is, all-closed-is, last-ends, last-record}
use Rattle.mf_rows.proofs.LastRecord.{changed-kept, changed-seen, changed-used}
use Rattle.mf_rows.proofs.records.Records.add_point.Goals as goal

pub overflow_sub-last : goal.overflow_sub-last
overflow_sub-last c =
    let s = c.self.inside in
    let v = c.self.invariant in
    let units = s.units.items in
    let kept = s.kept.items in
    let cap = vec_capacity s.units in
    let d = c.args.self.now in
    let there : 0 < length d.records =
    some-last (λ (r : Record). TakesPoint r.head.kind r.spot r.parts) d.records c.requires.last in
    let some : 0 < length kept = some-kept units kept s.closed cap d v.0 v.1 c.self.view_is there in
    omega (arith, some, c.len-last.ensures, s.kept.ok.0)

pub index_mut-requires : goal.index_mut-requires
index_mut-requires c =
    let s = c.self.inside in
    let v = c.self.invariant in
    let units = s.units.items in
    let kept = s.kept.items in
    let cap = vec_capacity s.units in
    let d = c.args.self.now in
    let there : 0 < length d.records =
    some-last (λ (r : Record). TakesPoint r.head.kind r.spot r.parts) d.records c.requires.last in
    let some : 0 < length kept = some-kept units kept s.closed cap d v.0 v.1 c.self.view_is there in
    omega (arith, some, c.len-last.ensures, s.kept.ok.0)

pub put_point-requires-clause-kept : goal.put_point-requires-clause-kept
put_point-requires-clause-kept c =
    let s = c.self.inside in
    let v = c.self.invariant in
    let units = s.units.items in
    let kept = s.kept.items in
    let cap = vec_capacity s.units in
    let d = c.args.self.now in
    let there : 0 < length d.records =
    some-last (λ (r : Record). TakesPoint r.head.kind r.spot r.parts) d.records c.requires.last in
    let some : 0 < length kept = some-kept units kept s.closed cap d v.0 v.1 c.self.view_is there in
    let end : c.len-last.result - 1 + 1 ≡ length kept = omega (arith, some, c.len-last.ensures, s.kept.ok.0) in
    last-kept-is units kept s.closed cap d v.0 v.1 c.self.view_is c.requires.none (c.len-last.result - 1)
    c.index_mut.result.now end c.index_mut.ensures.value

pub put_point-requires-clause-end : goal.put_point-requires-clause-end
put_point-requires-clause-end c =
    let s = c.self.inside in
    let v = c.self.invariant in
    let units = s.units.items in
    let kept = s.kept.items in
    let cap = vec_capacity s.units in
    let d = c.args.self.now in
    let there : 0 < length d.records =
    some-last (λ (r : Record). TakesPoint r.head.kind r.spot r.parts) d.records c.requires.last in
    let some : 0 < length kept = some-kept units kept s.closed cap d v.0 v.1 c.self.view_is there in
    let end : c.len-last.result - 1 + 1 ≡ length kept = omega (arith, some, c.len-last.ensures, s.kept.ok.0) in
    last-ends units kept s.closed cap d v.0 v.1 c.self.view_is c.requires.none (c.len-last.result - 1)
    c.index_mut.result.now end c.index_mut.ensures.value

pub put_point-requires-clause-room : goal.put_point-requires-clause-room
put_point-requires-clause-room c =
    let s = c.self.inside in
    let v = c.self.invariant in
    let units = s.units.items in
    let kept = s.kept.items in
    let cap = vec_capacity s.units in
    let d = c.args.self.now in
    omega (
      arith,
      in-use units kept s.closed cap d v.0 v.1 c.self.view_is,
      room-is units kept s.closed cap d v.0 v.1 c.self.view_is,
      s.units.ok.0,
      c.requires.spare,
    )

pub put_point-requires-clause-takes : goal.put_point-requires-clause-takes
put_point-requires-clause-takes c =
    let s = c.self.inside in
    let v = c.self.invariant in
    let units = s.units.items in
    let kept = s.kept.items in
    let cap = vec_capacity s.units in
    let d = c.args.self.now in
    let there : 0 < length d.records =
    some-last (λ (r : Record). TakesPoint r.head.kind r.spot r.parts) d.records c.requires.last in
    let some : 0 < length kept = some-kept units kept s.closed cap d v.0 v.1 c.self.view_is there in
    let end : c.len-last.result - 1 + 1 ≡ length kept = omega (arith, some, c.len-last.ensures, s.kept.ok.0) in
    last-record units kept s.closed cap d v.0 v.1 c.self.view_is c.requires.none (c.len-last.result - 1)
    c.index_mut.result.now end c.index_mut.ensures.value
    (λ (r : Record). TakesPoint r.head.kind r.spot r.parts) c.requires.last

pub invariant_of-self : goal.invariant_of-self
invariant_of-self c =
    let s = c.self.inside in
    let v = c.self.invariant in
    let units = s.units.items in
    let kept = s.kept.items in
    let cap = vec_capacity s.units in
    let d = c.args.self.now in
    let there : 0 < length d.records =
    some-last (λ (r : Record). TakesPoint r.head.kind r.spot r.parts) d.records c.requires.last in
    let some : 0 < length kept = some-kept units kept s.closed cap d v.0 v.1 c.self.view_is there in
    let end : c.len-last.result - 1 + 1 ≡ length kept = omega (arith, some, c.len-last.ensures, s.kept.ok.0) in
    let new = c.put_point.new in
    let f = with_new_point (record { node = c.args.node; place = c.args.place }) in
    let closed : length units ≡ s.closed =
    all-closed-is units kept s.closed cap d v.0 v.1 c.self.view_is c.requires.none (c.len-last.result - 1)
    c.index_mut.result.now end c.index_mut.ensures.value in
    let ends : s.closed + 1 ≡ length new.units.items = omega (arith, closed, c.put_point.ensures.longer) in (
      changed-kept units kept s.closed cap d v.0 v.1 c.self.view_is c.requires.none (c.len-last.result - 1)
          c.index_mut.result.now end c.index_mut.ensures.value
          new.units.items new.kept f c.put_point.ensures.changed (s.closed + 1) ends,
      omega (arith, ends),
      v.2 ∙ ap (λ n. n / 10) (sym c.put_point.ensures.capacity),
      rw c.put_point.ensures.capacity v.3,
    )

pub returns-clause-added : goal.returns-clause-added
returns-clause-added c =
    let s = c.self.inside in
    let v = c.self.invariant in
    let units = s.units.items in
    let kept = s.kept.items in
    let cap = vec_capacity s.units in
    let d = c.args.self.now in
    let there : 0 < length d.records =
    some-last (λ (r : Record). TakesPoint r.head.kind r.spot r.parts) d.records c.requires.last in
    let some : 0 < length kept = some-kept units kept s.closed cap d v.0 v.1 c.self.view_is there in
    let end : c.len-last.result - 1 + 1 ≡ length kept = omega (arith, some, c.len-last.ensures, s.kept.ok.0) in
    let new = c.put_point.new in
    let f = with_new_point (record { node = c.args.node; place = c.args.place }) in
    let closed : length units ≡ s.closed =
    all-closed-is units kept s.closed cap d v.0 v.1 c.self.view_is c.requires.none (c.len-last.result - 1)
    c.index_mut.result.now end c.index_mut.ensures.value in
    let ends : s.closed + 1 ≡ length new.units.items = omega (arith, closed, c.put_point.ensures.longer) in
    changed-seen units kept s.closed cap d v.0 v.1 c.self.view_is c.requires.none (c.len-last.result - 1)
    c.index_mut.result.now end c.index_mut.ensures.value
    new.units.items new.kept f c.put_point.ensures.changed (s.closed + 1)
    (vec_capacity new.units) ends
    (c.put_point.ensures.capacity ∙ sym (room-is units kept s.closed cap d v.0 v.1 c.self.view_is))

pub returns-clause-used : goal.returns-clause-used
returns-clause-used c =
    let s = c.self.inside in
    let v = c.self.invariant in
    let units = s.units.items in
    let kept = s.kept.items in
    let cap = vec_capacity s.units in
    let d = c.args.self.now in
    let there : 0 < length d.records =
    some-last (λ (r : Record). TakesPoint r.head.kind r.spot r.parts) d.records c.requires.last in
    let some : 0 < length kept = some-kept units kept s.closed cap d v.0 v.1 c.self.view_is there in
    let end : c.len-last.result - 1 + 1 ≡ length kept = omega (arith, some, c.len-last.ensures, s.kept.ok.0) in
    let new = c.put_point.new in
    let f = with_new_point (record { node = c.args.node; place = c.args.place }) in
    let closed : length units ≡ s.closed =
    all-closed-is units kept s.closed cap d v.0 v.1 c.self.view_is c.requires.none (c.len-last.result - 1)
    c.index_mut.result.now end c.index_mut.ensures.value in
    let ends : s.closed + 1 ≡ length new.units.items = omega (arith, closed, c.put_point.ensures.longer) in
    omega (
      arith,
      changed-used units kept s.closed cap d v.0 v.1 c.self.view_is c.requires.none (c.len-last.result - 1)
          c.index_mut.result.now end c.index_mut.ensures.value
          new.units.items new.kept f c.put_point.ensures.changed (s.closed + 1)
          (vec_capacity new.units) ends,
      in-use units kept s.closed cap d v.0 v.1 c.self.view_is,
      c.put_point.ensures.longer,
    )
