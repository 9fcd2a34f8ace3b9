use Rattle.std.proofs.Common.{◌≡◌, ◌≤◌, ◌∙◌, ap, length, drop, vec_capacity, arith}
use Rattle.mf_rows.proofs.KeptLaws.{close-kept, close-used, place-left}
use Rattle.mf_rows.proofs.records.Records.close_record.Goals as goal

pub push_reserved-requires : goal.push_reserved-requires
push_reserved-requires c =
    let s = c.self.inside in
    let v = c.self.invariant in
    let fits : length s.units.items ≤ vec_capacity s.units = omega (arith, s.units.ok.0, s.units.ok.1) in
    omega (
      arith,
      v.2,
      s.kept.ok.0,
      place-left s.units.items s.kept.items s.closed (vec_capacity s.units) c.args.self.now v.0 v.1 c.self.view_is
          c.in-Some.told c.split_at.result.1.now (c.split_at.ensures.back ∙ ap (drop s.closed) c.deref.ensures.value)
          c.in-Some.ensures.some c.in-Some.ensures.front c.in-Some.ensures.head fits,
    )

pub invariant_of-self : goal.invariant_of-self
invariant_of-self c =
    let s = c.self.inside in
    let v = c.self.invariant in
    let new = c.push_reserved.ensures in
    let many : c.len.result ≡ length s.units.items = c.len.ensures ∙ s.units.ok.0 in
    let kept =
    close-kept s.units.items s.kept.items s.closed (vec_capacity s.units) c.args.self.now v.0 v.1 c.self.view_is
    c.in-Some.told c.split_at.result.1.now (c.split_at.ensures.back ∙ ap (drop s.closed) c.deref.ensures.value)
    c.in-Some.ensures.some
    c.in-Some.ensures.front c.in-Some.ensures.head in
    (rw (new.items, many) kept, omega (arith, v.1, many), new.capacity ∙ v.2, v.3)

pub returns-in-Some-clause-used : goal.returns-in-Some-clause-used
returns-in-Some-clause-used c =
    let s = c.self.inside in
    let v = c.self.invariant in
    let many : c.len.result ≡ length s.units.items = c.len.ensures ∙ s.units.ok.0 in
    rw (c.push_reserved.ensures.items, many)
    (close-used s.units.items s.kept.items s.closed (vec_capacity s.units) c.args.self.now v.0 v.1 c.self.view_is
    c.in-Some.told c.split_at.result.1.now (c.split_at.ensures.back ∙ ap (drop s.closed) c.deref.ensures.value)
    c.in-Some.ensures.some
    c.in-Some.ensures.front c.in-Some.ensures.head)
