use Rattle.std.proofs.Common.{◌≡◌, ◌∙◌, ◌+◌, ◌*◌, ◌-◌, ◌≤◌, List, length, ap, subst, rules, arith}
use Rattle.mf_base.specs.Buffer.{Buffer}
use Rattle.mf_rows.specs.Units.{Unit16}
use Rattle.mf_rows.specs.RecordUnits.{AreWide, parts_count}
use Rattle.mf_rows.specs.Desks.{used}
use Rattle.ring_assembly.proofs.Relations.{parts-first, parts-few, behind-few, front-is, bench-at, room-at, refused}
use Rattle.ring_assembly.proofs.Relations.{joined, no-more}
use Rattle.ring_assembly.proofs.assemble.assemble.Goals as goal

pub unit_count-behind-requires : goal.unit_count-behind-requires
unit_count-behind-requires c =
    let d = c.args.desk.now.records in
    omega (
      arith,
      ap parts_count (c.rings.ensures ∙ parts-first d c.view.result c.view.ensures),
      parts-few d c.requires.relation,
      c.has_room.ensures.rest,
      c.has_room.ensures.most,
    )

pub overflow_sub-front : goal.overflow_sub-front
overflow_sub-front c =
    let d = c.args.desk.now.records in
    let lo = c.loosen.new.self in
    let wide = subst AreWide c.loose.ensures c.are_wide.ensures in
    let behind = c.unit_count-behind.ensures ∙ ap parts_count (c.rings.ensures
    ∙ parts-first d c.view.result c.view.ensures) in
    omega (
      arith,
      behind-few d lo c.requires.relation c.loosen.ensures wide c.unit_count-behind.result behind,
      ap length c.loose-2.ensures,
    )

pub join_all-joined-requires : goal.join_all-joined-requires
join_all-joined-requires c =
    let d = c.args.desk.now.records in
    let lo = c.loosen.new.self in
    let wide = subst AreWide c.loose.ensures c.are_wide.ensures in
    let behind = c.unit_count-behind.ensures ∙ ap parts_count (c.rings.ensures
    ∙ parts-first d c.view.result c.view.ensures) in
    let few : length lo.loose ≤ 16777216 =
    omega (arith, c.has_room.ensures.rest, c.has_room.ensures.most, c.loosen.ensures.same_use) in
    let at = ap (λ (us : List Unit16). length us - c.unit_count-behind.result) c.loose-2.ensures
    ∙ front-is d lo c.requires.relation c.loosen.ensures wide c.unit_count-behind.result behind in
    let front = length c.loose-2.result.now - c.unit_count-behind.result in
    let room : c.clear.new.self.capacity ≡ 16 * d.capacity + 256 = search rules in
    record {
      bench = bench-at d lo c.requires.relation c.loosen.ensures wide few front at;
      empty = ap (λ (b : Buffer). b.bytes) c.clear.ensures;
      room = room-at d lo c.requires.relation c.loosen.ensures wide few front at c.clear.new.self.capacity
          c.has_room.ensures.rest room;
      few = omega (arith, room, c.has_room.ensures.most);
    }

pub returns-in-Ok-clause-result : goal.returns-in-Ok-clause-result
returns-in-Ok-clause-result c =
    let d = c.args.desk.now.records in
    let lo = c.loosen.new.self in
    let wide = subst AreWide c.loose.ensures c.are_wide.ensures in
    let behind = c.unit_count-behind.ensures ∙ ap parts_count (c.rings.ensures
    ∙ parts-first d c.view.result c.view.ensures) in
    let few : length lo.loose ≤ 16777216 =
    omega (arith, c.has_room.ensures.rest, c.has_room.ensures.most, c.loosen.ensures.same_use) in
    let at = ap (λ (us : List Unit16). length us - c.unit_count-behind.result) c.loose-2.ensures
    ∙ front-is d lo c.requires.relation c.loosen.ensures wide c.unit_count-behind.result behind in
    let front = length c.loose-2.result.now - c.unit_count-behind.result in
    (joined d lo c.requires.relation c.loosen.ensures wide few front at c.join_all-joined.new.records
    c.close_record.new.self c.in-Ok.ensures.joined c.close_record.ensures.closed).0

pub returns-in-Ok-clause-records : goal.returns-in-Ok-clause-records
returns-in-Ok-clause-records c =
    let d = c.args.desk.now.records in
    let lo = c.loosen.new.self in
    let wide = subst AreWide c.loose.ensures c.are_wide.ensures in
    let behind = c.unit_count-behind.ensures ∙ ap parts_count (c.rings.ensures
    ∙ parts-first d c.view.result c.view.ensures) in
    let few : length lo.loose ≤ 16777216 =
    omega (arith, c.has_room.ensures.rest, c.has_room.ensures.most, c.loosen.ensures.same_use) in
    let at = ap (λ (us : List Unit16). length us - c.unit_count-behind.result) c.loose-2.ensures
    ∙ front-is d lo c.requires.relation c.loosen.ensures wide c.unit_count-behind.result behind in
    let front = length c.loose-2.result.now - c.unit_count-behind.result in
    (joined d lo c.requires.relation c.loosen.ensures wide few front at c.join_all-joined.new.records
    c.close_record.new.self c.in-Ok.ensures.joined c.close_record.ensures.closed).1

pub returns-in-Ok-clause-used : goal.returns-in-Ok-clause-used
returns-in-Ok-clause-used c =
    let d = c.args.desk.now.records in
    let lo = c.loosen.new.self in
    let wide = subst AreWide c.loose.ensures c.are_wide.ensures in
    let behind = c.unit_count-behind.ensures ∙ ap parts_count (c.rings.ensures
    ∙ parts-first d c.view.result c.view.ensures) in
    let few : length lo.loose ≤ 16777216 =
    omega (arith, c.has_room.ensures.rest, c.has_room.ensures.most, c.loosen.ensures.same_use) in
    let at = ap (λ (us : List Unit16). length us - c.unit_count-behind.result) c.loose-2.ensures
    ∙ front-is d lo c.requires.relation c.loosen.ensures wide c.unit_count-behind.result behind in
    let front = length c.loose-2.result.now - c.unit_count-behind.result in
    no-more d lo c.requires.relation c.loosen.ensures wide few front at c.join_all-joined.new.records
    c.close_record.new.self c.in-Ok.ensures.joined c.close_record.ensures.used

pub returns-in-Err-clause-result : goal.returns-in-Err-clause-result
returns-in-Err-clause-result c =
    let d = c.args.desk.now.records in
    let lo = c.loosen.new.self in
    let wide = subst AreWide c.loose.ensures c.are_wide.ensures in
    let behind = c.unit_count-behind.ensures ∙ ap parts_count (c.rings.ensures
    ∙ parts-first d c.view.result c.view.ensures) in
    let few : length lo.loose ≤ 16777216 =
    omega (arith, c.has_room.ensures.rest, c.has_room.ensures.most, c.loosen.ensures.same_use) in
    let at = ap (λ (us : List Unit16). length us - c.unit_count-behind.result) c.loose-2.ensures
    ∙ front-is d lo c.requires.relation c.loosen.ensures wide c.unit_count-behind.result behind in
    let front = length c.loose-2.result.now - c.unit_count-behind.result in
    (refused d lo c.requires.relation c.loosen.ensures wide few front at c.in-Err.why c.join_all-joined.new.records
    c.clear-in-Err.new.self c.in-Err.ensures.joined c.clear-in-Err.ensures).0

pub returns-in-Err-clause-records : goal.returns-in-Err-clause-records
returns-in-Err-clause-records c =
    let d = c.args.desk.now.records in
    let lo = c.loosen.new.self in
    let wide = subst AreWide c.loose.ensures c.are_wide.ensures in
    let behind = c.unit_count-behind.ensures ∙ ap parts_count (c.rings.ensures
    ∙ parts-first d c.view.result c.view.ensures) in
    let few : length lo.loose ≤ 16777216 =
    omega (arith, c.has_room.ensures.rest, c.has_room.ensures.most, c.loosen.ensures.same_use) in
    let at = ap (λ (us : List Unit16). length us - c.unit_count-behind.result) c.loose-2.ensures
    ∙ front-is d lo c.requires.relation c.loosen.ensures wide c.unit_count-behind.result behind in
    let front = length c.loose-2.result.now - c.unit_count-behind.result in
    (refused d lo c.requires.relation c.loosen.ensures wide few front at c.in-Err.why c.join_all-joined.new.records
    c.clear-in-Err.new.self c.in-Err.ensures.joined c.clear-in-Err.ensures).1

pub returns-in-Err-clause-used : goal.returns-in-Err-clause-used
returns-in-Err-clause-used c = omega (arith, ap used c.clear-in-Err.ensures)
