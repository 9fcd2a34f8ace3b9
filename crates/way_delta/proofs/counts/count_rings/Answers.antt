use Rattle.std.proofs.Common.{length, arith, ◌∙◌, ap}
use Rattle.mf_base.specs.Spelling.{vbe_unsigned}
use Rattle.mf_rows.specs.RecordUnits.{parts_count}
use Rattle.way_delta.proofs.Rings.{behind-few, counts-more, no-counts}
use Rattle.way_delta.proofs.counts.count_rings.Goals as goal

pub count_head-head-requires : goal.count_head-head-requires
count_head-head-requires c =
    let le = behind-few c.loop-role.rings in
    let same = ap parts_count c.loop-role.invariant.beyond in
    record { few = omega (arith, le, same, c.loop-role.invariant.few, c.requires.few) }

pub loop-role-preserved : goal.loop-role-preserved
loop-role-preserved c =
    counts-more _ _ _ _ _ c.in-Some.role c.in-Some.points _ _ _ _ _ c.in-Some.ensures.first c.in-Some.ensures.rest
    c.count_head-head.ensures.blocks c.count_head-head.ensures.size c.count_head-head.ensures.most
    (c.from.ensures ∙ c.size_vbe_u.ensures.size ∙ ap (λ n. length (vbe_unsigned n)) c.len.ensures)
    (omega (arith, c.from.ensures, c.size_vbe_u.ensures.most)) c.count_head-head.ensures.ahead c.loop-role.invariant

pub returns-clause-blocks : goal.returns-clause-blocks
returns-clause-blocks c =
    let none = no-counts c.loop-role.rings c.in_default.ensures.first in
    omega (arith, c.loop-role.invariant.number, none.0)

pub returns-clause-size : goal.returns-clause-size
returns-clause-size c =
    let none = no-counts c.loop-role.rings c.in_default.ensures.first in
    omega (arith, c.loop-role.invariant.bytes, none.1)
