use Rattle.std.proofs.Common.{◌≤◌, length, arith, rules}
use Rattle.mf_base.proofs.EntryLaws.{text_place-found, text_place-none, text_place-below}
use Rattle.mf_base.proofs.text_place.text_place.Goals as goal

pub slice_bounds-front_varint-count : goal.slice_bounds-front_varint-count
slice_bounds-front_varint-count c = omega (arith, text_place-below c.args.bytes.now c.args.at c.requires)

pub slice_bounds-front_varint-start : goal.slice_bounds-front_varint-start
slice_bounds-front_varint-start c =
    let below : c.args.at ≤ length c.args.bytes.now =
    omega (arith, text_place-below c.args.bytes.now c.args.at c.requires) in
    search (rules, below)

pub overflow_add-result : goal.overflow_add-result
overflow_add-result c =
    let found = text_place-found c.args.bytes.now c.args.at c.in-Ok.count c.in-Ok.size c.requires c.in-Ok.ensures.exact
    in
    omega (arith, found.fits)

pub unreachable-requires : goal.unreachable-requires
unreachable-requires c = text_place-none c.args.bytes.now c.args.at _ c.requires c.in-Err.ensures.exact

pub returns-clause-text : goal.returns-clause-text
returns-clause-text c =
    (text_place-found c.args.bytes.now c.args.at c.in-Ok.count c.in-Ok.size c.requires c.in-Ok.ensures.exact).text

pub returns-clause-within : goal.returns-clause-within
returns-clause-within c =
    let found = text_place-found c.args.bytes.now c.args.at c.in-Ok.count c.in-Ok.size c.requires c.in-Ok.ensures.exact
    in
    (omega arith, omega arith, found.fits)
