use Rattle.std.proofs.Common.{◌≡◌, ◌∙◌, ap, length, rules, arith, Err}
use Rattle.ring_assembly.proofs.RowBytes.{none-in-rows}
use Rattle.ring_assembly.proofs.Assembling.{outer-broken, inner-broken, none-joined, mid-room, outer-laid, all-laid}
use Rattle.ring_assembly.proofs.Assembling.{all-joined}
use Rattle.ring_assembly.proofs.assemble.join_all.Goals as goal

pub join_parts-requires-clause-rows : goal.join_parts-requires-clause-rows
join_parts-requires-clause-rows c = (none-in-rows c.args.out.now.bytes c.requires.empty).1

pub join_parts-requires-clause-room : goal.join_parts-requires-clause-room
join_parts-requires-clause-room c =
    omega (arith, c.requires.room, ap length (none-in-rows c.args.out.now.bytes c.requires.empty).0)

pub returns-in_err-outer : goal.returns-in_err-outer
returns-in_err-outer c =
    let e : c.from_residual.result ≡ Err c.in_err-outer.field-0.0 = search rules in
    record {
      joined = rw e (
          outer-broken c.args.front (record { rings = 0; rows = 0; housed = 0 }) c.in_err-outer.field-0.0
          c.args.records.now c.join_parts.new.records c.args.out.now c.join_parts.new.out c.in_err-outer.ensures
          );
      capacity = c.in_err-outer.ensures.3.out;
    }

pub returns-then-outer-eq0-clause-joined : goal.returns-then-outer-eq0-clause-joined
returns-then-outer-eq0-clause-joined c =
    none-joined c.args.front c.args.records.now c.join_parts.new.records c.args.out.now c.join_parts.new.out _
    c.in_ok-outer.outer c.in_ok-outer.ensures.0 c.requires.empty c.in_ok-outer.ensures.1 c.in_ok-outer.ensures.2
    c.if-outer-eq0.true

pub join_parts-requires-2-clause-outer : goal.join_parts-requires-2-clause-outer
join_parts-requires-2-clause-outer c = (
  c.in_ok-outer.ensures.0,
  outer-laid c.args.front c.args.records.now c.join_parts.new.records c.args.out.now c.join_parts.new.out _
      c.in_ok-outer.outer c.in_ok-outer.ensures.0 c.requires.empty c.in_ok-outer.ensures.1 c.in_ok-outer.ensures.2,
)

pub join_parts-requires-2-clause-room : goal.join_parts-requires-2-clause-room
join_parts-requires-2-clause-room c =
    mid-room c.args.front c.args.records.now c.join_parts.new.records c.args.out.now c.join_parts.new.out _
    c.in_ok-outer.outer c.in_ok-outer.ensures.0 c.requires.empty c.in_ok-outer.ensures.1 c.in_ok-outer.ensures.2
    c.requires.room

pub returns-in_err-inner : goal.returns-in_err-inner
returns-in_err-inner c =
    let e : c.from_residual-in_err-inner.result ≡ Err c.in_err-inner.field-0.0 = search rules in
    record {
      joined = rw e (
          inner-broken c.args.front c.args.records.now c.join_parts.new.records c.args.out.now
          c.join_parts.new.out _ c.in_ok-outer.outer c.in_ok-outer.ensures.0 c.requires.empty
          c.in_ok-outer.ensures.1 c.in_ok-outer.ensures.2 c.in_err-inner.field-0.0 c.join_parts-2.new.records
          c.join_parts-2.new.out c.if-outer-eq0.false c.in_err-inner.ensures
          );
      capacity = c.in_err-inner.ensures.3.out ∙ c.in_ok-outer.ensures.1.lays.capacity;
    }

pub put_blocks-requires : goal.put_blocks-requires
put_blocks-requires c = (
  c.in_ok-outer.ensures.0,
  c.in_ok-inner.ensures.0,
  all-laid c.args.front c.args.records.now c.join_parts.new.records c.args.out.now c.join_parts.new.out _
      c.in_ok-outer.outer c.in_ok-outer.ensures.0 c.requires.empty c.in_ok-outer.ensures.1 c.in_ok-outer.ensures.2
      c.join_parts-2.new.records c.join_parts-2.new.out c.in_ok-inner.inner c.in_ok-inner.ensures.0
      c.in_ok-inner.ensures.1 c.in_ok-inner.ensures.2 c.requires.bench,
)

pub returns : goal.returns
returns c =
    let os = c.in_ok-outer.ensures.0 in
    let is = c.in_ok-inner.ensures.0 in
    record {
      joined =
          all-joined c.args.front c.args.records.now c.join_parts.new.records c.args.out.now
          c.join_parts.new.out _ c.in_ok-outer.outer c.in_ok-outer.ensures.0 c.requires.empty
          c.in_ok-outer.ensures.1 c.in_ok-outer.ensures.2 c.join_parts-2.new.records c.join_parts-2.new.out
          c.in_ok-inner.inner c.in_ok-inner.ensures.0 c.in_ok-inner.ensures.1 c.in_ok-inner.ensures.2
          c.requires.bench c.if-outer-eq0.false
          c.put_blocks.new.records
          (c.put_blocks.ensures os is
          (all-laid c.args.front c.args.records.now c.join_parts.new.records c.args.out.now c.join_parts.new.out
          _ c.in_ok-outer.outer c.in_ok-outer.ensures.0 c.requires.empty c.in_ok-outer.ensures.1
          c.in_ok-outer.ensures.2 c.join_parts-2.new.records c.join_parts-2.new.out c.in_ok-inner.inner
          c.in_ok-inner.ensures.0 c.in_ok-inner.ensures.1 c.in_ok-inner.ensures.2 c.requires.bench));
      capacity = c.in_ok-inner.ensures.1.lays.capacity ∙ c.in_ok-outer.ensures.1.lays.capacity;
    }
