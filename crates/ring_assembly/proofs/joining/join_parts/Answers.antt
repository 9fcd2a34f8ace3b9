use Rattle.std.proofs.Common.{◌≡◌, ◌++◌, ◌∷◌, [], ap, length, refl, rules, subst, Err, List}
use Rattle.mf_rows.specs.Units.{Unit16}
use Rattle.ring_assembly.specs.JoiningParts.{RingEnded}
use Rattle.ring_assembly.proofs.RingsFound.{rings-none, rings-more, parts-done, parts-open, ring-room, foot-room}
use Rattle.ring_assembly.proofs.RingsFound.{fewer-left, within, rows-behind, still-laid, count-few, housed-few}
use Rattle.ring_assembly.proofs.joining.join_parts.Goals as goal

pub loop-start-init : goal.loop-start-init
loop-start-init c =
    ([], rings-none c.args.front c.args.role c.args.outer c.args.records.now c.args.out.now _ c.requires.bench c.requires.rows refl refl (ap length c.rows_of.ensures))

pub join_ring-requires-clause-room : goal.join_ring-requires-clause-room
join_ring-requires-clause-room c =
    ring-room c.args.front c.args.role c.args.outer c.args.records.now c.args.out.now c.loop-start.invariant.0
    c.loop-start.laid c.loop-start.records c.loop-start.out c.loop-start.invariant.1 c.in-Some.start
    c.take_part.new.records c.in-Some.ensures c.requires.room

pub end_ring-laid-requires-clause-room : goal.end_ring-laid-requires-clause-room
end_ring-laid-requires-clause-room c =
    foot-room c.args.front c.args.role c.args.outer c.args.records.now c.args.out.now c.loop-start.invariant.0
    c.loop-start.laid c.loop-start.records c.loop-start.out c.loop-start.invariant.1 c.in-Some.start
    c.take_part.new.records c.in-Some.ensures c.in_ok-join_ring.ensures.0 c.join_ring.new.records
    c.join_ring.new.out c.in_ok-join_ring.ensures.1 c.requires.room

pub end_ring-laid-requires-clause-outer : goal.end_ring-laid-requires-clause-outer
end_ring-laid-requires-clause-outer c = (
  c.requires.outer.0,
  still-laid c.args.front c.args.role c.args.outer c.args.records.now c.args.out.now c.loop-start.invariant.0
      c.loop-start.laid c.loop-start.records c.loop-start.out c.loop-start.invariant.1 c.in-Some.start
      c.take_part.new.records c.in-Some.ensures c.in_ok-join_ring.ensures.0 c.join_ring.new.records
      c.join_ring.new.out c.in_ok-join_ring.ensures.1 c.requires.outer.0 c.requires.outer.1,
)

pub end_ring-laid-requires-clause-within : goal.end_ring-laid-requires-clause-within
end_ring-laid-requires-clause-within c =
    within c.args.front c.args.role c.args.outer c.args.records.now c.args.out.now c.loop-start.invariant.0
    c.loop-start.laid c.loop-start.records c.loop-start.out c.loop-start.invariant.1 c.in-Some.start
    c.take_part.new.records c.in-Some.ensures c.in_ok-join_ring.ensures.0 c.join_ring.new.records
    c.join_ring.new.out c.in_ok-join_ring.ensures.1

pub end_ring-laid-requires-clause-rings : goal.end_ring-laid-requires-clause-rings
end_ring-laid-requires-clause-rings c =
    count-few c.args.front c.args.role c.args.outer c.args.records.now c.args.out.now
    c.loop-start.invariant.0 c.loop-start.laid c.loop-start.records c.loop-start.out c.loop-start.invariant.1

pub end_ring-laid-requires-clause-housed : goal.end_ring-laid-requires-clause-housed
end_ring-laid-requires-clause-housed c =
    housed-few c.args.front c.args.role c.args.outer c.args.records.now c.args.out.now c.loop-start.invariant.0
    c.loop-start.laid c.loop-start.records c.loop-start.out c.loop-start.invariant.1

pub loop-start-smaller : goal.loop-start-smaller
loop-start-smaller c =
    fewer-left c.args.front c.args.role c.args.outer c.args.records.now c.args.out.now c.loop-start.invariant.0
    c.loop-start.laid c.loop-start.records c.loop-start.out c.loop-start.invariant.1 c.in-Some.start
    c.take_part.new.records c.in-Some.ensures c.in_ok-join_ring.ensures.0 c.join_ring.new.records
    c.join_ring.new.out c.in_ok-join_ring.ensures.1

pub loop-start-preserved : goal.loop-start-preserved
loop-start-preserved c = (
  c.loop-start.invariant.0 ++ record { home = c.end_ring-laid.ensures.0; units = c.in_ok-join_ring.ensures.0 } ∷ [],
  rings-more c.args.front c.args.role c.args.outer c.args.records.now c.args.out.now c.loop-start.invariant.0
      c.loop-start.laid c.loop-start.records c.loop-start.out c.loop-start.invariant.1 c.in-Some.start
      c.take_part.new.records c.in-Some.ensures c.in_ok-join_ring.ensures.0 c.join_ring.new.records
      c.join_ring.new.out c.in_ok-join_ring.ensures.1 c.end_ring-laid.ensures.0 c.end_ring-laid.result
      c.end_ring-laid.new.out
      (subst (λ (us : List Unit16). RingEnded c.args.outer c.loop-start.laid us c.end_ring-laid.ensures.0
      c.end_ring-laid.result c.join_ring.new.out c.end_ring-laid.new.out)
      (rows-behind c.args.front c.args.role c.args.outer c.args.records.now c.args.out.now c.loop-start.invariant.0
      c.loop-start.laid c.loop-start.records c.loop-start.out c.loop-start.invariant.1 c.in-Some.start
      c.take_part.new.records c.in-Some.ensures c.in_ok-join_ring.ensures.0 c.join_ring.new.records
      c.join_ring.new.out c.in_ok-join_ring.ensures.1) c.end_ring-laid.ensures.1),
)

pub returns-in_err-join_ring : goal.returns-in_err-join_ring
returns-in_err-join_ring c =
    let e : c.from_residual.result ≡ Err c.in_err-join_ring.field-0.0 = search rules in
    rw e (
    parts-open c.args.front c.args.role c.args.outer c.args.records.now c.args.out.now c.loop-start.invariant.0
    c.loop-start.laid c.loop-start.records c.loop-start.out c.loop-start.invariant.1 c.in-Some.start
    c.take_part.new.records c.in-Some.ensures c.in_err-join_ring.field-0.0 c.join_ring.new.records
    c.join_ring.new.out c.in_err-join_ring.ensures
    )

pub returns : goal.returns
returns c =
    parts-done c.args.front c.args.role c.args.outer c.args.records.now c.args.out.now c.loop-start.invariant.0
    c.loop-start.laid c.loop-start.records c.loop-start.out c.loop-start.invariant.1 c.take_part.new.records
    c.in_default.ensures.0 c.in_default.ensures.1
