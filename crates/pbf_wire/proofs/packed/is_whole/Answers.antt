use Rattle.std.proofs.Common.{◌≡◌, ◌≤◌, ◌+◌, arith, refl, sym, subst, get_or}
use Rattle.pbf_wire.proofs.WholeReads.{WholeSoFar, whole-low, whole-high, whole-no_tenth, whole-ends}
use Rattle.pbf_wire.proofs.packed.is_whole.Goals as goal
use Rattle.pbf_wire.proofs.packed.is_whole.Goals.{else-run-eq9-via-then-run-eq9+else-byte-gt1}
use Rattle.pbf_wire.proofs.packed.is_whole.Goals.{else-run-eq9-via-else-run-eq9, then-byte-lt128, else-byte-lt128}

pub returns-then-byte-gt1 : goal.returns-then-byte-gt1
returns-then-byte-gt1 c =
    whole-no_tenth c.args.bytes.now _ _ _ c.loop-byte.invariant c.loop-byte-test.true c.if-run-eq9.true refl
    c.if-byte-gt1.true

pub loop-byte-preserved : goal.loop-byte-preserved
loop-byte-preserved c =
    let bytes = c.args.bytes.now in
    let at = c.loop-byte.byte-index in
    let small = c.type_inv.bytes at in
    let tenth : c.loop-byte.run ≡ 9 → get_or bytes at 0 ≤ 1 = elim c.else-run-eq9.branch [
      | else-run-eq9-via-then-run-eq9+else-byte-gt1 w ↦
          λ (nine : c.loop-byte.run ≡ 9). omega (arith, w.if-byte-gt1.false)
      | else-run-eq9-via-else-run-eq9 w ↦
          λ (nine : c.loop-byte.run ≡ 9). absurd (omega (arith, nine, w.if-run-eq9.false))
    ] in
    elim c.if-byte-lt128.branch [
      | then-byte-lt128 w ↦
          subst (WholeSoFar bytes (at + 1)) (sym w.run-is)
          (whole-low bytes at _ _ c.loop-byte.invariant c.loop-byte-test.true tenth refl w.if-byte-lt128.true)
      | else-byte-lt128 w ↦
          subst (WholeSoFar bytes (at + 1)) (sym w.run-is)
          (whole-high bytes at _ _ c.loop-byte.invariant c.loop-byte-test.true tenth refl w.if-byte-lt128.false
          (omega (arith, small)))
    ]

pub returns : goal.returns
returns c = whole-ends c.args.bytes.now _ _ c.loop-byte.invariant c.loop-byte-test.false
