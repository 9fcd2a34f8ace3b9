use Rattle.std.proofs.Common.{◌≡◌, ◌-◌, ◌<◌, ◌^◌, []}
use Rattle.mf_edge.specs.Stream.{IsWalk, at}
use Rattle.extract_pass.specs.Behind.{IsBehind}
use Rattle.extract_pass.specs.EntityPass.{HasRead}
use Rattle.extract_pass.proofs.WholePass.{Both}
use Rattle.extract_pass.proofs.pass.read_entities.Given as goal

-- the blobs so far had no fault, and the reader has read their entities
abbrev pub invariant-loop-frame : goal.invariant-loop-frame
invariant-loop-frame g l =
    let old = at g.S.Source.state l.fn.src in
    let new = at g.S.Source.state l.src in
    ((first : g.row.R.Denot) → g.R.EntityReader.stands first l.fn.reader []
    → HasRead (Both (IsBehind l.behind) (g.R.EntityReader.stands first l.reader)) old new)
    × (new.offset < 2 ^ 63 - 1) × (new.source.faults ≡ old.source.faults)
    × IsWalk 0 old new × (l.block.capacity ≡ l.fn.block.capacity)

abbrev pub decreases-loop-frame : goal.decreases-loop-frame
decreases-loop-frame g l = 2 ^ 63 - (at g.S.Source.state l.src).offset
