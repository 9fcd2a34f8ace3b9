use Rattle.std.proofs.Common.{length, ◌-◌, ◌≡◌, ◌≤◌, take}
use Rattle.mf_edge.specs.Device.{Takes}
use Rattle.mf_edge.specs.Shelves.{KeepsName}
use Rattle.job_words.proofs.mapping_file.read_up_to.Given as goal

abbrev pub invariant-loop-have : goal.invariant-loop-have
invariant-loop-have g l =
    let old = g.H.Shelf.state l.fn.shelf in
    let new = g.H.Shelf.state l.shelf in record {
      within : l.have ≤ length l.room;
      takes : Takes old.left (take l.have l.room) new.left;
      same_faults : new.faults ≡ old.faults;
      keeps : KeepsName old new;
    }

abbrev pub decreases-loop-have : goal.decreases-loop-have
decreases-loop-have g l = length l.room - l.have
