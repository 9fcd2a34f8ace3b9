-- What was taken by steps, one after another.
use Rattle.std.proofs.Common.{◌≡◌, ℕ, List, [], ◌++◌, refl, arith, Option, Some, None, Result, Ok, Err, length-append}
use Rattle.mf_edge.specs.Device.{Takes}
use Rattle.mf_edge.specs.Stream.{StreamState}
use Rattle.mf_edge.proofs.Taking.{Takes-then}
use Rattle.osm_model.specs.declared.faults.FrameFault.{FrameFault}
use Rattle.pbf_frame.specs.declared.frame_fault.NextFault.{NextFault}
use Rattle.pbf_frame.specs.declared.frame_fault.NextFault.TheVariants as next_fault
use Rattle.pbf_frame.specs.FrameReading.{HasTaken}
use Rattle.pbf_frame.specs.BlobReading.{FailsAt, Tells}

Takes-none : (left : Option (List ℕ)) → Takes left [] left
Takes-none None = refl
Takes-none (Some all) = refl

pub taken-none : (old : StreamState) (P : List ℕ → Type 0) → P [] → HasTaken P old old
taken-none old P holds = record { bytes = []; taken = Takes-none old.source.left; counted = omega arith; holds = holds }

pub taken-as : (old new : StreamState) (P Q : List ℕ → Type 0) → HasTaken P old new → ((x : List ℕ) → P x → Q x)
    → HasTaken Q old new
taken-as old new P Q h holds =
    record { bytes = h.bytes; taken = h.taken; counted = h.counted; holds = holds h.bytes h.holds }

pub taken-then : (old mid new : StreamState) (P Q R : List ℕ → Type 0) → HasTaken P old mid → HasTaken Q mid new
    → ((x y : List ℕ) → P x → Q y → R (x ++ y))
    → HasTaken R old new
taken-then old mid new P Q R first second join = record {
  bytes = first.bytes ++ second.bytes;
  taken = Takes-then old.source.left mid.source.left new.source.left first.bytes second.bytes first.taken second.taken;
  counted = omega (arith, first.counted, second.counted, length-append first.bytes second.bytes);
  holds = join first.bytes second.bytes first.holds second.holds;
}

-- a fault that was handed on
pub fails-as : {B : Type 0} (K : B → List ℕ → Type 0) (F G : FrameFault → List ℕ
    → Type 0) (blob : ℕ) (old new : StreamState) (r : Result B NextFault) (fault : NextFault)
    → r ≡ Err fault → FailsAt F blob old fault new → ((f : FrameFault) (x : List ℕ) → F f x → G f x)
    → Tells K G blob old r new
fails-as K F G blob old new r (next_fault.Frame told f) e h same = rw e (h.0, taken-as old new (F f) (G f) h.1 (same f))
fails-as K F G blob old new r next_fault.Read e h same = rw e tt

pub fails-then : {B : Type 0} (K : B → List ℕ → Type 0) (F G : FrameFault → List ℕ → Type 0) (P : List ℕ
    → Type 0) (blob : ℕ) (old mid new : StreamState) (r : Result B NextFault)
    (fault : NextFault) → r ≡ Err fault → HasTaken P old mid → FailsAt F blob mid fault new
    → ((f : FrameFault) (x y : List ℕ) → P x → F f y → G f (x ++ y))
    → Tells K G blob old r new
fails-then K F G P blob old mid new r (next_fault.Frame told f) e first h same =
    rw e (h.0, taken-then old mid new P (F f) (G f) first h.1 (same f))
fails-then K F G P blob old mid new r next_fault.Read e first h same = rw e tt

pub tells-then : {A : Type 0} (H K : A → List ℕ → Type 0) (F G : FrameFault → List ℕ → Type 0) (P : List ℕ
    → Type 0) (blob : ℕ) (old mid new : StreamState) (r : Result A NextFault)
    → HasTaken P old mid → Tells H F blob mid r new → ((a : A) (x y : List ℕ) → P x → H a y → K a (x ++ y))
    → ((f : FrameFault) (x y : List ℕ) → P x → F f y → G f (x ++ y))
    → Tells K G blob old r new
tells-then H K F G P blob old mid new (Ok a) first h join same = taken-then old mid new P (H a) (K a) first h (join a)
tells-then H K F G P blob old mid new (Err (next_fault.Frame told f)) first h join same =
    (h.0, taken-then old mid new P (F f) (G f) first h.1 (same f))
tells-then H K F G P blob old mid new (Err next_fault.Read) first h join same = tt
