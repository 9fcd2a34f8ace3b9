-- What a count of a whole extract tells, by what its pass tells.
use Rattle.std.proofs.Common.{◌≡◌, ◌∙◌, List, ℕ, Option, Ok, Err, sym, ap}
use Rattle.std.specs.Option.{option_or}
use Rattle.mf_base.specs.declared.place.Rect.{Rect}
use Rattle.mf_edge.specs.Stream.{StreamState}
use Rattle.extract_pass.specs.declared.counts.Counts.{Counts}
use Rattle.extract_pass.specs.declared.fault.PassFault.{PassFault}
use Rattle.extract_pass.specs.declared.fault.PassFault.TheVariants as pass_fault
use Rattle.extract_pass.specs.EntityPass.{IsAccepted, TellsPass, TellsPassOf}
use Rattle.extract_pass.specs.Counting.{HasCounted, NeverStops, AreCounted, TellsCount, TellsCountOf}

counted : (first now : Counts) (words bounds known : Option Rect) (bytes : List ℕ) → known ≡ option_or words bounds
    → IsAccepted (HasCounted first now) bounds bytes
    → AreCounted words (record { counts = now; bounds = known }) bytes
counted first now words bounds known bytes same is = record {
  sound = is.sound;
  counts = is.stands;
  bounds = same ∙ ap (option_or words) (sym is.boxed);
}

pub tells-ok : (first now : Counts) (words bounds known : Option Rect) (old new : StreamState)
    → known ≡ option_or words bounds → TellsPass (HasCounted first now) (NeverStops first now) old (Ok bounds) new
    → TellsCount words old (Ok (record { counts = now; bounds = known })) new
tells-ok first now words bounds known old new same h = record {
  bytes = h.bytes;
  taken = h.taken;
  counted = h.counted;
  holds = (counted first now words bounds known h.bytes same h.holds.0, h.holds.1);
}

pub tells-err : (first now : Counts) (words : Option Rect) (fault : PassFault) (old new : StreamState)
    → TellsPass (HasCounted first now) (NeverStops first now) old (Err fault) new → TellsCount words old (Err fault) new
tells-err first now words (pass_fault.Input fault) old new h = record {
  bytes = h.bytes;
  taken = h.taken;
  counted = h.counted;
  holds = h.holds.0;
}
tells-err first now words pass_fault.Stopped old new h =
    let (es, e, handed, stop) = h.holds in absurd stop
tells-err first now words pass_fault.Read old new h = tt

pub exact-ok : (first now : Counts) (words bounds known : Option Rect) (all : List ℕ) → known ≡ option_or words bounds
    → TellsPassOf (HasCounted first now) (NeverStops first now) all (Ok bounds)
    → TellsCountOf words all (Ok (record { counts = now; bounds = known }))
exact-ok first now words bounds known all same is = counted first now words bounds known all same is

pub exact-err : (first now : Counts) (words : Option Rect) (fault : PassFault) (all : List ℕ)
    → TellsPassOf (HasCounted first now) (NeverStops first now) all (Err fault) → TellsCountOf words all (Err fault)
exact-err first now words (pass_fault.Input fault) all h = h.0
exact-err first now words pass_fault.Stopped all (es, e, handed, stop) = absurd stop
exact-err first now words pass_fault.Read all h = tt
