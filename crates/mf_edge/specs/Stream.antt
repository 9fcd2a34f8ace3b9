-- Where a stream stands, and a step over it. This project's own.
use Rattle.std.specs.Prelude.{◌≡◌, ℕ, ◌+◌, ◌-◌, ◌≤◌}
use Rattle.mf_edge.specs.Device.{SourceState, CountsOne}
use Rattle.mf_edge.specs.declared.stream.Stream.{Stream}

-- where a stream stands: what its source tells, how many bytes were read, and which loan of a source it has
pub record StreamState : Type 0 where
  pub source : SourceState
  pub offset : ℕ
  pub reference : ℕ

-- where a stream stands whose source tells this of itself
abbrev pub at : {S : Type 0} → (S → SourceState) → Stream S → StreamState
at state s = record { source = state s.source.now; offset = s.offset; reference = s.source.ghost_name }

-- A step over a stream: it keeps its source, and takes at most so many bytes of it, by at most so many reads.
pub record IsStep (most : ℕ) (old new : StreamState) : Type 0 where
  pub same_reference : new.reference ≡ old.reference
  pub rises : old.offset ≤ new.offset
  pub far : new.offset ≤ old.offset + most
  pub reads : new.source.reads ≤ old.source.reads + most
  pub counts : old.source.faults ≤ new.source.faults

-- The source counted one fault where this holds, and none where it does not.
pub record FailsWhere (Failed : Type 0) (old new : StreamState) : Type 0 where
  pub failed : Failed → CountsOne old.source.faults new.source.faults
  pub same_faults : ¬ Failed → new.source.faults ≡ old.source.faults

-- Steps one after another: they took some bytes, by at most one read each and so many more.
abbrev pub IsWalk : ℕ → StreamState → StreamState → Type 0
IsWalk more old new = IsStep (new.offset - old.offset + more) old new
