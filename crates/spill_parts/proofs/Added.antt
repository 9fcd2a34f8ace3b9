-- A part that was added stays so while it is written and others are read.
use Rattle.std.proofs.Common.{◌≡◌, ℕ, sym, subst, inr, ◌∙◌}
use Rattle.mf_edge.specs.Spill.{SpillState, SameParts, TouchesOnly}
use Rattle.mf_rows.specs.RowKinds.{Kind}
use Rattle.spill_parts.specs.Parts.{Part, IsBegun}
use Rattle.spill_parts.specs.Join.{IsAdded, AddsAtMostOne}

pub added_begun : {K : Type 0} {kind : Kind K} {w : Part K} {a b : SpillState} → IsBegun kind w a b → IsAdded w.part a b
added_begun begun = record { fresh = begun.fresh; count = begun.count; others = begun.others }

pub added_read : {part : ℕ} {a b c : SpillState} → IsAdded part a b → SameParts b c → IsAdded part a c
added_read {part} {a} {b} {c} added same =
    subst (IsAdded part a) (sym same)
    (record {
      fresh = added.fresh;
      count = added.count;
      others =
          record { size = added.others.size; bytes = added.others.bytes };
    })

pub added_written : {part : ℕ} {a b c : SpillState} → IsAdded part a b → TouchesOnly part b c → IsAdded part a c
added_written {part} {a} {b} {c} added only = record {
  fresh = added.fresh;
  count = only.count ∙ added.count;
  others = record {
    size = λ q apart. only.others.size q apart ∙ added.others.size q apart;
    bytes =
        λ q apart. only.others.bytes q apart ∙ added.others.bytes q apart;
  };
}

-- under the number that it has now
pub added_now : {part part_now : ℕ} {a b : SpillState} → part_now ≡ part → IsAdded part a b → IsAdded part_now a b
added_now {part} {part_now} {a} {b} is added = subst (λ p. IsAdded p a b) (sym is) added

-- a part that was added is one part more
pub one_more : {part : ℕ} {a b : SpillState} → IsAdded part a b → AddsAtMostOne a b
one_more {part} added = inr (part, added)

-- a part that is written, while others are read, is all that is touched
pub touched_then : {part part_now : ℕ} {a b c d : SpillState} → TouchesOnly part a b → SameParts b c
    → part_now ≡ part → TouchesOnly part_now c d → TouchesOnly part a d
touched_then {part} {part_now} {a} {b} {c} {d} first same is then =
    let read : TouchesOnly part a c = subst (TouchesOnly part a) (sym same) (record {
      same = record { name = first.same.name; started = first.same.started; tells = first.same.tells };
      count = first.count;
      others = record { size = first.others.size; bytes = first.others.bytes };
    }) in
    let written : TouchesOnly part c d = subst (λ p. TouchesOnly p c d) is then in
    record {
      same = record {
        name = written.same.name ∙ read.same.name;
        started = written.same.started ∙ read.same.started;
        tells = written.same.tells ∙ read.same.tells;
      };
      count = written.count ∙ read.count;
      others = record {
        size = λ q apart. written.others.size q apart ∙ read.others.size q apart;
        bytes = λ q apart. written.others.bytes q apart ∙ read.others.bytes q apart;
      };
    }
