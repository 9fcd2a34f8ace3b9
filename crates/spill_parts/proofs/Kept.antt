-- What calls on other parts leave as it was.
use Rattle.std.proofs.Common.{◌≡◌, ◌≢◌, ℕ, true, List, Some, None, refl, sym, rules, subst, ◌∷◌, ◌∙◌, ap}
use Rattle.mf_edge.specs.Spill.{SpillState, SameStore, SameParts, KeepsOthers, IsMade}
use Rattle.mf_rows.specs.RowKinds.{Kind}
use Rattle.spill_parts.specs.Parts.{Piece, IsThere, Reading, PageBytes, IsReading, GivesNext}

some_is_none : {n : ℕ} → Some n ≡ None → ⊥
some_is_none e = search (e, rules)

pub there_kept : {p : Piece} {s s' : SpillState} (q : ℕ) → p.part ≢ q → KeepsOthers q s s' → s'.tells ≡ s.tells
    → IsThere p s → IsThere p s'
there_kept {p} q apart keeps tells is = record {
  size = keeps.size p.part apart ∙ is.size;
  bytes = λ told. keeps.bytes p.part apart ∙ is.bytes (sym tells ∙ told);
}

pub reading_kept : {K : Type 0} {kind : Kind K} {r : Reading K} {page : PageBytes} {s s' : SpillState} (q : ℕ)
    → r.source.part ≢ q → KeepsOthers q s s' → s'.tells ≡ s.tells → IsReading kind r page s → IsReading kind r page s'
reading_kept q apart keeps tells is = record {
  held = there_kept q apart keeps tells is.held;
  given = is.given;
  some = is.some;
  within = is.within;
  on_page = λ told. is.on_page (sym tells ∙ told);
}

-- a part that is there has another number than one that was made
pub apart_from_made : {p : Piece} {part : ℕ} {s s' : SpillState} → IsMade part s s' → IsThere p s → p.part ≢ part
apart_from_made {s = s} made is same = some_is_none (sym is.size ∙ ap s.size same ∙ made.fresh)

-- a reader is as it was where only faults were counted
pub reading_same : {K : Type 0} {kind : Kind K} {r : Reading K} {page : PageBytes} {s s' : SpillState}
    → SameParts s s' → IsReading kind r page s → IsReading kind r page s'
reading_same {kind = kind} {r = r} {page = page} {s = s} {s' = s'} same is =
    subst (IsReading kind r page) (sym same) (again s'.faults)
  where
    again : (n : ℕ) → IsReading kind r page (record s { faults = n })
    again n = record {
      held = record { size = is.held.size; bytes = is.held.bytes };
      given = is.given;
      some =
          is.some;
      within = is.within;
      on_page = is.on_page;
    }

pub there_same : {p : Piece} {s s' : SpillState} → SameParts s s' → IsThere p s → IsThere p s'
there_same {p = p} {s = s} {s' = s'} same is = subst (IsThere p) (sym same) (again s'.faults)
  where
    again : (n : ℕ) → IsThere p (record s { faults = n })
    again n = record { size = is.size; bytes = is.bytes }

-- what a reader gave and what it has left are what was left
pub given_first : {K : Type 0} {left left_now : List K} {row : K} → GivesNext true left (Some row) left_now
    → left ≡ row ∷ left_now
given_first {left_now = left_now} given = given.1 ∙ ap (λ r. r ∷ left_now) (sym (given.2 refl))

pub same_store : {a b c : SpillState} → SameStore a b → SameParts b c → SameStore a c
same_store {a = a} {b = b} {c = c} same parts = subst (SameStore a) (sym parts) (again c.faults)
  where
    again : (n : ℕ) → SameStore a (record b { faults = n })
    again n = record { name = same.name; started = same.started; tells = same.tells }

pub same_trans : {a b c : SpillState} → SameStore a b → SameStore b c → SameStore a c
same_trans first second =
    record {
      name = second.name ∙ first.name;
      started = second.started ∙ first.started;
      tells = second.tells
          ∙ first.tells;
    }
