-- What is left of a part that is read run after run.
use Rattle.std.proofs.Common.{◌≡◌, ◌≢◌, ℕ, ◌+◌, ◌*◌, ◌≤◌, List, [], ◌∷◌, ◌++◌, length, Bool, true, Option, Some}
use Rattle.std.proofs.Common.{None, refl, sym, ap, subst, ◌∙◌, arith, map, length-append, append_assoc, eq-eqb}
use Rattle.std.proofs.lemmas.List.{length-map}
use Rattle.std.proofs.Math.Nat.{mul-le-mul_right}
use Rattle.mf_edge.specs.Spill.{SpillState, SameParts, KeepsOthers, part_limit}
use Rattle.mf_rows.specs.RowKinds.{Kind}
use Rattle.spill_parts.specs.Parts.{Part, PageBytes, IsReading, GivesNext}
use Rattle.spill_parts.specs.Join.{Climbs, rest_of}
use Rattle.spill_parts.proofs.Kept.{reading_kept, reading_same}
use Rattle.spill_parts.proofs.Looked.{given_rest}
use Rattle.row_runs.specs.Runs.{run_of, after_run}
use Rattle.row_runs.specs.Running.{Running, IsRunning, GivesOf, rows_left}

-- as many rows are held and left as were left
pub given_length : {N : Type 0} (tells : Bool) (left : List N) (found : Option N) (left_now : List N)
    → GivesNext tells left found left_now → length (rest_of found left_now) ≡ length left
given_length tells left None left_now given = ap length (sym given.0)
given_length tells left (Some row) left_now given = ap length (sym given.1)

-- a store tells its bytes as before where only faults were counted
pub tells_as_before : (s s_now : SpillState) → SameParts s s_now → s_now.tells ≡ s.tells
tells_as_before s s_now same = ap (λ (s : SpillState). s.tells) same

-- and it is overrun where it was
pub overrun_as_before : (s s_now : SpillState) → SameParts s s_now → s_now.is_overrun ≡ s.is_overrun
overrun_as_before s s_now same = ap (λ (s : SpillState). s.is_overrun) same

-- rows have a byte each at least
pub few_rows : (width n limit : ℕ) → 1 ≤ width → width * n ≤ limit → n ≤ limit
few_rows width n limit some le = omega (arith, mul-le-mul_right {m = 1} {n = width} n some, le)

no_more : {N : Type 0} (all done left : List N) → all ≡ done ++ left → length left ≤ length all
no_more all done left is = omega (arith, ap length is, length-append done left)

-- A row was read, or there was none.
pub running_now : {N : Type 0} {kind : Kind N} (key : N → ℕ) (source : Part N) (left : List N) (r : Running N)
    (page : PageBytes) (s : SpillState) (tells : Bool)
    → ((done : List N) × (source.rows ≡ done ++ left)) → (tells ≡ true → Climbs key source.rows)
    → length source.rows ≤ part_limit → IsReading kind r.reading page s → s.tells ≡ tells → r.reading.source ≡ source
    → GivesNext tells left r.held r.reading.left → IsRunning kind key r page s
running_now {N} key source left r page s tells done climbs few reading same is_source given = record {
  reading = reading;
  climbs = λ told. subst (λ (p : Part N). Climbs key p.rows) (sym is_source) (climbs (sym same ∙ told));
  last = λ told. (
    done.0,
    ap (λ (p : Part N). p.rows) is_source
        ∙ done.1
        ∙ ap (λ rows. done.0 ++ rows) (sym (given_rest r.held r.reading.left given (sym same ∙ told))),
  );
  most =
      let many : length (rows_left r) ≡ length left = given_length tells left r.held r.reading.left given in
      let all : length r.reading.source.rows ≡ length source.rows = ap (λ (p : Part N). length p.rows) is_source in
      omega (arith, many, all, no_more source.rows done.0 left done.1);
  few = subst (λ (p : Part N). length p.rows ≤ part_limit) (sym is_source) few;
}

-- where only faults were counted, or another part was touched, what reads a part stands as it did
pub running_kept : {N : Type 0} {kind : Kind N} {key : N → ℕ} {r : Running N} {page : PageBytes} {s s_now : SpillState}
    (q : ℕ) → r.reading.source.part ≢ q → KeepsOthers q s s_now → s_now.tells ≡ s.tells → IsRunning kind key r page s
    → IsRunning kind key r page s_now
running_kept q apart keeps tells is = record {
  reading = reading_kept q apart keeps tells is.reading;
  climbs = λ told. is.climbs (sym tells ∙ told);
  last = λ told. is.last (sym tells ∙ told);
  most = is.most;
  few = is.few;
}

pub running_same : {N : Type 0} {kind : Kind N} {key : N → ℕ} {r : Running N} {page : PageBytes} {s s_now : SpillState}
    → SameParts s s_now → IsRunning kind key r page s → IsRunning kind key r page s_now
running_same {s = s} {s_now = s_now} same is =
    let tells = tells_as_before s s_now same in
    record {
      reading = reading_same same is.reading;
      climbs = λ told. is.climbs (sym tells ∙ told);
      last = λ told. is.last (sym tells ∙ told);
      most = is.most;
      few = is.few;
    }

-- ---- what a call gives

-- a row of the run was given
pub run_given : {N : Type 0} (key : N → ℕ) (k : ℕ) (tells : Bool) (left : List N) (row : N) (left_now : List N)
    → GivesOf key k tells left (Some row) left_now → tells ≡ true
    → (run_of key k left ≡ row ∷ run_of key k left_now) × (after_run key k left ≡ after_run key k left_now)
run_given {N} key k tells left row left_now (behind, is, same, many, now) told =
    let all : left ≡ row ∷ left_now = is ∙ ap (λ rows. row ∷ rows) (sym (now told)) in
    let test = eq-eqb (key row) k same in
    (ap (run_of key k) all ∙ rw test refl, ap (after_run key k) all ∙ rw test refl)

-- it is one row less
pub one_less : {N : Type 0} (key : N → ℕ) (k : ℕ) (tells : Bool) (left : List N) (row : N) (left_now : List N)
    → GivesOf key k tells left (Some row) left_now → length left ≡ length left_now + 1
one_less key k tells left row left_now given = omega (arith, ap length given.1, given.3)

-- no row of the run is left
pub run_ended : {N : Type 0} (key : N → ℕ) (k : ℕ) (tells : Bool) (left left_now : List N)
    → GivesOf key k tells left None left_now → (run_of key k left ≡ []) × (after_run key k left ≡ left)
run_ended key k tells [] left_now given = (refl, refl)
run_ended key k tells (r ∷ rs) left_now given = (rw given.0 refl, rw given.0 refl)

-- ---- rows that are put to another part

-- there is room for one of those that are still to be put
pub room_for_one : (width limit have next first all : ℕ) → have + (next + 1) ≡ first + all
    → width * first + width * all ≤ limit → width * have + width ≤ limit
room_for_one width limit have next first all same fits = omega (arith, ap (λ n. width * n) same, fits)

-- there is room for the first of a run, where there is room for the run
pub room_in_run : {N O : Type 0} (width limit : ℕ) (made : N → O) (here first : List O) (row : N) (now next all : List N)
    → now ≡ row ∷ next → here ++ map made now ≡ first ++ map made all
    → width * length first + width * length all ≤ limit → width * length here + width ≤ limit
room_in_run width limit made here first row now next all is same fits =
    let total : length here + length now ≡ length first + length all =
    ap (λ n. length here + n) (sym (length-map now made))
    ∙ sym (length-append here (map made now))
    ∙ ap length same
    ∙ length-append first (map made all)
    ∙ ap (λ n. length first + n) (length-map all made) in
    room_for_one width limit (length here) (length next) (length first) (length all) (omega (arith, total, ap length is))
    fits

-- a row of the run was put
pub run_put : {N O : Type 0} (made : N → O) (row : N) (now next : List N) (put : O) (here here_now all : List O)
    → now ≡ row ∷ next → put ≡ made row → here_now ≡ here ++ put ∷ [] → here ++ map made now ≡ all
    → here_now ++ map made next ≡ all
run_put made row now next put here here_now all is one more same =
    ap (λ rows. rows ++ map made next) (more ∙ ap (λ o. here ++ o ∷ []) one)
    ∙ append_assoc here (made row ∷ []) (map made next)
    ∙ ap (λ rows. here ++ map made rows) (sym is)
    ∙ same
