-- The weight that the first units of a record tell.
use Rattle.std.proofs.Common.{◌≡◌, ◌≤◌, true, false, List, [], ◌∷◌, ◌++◌, length, Option, Some, None}
use Rattle.std.proofs.Common.{ap, ◌∙◌, arith}
use Rattle.std.specs.Prelude.{Bool, cond, unwrap_or, slice_index_or}
use Rattle.byteorder.specs.Endian.{big_number}
use Rattle.mf_rows.specs.Units.{Unit16}
use Rattle.mf_rows.specs.Heads.{HeadTold, head_in, told_by}
use Rattle.mf_rows.specs.Records.{Record}
use Rattle.mf_rows.specs.RecordUnits.{record_in}
use Rattle.mf_rows.proofs.Redrawn.{spelled}

-- a head has its weight in the second unit
head-weight : (first second : Unit16) (more : List Unit16) (t : HeadTold) → head_in (first ∷ second ∷ more) ≡ Some t
    → big_number 8 second ≡ t.head.weight
unfolding head_in
head-weight first second [] t is = absurd (cc is)
head-weight first second (third ∷ more) t is = by_test _ is
  where
    told : HeadTold
    told = told_by first second third more

    by_test : (b : Bool) → cond b (Some (told_by first second third more)) None ≡ Some t
        → big_number 8 second ≡ t.head.weight
    by_test true e = ap (λ (o : Option HeadTold). (unwrap_or o t).head.weight) e
    by_test false e = absurd (cc e)

-- so has a record
record-weight : (first second : Unit16) (more : List Unit16) (r : Record)
    → record_in (first ∷ second ∷ more) ≡ Some r → big_number 8 second ≡ r.head.weight
record-weight first second more r is =
    let s = spelled (first ∷ second ∷ more) r is in
    head-weight first second _ s.t s.head ∙ ap (λ (q : Record). q.head.weight) s.same

pub weight-told : (units rest : List Unit16) (r : Record) (d : Unit16) → record_in (units ++ rest) ≡ Some r
    → 2 ≤ length units → big_number 8 (slice_index_or units 1 d) ≡ r.head.weight
weight-told [] rest r d is two = absurd (omega (arith, two))
weight-told (first ∷ []) rest r d is two = absurd (omega (arith, two))
weight-told (first ∷ second ∷ more) rest r d is two = record-weight first second (more ++ rest) r is

-- a record has the units of its head
pub ten-units : (units : List Unit16) (r : Record) → record_in units ≡ Some r → 10 ≤ length units
ten-units units r is = (spelled units r is).ten
