-- A record of a desk has at most as many units as all of them.
use Rattle.std.proofs.Common.{◌≡◌, ℕ, zero, suc, ◌≤◌, ◌<◌, ◌^◌, List, [], ◌∷◌, sym, ap, arith, Some}
use Rattle.std.specs.Prelude.{slice_get}
use Rattle.std.proofs.lemmas.Option.{none-some, same_Some}
use Rattle.mf_rows.specs.Desks.{units_in}
use Rattle.mf_rows.specs.Records.{Record}
use Rattle.mf_rows.specs.RecordUnits.{unit_count, parts_count}

pub units-at : (records : List Record) (i : ℕ) (r : Record) → Some r ≡ slice_get records i
    → unit_count r ≤ units_in records
units-at [] zero r is = absurd (none-some _ (sym is))
units-at [] (suc i) r is = absurd (none-some _ (sym is))
units-at (q ∷ records) zero r is = let e = ap unit_count (same_Some r q is) in omega (arith, e)
units-at (q ∷ records) (suc i) r is = let rest = units-at records i r is in omega (arith, rest)

pub parts-few : (records : List Record) (i : ℕ) (r : Record) → Some r ≡ slice_get records i
    → units_in records < 2 ^ 32 → parts_count r.parts < 2 ^ 32
parts-few records i r is few = let units = units-at records i r is in omega (arith, units, few)
