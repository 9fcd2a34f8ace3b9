-- The records of a desk, one after another.
use Rattle.std.proofs.Common.{◌≡◌, ℕ, zero, suc, ◌+◌, ◌*◌, ◌≤◌, ◌<◌, List, [], ◌∷◌, ◌++◌, length, drop, take, Some}
use Rattle.std.proofs.Common.{refl, sym, ap, ◌∙◌, arith, subst}
use Rattle.std.specs.Prelude.{map, slice_get, slice_index_or, option_map, unwrap_or, ◌-◌, ◌/◌}
use Rattle.std.proofs.lemmas.List.{length-drop, length-take, length-append, length-map, map-append, take_all}
use Rattle.std.proofs.lemmas.List.{take-set-le, drop-set-add, length-set}
use Rattle.std.specs.Prelude.{slice_set}
use Rattle.std.proofs.lemmas.List.{take-append-le, drop-append-le, drop-take}
use Rattle.mf_rows.specs.Units.{Unit16}
use Rattle.mf_rows.specs.Records.{Record}
use Rattle.mf_rows.specs.RecordUnits.{record_in, unit_count}
use Rattle.mf_rows.specs.Heads.{head_in}
use Rattle.mf_rows.specs.Told.{head_told, record_told, record_at, units_at, IsTold, IsKept, AreKept}
use Rattle.mf_rows.specs.Desks.{Desktop, units_in, used, IsLoosened}
use Rattle.mf_rows.specs.declared.told.Told.{Told}
use Rattle.mf_rows.specs.declared.told.Kept.{Kept}

-- so many units from this one on are the same, where the front is
pub front-of : (c f n : ℕ) (xs : List Unit16) → f + c ≤ n → take c (drop f (take n xs)) ≡ take c (drop f xs)
front-of zero f n xs within = refl
front-of (suc c) zero zero xs within = absurd (omega (arith, within))
front-of (suc c) zero (suc n) [] within = refl
front-of (suc c) zero (suc n) (x ∷ xs) within = ap (λ more. x ∷ more) (front-of c zero n xs (omega (arith, within)))
front-of (suc c) (suc f) zero xs within = absurd (omega (arith, within))
front-of (suc c) (suc f) (suc n) [] within = refl
front-of (suc c) (suc f) (suc n) (x ∷ xs) within = front-of (suc c) f n xs (omega (arith, within))

-- records end behind where they begin
pub at-least : (units : List Unit16) (at end : ℕ) (kept : List Kept) → AreKept units at kept end → at ≤ end
at-least units at end [] is = omega (arith, is)
at-least units at end (k ∷ kept) is =
    let more : at + k.count ≤ end = at-least units (at + k.count) end kept is.1 in omega (arith, more)

-- a record has ten units at least
pub few-kept : (units : List Unit16) (at end : ℕ) (kept : List Kept) → AreKept units at kept end
    → at + 10 * length kept ≤ end
few-kept units at end [] is = omega (arith, is)
few-kept units at end (k ∷ kept) is =
    let more : at + k.count + 10 * length kept ≤ end = few-kept units (at + k.count) end kept is.1 in
    let ten : 10 ≤ k.count = is.0.head in
    omega (arith, more, ten)

-- a record has as many units as are counted
one-counted : (units : List Unit16) (at : ℕ) (k : Kept) → IsKept units at k → unit_count (record_at units k) ≡ k.count
one-counted units at k is =
    let counted : unit_count (record_at units k) ≡ 10 + length (drop 10 (units_at units k)) = is.told.counted in
    let ten : 10 ≤ k.count = is.head in
    let within : k.first + k.count ≤ length units = rw is.first is.within in
    omega (
      arith,
      counted,
      ten,
      within,
      length-drop 10 (units_at units k),
      length-take k.count (drop k.first units),
      length-drop k.first units,
    )

pub all-counted : (units : List Unit16) (at end : ℕ) (kept : List Kept) → AreKept units at kept end
    → at + units_in (map (record_at units) kept) ≡ end
all-counted units at end [] is = omega (arith, is)
all-counted units at end (k ∷ kept) is =
    let one : unit_count (record_at units k) ≡ k.count = one-counted units at k is.0 in
    let more : at + k.count + units_in (map (record_at units) kept) ≡ end =
    all-counted units (at + k.count) end kept is.1 in
    omega (arith, one, more)

-- ---- other units behind records

module _ (units later : List Unit16) (end : ℕ) (same : take end units ≡ take end later)
    (enough : end ≤ length later) where
  same-units : (at : ℕ) (k : Kept) → IsKept units at k → at + k.count ≤ end → units_at units k ≡ units_at later k
  same-units at k is within =
      let fits : k.first + k.count ≤ end = rw is.first within in
      sym (front-of k.count k.first end units fits) ∙ ap (λ us. take k.count (drop k.first us)) same
      ∙ front-of k.count k.first end later fits

  stays-one : (at : ℕ) (k : Kept) → IsKept units at k → at + k.count ≤ end → IsKept later at k
  stays-one at k is within = record {
    first = is.first;
    head = is.head;
    read = subst (λ us. head_in (take 10 us) ≡ Some (head_told k.told)) (same-units at k is within) is.read;
    within = omega (arith, within, enough);
    told = subst (λ us. IsTold k.told (drop 10 us) (record_in us)) (same-units at k is within) is.told;
  }

  pub all-stay : (at : ℕ) (kept : List Kept) → AreKept units at kept end → AreKept later at kept end
  all-stay at [] is = is
  all-stay at (k ∷ kept) is =
      (stays-one at k is.0 (at-least units (at + k.count) end kept is.1), all-stay (at + k.count) kept is.1)

  pub all-same : (at : ℕ) (kept : List Kept) → AreKept units at kept end
      → map (record_at units) kept ≡ map (record_at later) kept
  all-same at [] is = refl
  all-same at (k ∷ kept) is =
      let within : at + k.count ≤ end = at-least units (at + k.count) end kept is.1 in
      let one : record_at units k ≡ record_at later k =
      ap (λ us. record_told k.told (drop 10 us)) (same-units at k is.0 within) in
      ap (λ r. r ∷ map (record_at units) kept) one
      ∙ ap (λ rs. record_at later k ∷ rs) (all-same (at + k.count) kept is.1)

-- ---- one record more, and one less

pub put-behind : (units : List Unit16) (at end : ℕ) (kept : List Kept) (k : Kept) → AreKept units at kept end
    → IsKept units end k → AreKept units at (kept ++ k ∷ []) (end + k.count)
put-behind units at end [] k is one = (subst (λ n. IsKept units n k) (sym is) one, ap (λ n. n + k.count) is)
put-behind units at end (first ∷ kept) k is one =
    (is.0, put-behind units (at + first.count) end kept k is.1 one)

pub last-kept : (units : List Unit16) (at end : ℕ) (kept : List Kept) (k : Kept) → AreKept units at (kept ++ k ∷ []) end
    → AreKept units at kept k.first × IsKept units k.first k × (k.first + k.count ≡ end)
last-kept units at end [] k is =
    let here : k.first ≡ at = is.0.first in
    (sym here, subst (λ n. IsKept units n k) (sym here) is.0, ap (λ n. n + k.count) here ∙ is.1)
last-kept units at end (first ∷ kept) k is =
    let more = last-kept units (at + first.count) end kept k is.1 in ((is.0, more.0), more.1, more.2)

-- ---- a record by its number

pub kept-at : (units : List Unit16) (at end : ℕ) (kept : List Kept) (i : ℕ) (k : Kept) → AreKept units at kept end
    → slice_get kept i ≡ Some k → IsKept units k.first k
kept-at units at end [] i k is found = cc
kept-at units at end (first ∷ kept) zero k is found =
    let same : first ≡ k = ap (λ o. unwrap_or o first) found in
    subst (λ n. IsKept units n.first n) same (subst (λ n. IsKept units n first) (sym is.0.first) is.0)
kept-at units at end (first ∷ kept) (suc i) k is found = kept-at units (at + first.count) end kept i k is.1 found

pub record-at : (units : List Unit16) (kept : List Kept) (i : ℕ)
    → slice_get (map (record_at units) kept) i ≡ option_map (record_at units) (slice_get kept i)
record-at units [] i = refl
record-at units (first ∷ kept) zero = refl
record-at units (first ∷ kept) (suc i) = record-at units kept i

-- the same, by the look-up with a default
pub got : (d : Kept) (kept : List Kept) (i : ℕ) (k : Kept) → i < length kept → k ≡ slice_index_or kept i d
    → slice_get kept i ≡ Some k
got d [] i k below is = absurd (omega (arith, below))
got d (first ∷ kept) zero k below is = ap Some (sym is)
got d (first ∷ kept) (suc i) k below is = got d kept i k (omega (arith, below)) is

-- ---- what a desk shows, and what its calls do to it

abbrev pub desktop : List Unit16 → List Kept → (closed capacity : ℕ) → Desktop
desktop units kept closed capacity =
    record { records = map (record_at units) kept; loose = drop closed units; capacity = capacity }

module _ (units : List Unit16) (kept : List Kept) (closed cap : ℕ) (d : Desktop) (is : AreKept units 0 kept closed)
    (within : closed ≤ length units)
    (seen : desktop units kept closed cap ≡ d)
  where
    pub in-use : used d ≡ length units
    in-use =
        let all : 0 + units_in (map (record_at units) kept) ≡ closed = all-counted units 0 closed kept is in
        sym (ap used seen) ∙ omega (arith, all, within, length-drop closed units)

    pub room-is : d.capacity ≡ cap
    room-is = ap (λ (e : Desktop). e.capacity) (sym seen)

    loose-is : d.loose ≡ drop closed units
    loose-is = ap (λ (e : Desktop). e.loose) (sym seen)

    pub records-are : d.records ≡ map (record_at units) kept
    records-are = ap (λ (e : Desktop). e.records) (sym seen)

    -- other units behind the records
    changed : (later loose : List Unit16) (room : ℕ) → take closed units ≡ take closed later → closed ≤ length later
        → drop closed later ≡ loose → room ≡ cap
        → desktop later kept closed room ≡
        (record { records = d.records; loose = loose; capacity = d.capacity })
    changed later loose room same enough last full =
        ap (λ rs. record { records = rs; loose = drop closed later; capacity = room })
        (sym (all-same units later closed same enough 0 kept is) ∙ sym records-are)
        ∙ ap (λ us. record { records = d.records; loose = us; capacity = room }) last
        ∙ ap (λ n. record { records = d.records; loose = loose; capacity = n }) (full ∙ sym room-is)

    module _ (later : List Unit16) (u : Unit16) (more : later ≡ units ++ u ∷ []) where
      front-stays : take closed units ≡ take closed later
      front-stays = sym (ap (take closed) more ∙ take-append-le closed units (u ∷ []) within)

      pub longer : closed ≤ length later
      longer = rw more (omega (arith, within, length-append units (u ∷ [])))

      pub put-kept : AreKept later 0 kept closed
      put-kept = all-stay units later closed front-stays longer 0 kept is

      pub put-seen : (room : ℕ) → room ≡ cap
          → desktop later kept closed room ≡
          (record { records = d.records; loose = d.loose ++ u ∷ []; capacity = d.capacity })
      put-seen room full = changed later (d.loose ++ u ∷ []) room front-stays longer
          (ap (drop closed) more ∙ drop-append-le closed units (u ∷ []) within ∙ ap (λ us. us ++ u ∷ []) (sym loose-is))
          full

    module _ (later : List Unit16) (n : ℕ) (few : n ≤ length d.loose) (less : later ≡ take (closed + n) units) where
      cut-front : take closed units ≡ take closed later
      cut-front = sym (ap (take closed) less ∙ front-of closed 0 (closed + n) units (omega arith))

      room-left : closed + n ≤ length units
      room-left = let loose : n ≤ length (drop closed units) = subst (λ us. n ≤ length us) loose-is few in
          omega (arith, loose, within, length-drop closed units)

      pub cut-long : closed ≤ length later
      cut-long = rw less (omega (arith, room-left, length-take (closed + n) units))

      pub cut-kept : AreKept later 0 kept closed
      cut-kept = all-stay units later closed cut-front cut-long 0 kept is

      pub cut-seen : (room : ℕ) → room ≡ cap
          → desktop later kept closed room ≡
          (record { records = d.records; loose = take n d.loose; capacity = d.capacity })
      cut-seen room full = changed later (take n d.loose) room cut-front cut-long
          (ap (drop closed) less ∙ drop-take closed n units ∙ ap (take n) (sym loose-is)) full

    module _ (later : List Unit16) (i : ℕ) (u : Unit16) (below : i < length d.loose)
        (put : later ≡ slice_set units (closed + i) u) where
      set-front : take closed units ≡ take closed later
      set-front = sym (ap (take closed) put ∙ take-set-le closed units (closed + i) u (omega arith))

      pub set-long : closed ≤ length later
      set-long = rw put (omega (arith, within, length-set units (closed + i) u))

      pub set-kept : AreKept later 0 kept closed
      set-kept = all-stay units later closed set-front set-long 0 kept is

      pub set-seen : (room : ℕ) → room ≡ cap
          → desktop later kept closed room ≡
          (record { records = d.records; loose = slice_set d.loose i u; capacity = d.capacity })
      set-seen room full = changed later (slice_set d.loose i u) room set-front set-long
          (ap (drop closed) put ∙ drop-set-add closed units i u ∙ ap (λ us. slice_set us i u) (sym loose-is)) full

    -- the loose units become a record
    module _ (told : Told) (rest : List Unit16) (rest-is : rest ≡ drop closed units)
        (is_told : IsTold told (drop 10 rest) (record_in rest)) (ten : 10 ≤ length rest)
        (read : head_in (take 10 rest) ≡ Some (head_told told)) where
      abbrev made : Kept
      made = record { told = told; first = closed; count = length units - closed }

      made-units : units_at units made ≡ rest
      made-units = take_all (length units - closed) (drop closed units) (omega (arith, length-drop closed units))
          ∙ sym rest-is

      made-kept : IsKept units closed made
      made-kept = record {
        first = refl;
        head = let some : 10 ≤ length (drop closed units) = subst (λ us. 10 ≤ length us) rest-is ten in
            omega (arith, some, length-drop closed units);
        read = subst (λ us. head_in (take 10 us) ≡ Some (head_told told)) (sym made-units) read;
        within = omega (arith, within);
        told = subst (λ us. IsTold told (drop 10 us) (record_in us)) (sym made-units) is_told;
      }

      pub close-kept : AreKept units 0 (kept ++ made ∷ []) (closed + (length units - closed))
      close-kept = put-behind units 0 closed kept made is made-kept

      -- as many units are in use
      pub close-used : used (desktop units (kept ++ made ∷ []) (closed + (length units - closed)) cap) ≡ used d
      close-used =
          let all : 0 + units_in (map (record_at units) (kept ++ made ∷ [])) ≡ closed + (length units - closed) =
          all-counted units 0 (closed + (length units - closed)) (kept ++ made ∷ []) close-kept in
          omega (arith, all, within, in-use, length-drop (closed + (length units - closed)) units)

      -- and there is room for its place
      pub place-left : length units ≤ cap → length kept < cap / 10
      place-left most =
          let few : 0 + 10 * length kept ≤ closed = few-kept units 0 closed kept is in
          let some : 10 ≤ length units - closed = made-kept.head in
          omega (arith, few, some, most, within)

    pub below-kept : (i : ℕ) → i < length d.records → i < length kept
    below-kept i below =
        let some : i < length (map (record_at units) kept) =
        subst (λ (rs : List Record). i < length rs) records-are below in
        omega (arith, some, length-map kept (record_at units))

    -- a record by its number
    module _ (i : ℕ) (k : Kept) (below : i < length kept) (found : k ≡ slice_index_or kept i k) where
      is-at : IsKept units k.first k
      is-at = kept-at units 0 closed kept i k is (got k kept i k below found)

      pub at-within : k.first + k.count ≤ length units
      at-within = is-at.within

      pub at-head : 10 ≤ length (units_at units k)
      at-head =
          let ten : 10 ≤ k.count = is-at.head in
          omega (arith, at-within, ten, length-take k.count (drop k.first units), length-drop k.first units)

      pub at-told : IsTold k.told (drop 10 (units_at units k)) (record_in (units_at units k))
      at-told = is-at.told

      pub at-record : Some (record_at units k) ≡ slice_get d.records i
      at-record = sym (ap (λ rs. slice_get rs i) records-are ∙ record-at units kept i
          ∙ ap (option_map (record_at units)) (got k kept i k below found))

      pub at-spelled : record_in (units_at units k) ≡ slice_get d.records i
      at-spelled = is-at.told.same ∙ at-record

      pub at-counted : Some (length (units_at units k)) ≡ option_map unit_count (slice_get d.records i)
      at-counted =
          let long : length (units_at units k) ≡ k.count =
          omega (arith, at-within, length-take k.count (drop k.first units), length-drop k.first units) in
          ap Some (long ∙ sym (one-counted units k.first k is-at)) ∙ ap (option_map unit_count) at-record

    -- the last record becomes loose units
    module _ (none : d.loose ≡ []) (front : List Kept) (k : Kept) (last : kept ≡ front ++ k ∷ []) where
      pub parted : AreKept units 0 front k.first × IsKept units k.first k × (k.first + k.count ≡ closed)
      parted = last-kept units 0 closed front k (subst (λ ks. AreKept units 0 ks closed) last is)

      pub front-kept : AreKept units 0 front k.first
      front-kept = parted.0

      pub all-closed : length units ≡ closed
      all-closed =
          let empty : length (drop closed units) ≡ 0 = ap length (sym loose-is ∙ none) in
          omega (arith, empty, within, length-drop closed units)

      pub first-within : k.first ≤ length units
      first-within = omega (arith, parted.2, all-closed)

      its-units : units_at units k ≡ drop k.first units
      its-units = take_all k.count (drop k.first units)
          (omega (arith, parted.2, all-closed, length-drop k.first units))

      pub loosened : (room : ℕ) → room ≡ cap
          → IsLoosened d (record { records = map (record_at units) front; loose = drop k.first units; capacity = room })
      loosened room full =
          let fewer : 0 + units_in (map (record_at units) front) ≡ k.first =
          all-counted units 0 k.first front front-kept in
          record {
            last = record_at units k;
            was = records-are ∙ ap (map (record_at units)) last ∙ map-append (record_at units) front (k ∷ []);
            spelled = ap record_in (sym its-units) ∙ parted.1.told.same;
            same_room = full ∙ sym room-is;
            same_use = omega (arith, fewer, in-use, first-within, length-drop k.first units);
          }
