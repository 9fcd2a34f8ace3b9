-- The last record of a desk, as it is changed in its place.
use Rattle.std.proofs.Common.{◌≡◌, ℕ, ◌+◌, ◌-◌, ◌≤◌, ◌<◌, List, [], ◌∷◌, ◌++◌, length, drop, take, refl, sym, ap}
use Rattle.std.proofs.Common.{◌∙◌, arith, subst}
use Rattle.std.specs.Prelude.{map, slice_get, slice_index_or, slice_set, unwrap_or, zero, suc, Some}
use Rattle.std.proofs.lemmas.List.{length-map, map-append, take_all, drop_all, take_more, set_split}
use Rattle.mf_rows.specs.Units.{Unit16}
use Rattle.mf_rows.specs.Records.{Record}
use Rattle.mf_rows.specs.Told.{record_at, IsKept, AreKept, IsChanged}
use Rattle.mf_rows.specs.Desks.{Desktop, used}
use Rattle.mf_rows.specs.Changes.{change_last, LastIs, with_last}
use Rattle.mf_rows.specs.declared.told.Kept.{Kept}
use Rattle.mf_rows.proofs.KeptLaws.{desktop, records-are, in-use, all-stay, all-same, put-behind, parted, all-closed}
use Rattle.mf_rows.proofs.KeptLaws.{front-kept}

-- ---- the last of a list

pub change-is : {A : Type 0} (f : A → A) (front : List A) (a : A) → change_last f (front ++ a ∷ []) ≡ front ++ f a ∷ []
change-is f [] a = refl
change-is f (x ∷ []) a = refl
change-is f (x ∷ y ∷ front) a = ap (λ more. x ∷ more) (change-is f (y ∷ front) a)

pub last-is : {A : Type 0} (P : A → Type 0) (front : List A) (a : A) → LastIs P (front ++ a ∷ []) → P a
last-is P [] a is = is
last-is P (x ∷ []) a is = is
last-is P (x ∷ y ∷ front) a is = last-is P (y ∷ front) a is

pub is-last : {A : Type 0} (P : A → Type 0) (front : List A) (a : A) → P a → LastIs P (front ++ a ∷ [])
is-last P [] a is = is
is-last P (x ∷ []) a is = is
is-last P (x ∷ y ∷ front) a is = is-last P (y ∷ front) a is

pub some-last : {A : Type 0} (P : A → Type 0) (all : List A) → LastIs P all → 0 < length all
some-last P [] is = absurd is
some-last P (a ∷ all) is = omega arith

-- the last one, by its place
last-there : {A : Type 0} (P : A → Type 0) (all : List A) (i : ℕ) (a : A) → i + 1 ≡ length all
    → Some a ≡ slice_get all i → (LastIs P all → P a) × (P a → LastIs P all)
last-there P [] i a end is = absurd (omega (arith, end))
last-there P (x ∷ []) zero a end is =
    let same : a ≡ x = ap (λ o. unwrap_or o a) is in (λ holds. subst P (sym same) holds, λ holds. subst P same holds)
last-there P (x ∷ []) (suc i) a end is = absurd (omega (arith, end))
last-there P (x ∷ y ∷ more) zero a end is = absurd (omega (arith, end))
last-there P (x ∷ y ∷ more) (suc i) a end is = last-there P (y ∷ more) i a (omega (arith, end)) is

pub last-of : {A : Type 0} (P : A → Type 0) (all : List A) (i : ℕ) (a : A) → i ≡ length all - 1
    → Some a ≡ slice_get all i → (LastIs P all → P a) × (P a → LastIs P all)
last-of P [] i a at is = cc
last-of P (x ∷ all) i a at is = last-there P (x ∷ all) i a (omega (arith, at)) is

split-last : (kept : List Kept) (i : ℕ) (k : Kept) → i + 1 ≡ length kept → k ≡ slice_index_or kept i k
    → kept ≡ take i kept ++ k ∷ []
split-last kept i k end found = sym (take_all (i + 1) kept (omega (arith, end)))
    ∙ take_more kept i k (omega (arith, end)) ∙ ap (λ x. take i kept ++ x ∷ []) (sym found)

set-last : (kept : List Kept) (i : ℕ) (k : Kept) → i + 1 ≡ length kept
    → slice_set kept i k ≡ take i kept ++ k ∷ []
set-last kept i k end = set_split kept i k (omega (arith, end))
    ∙ ap (λ more. take i kept ++ k ∷ more) (drop_all (suc i) kept (omega (arith, end)))

-- ---- the last record

module _ (units : List Unit16) (kept : List Kept) (closed cap : ℕ) (d : Desktop) (is : AreKept units 0 kept closed)
    (within : closed ≤ length units) (seen : desktop units kept closed cap ≡ d) where
  pub some-kept : 0 < length d.records → 0 < length kept
  some-kept some = let many : length d.records ≡ length (map (record_at units) kept) =
      ap length (records-are units kept closed cap d is within seen) in
      omega (arith, some, many, length-map kept (record_at units))

  module _ (none : d.loose ≡ []) (i : ℕ) (k : Kept) (end : i + 1 ≡ length kept) (found : k ≡ slice_index_or kept i k)
    where
      abbrev front : List Kept
      front = take i kept

      last : kept ≡ front ++ k ∷ []
      last = split-last kept i k end found

      pub last-kept-is : IsKept units k.first k
      last-kept-is = (parted units kept closed cap d is within seen none front k last).1

      pub all-closed-is : length units ≡ closed
      all-closed-is = all-closed units kept closed cap d is within seen none front k last

      pub last-ends : k.first + k.count ≡ length units
      last-ends = (parted units kept closed cap d is within seen none front k last).2 ∙ sym all-closed-is

      records-so : d.records ≡ map (record_at units) front ++ record_at units k ∷ []
      records-so = records-are units kept closed cap d is within seen ∙ ap (map (record_at units)) last
          ∙ map-append (record_at units) front (k ∷ [])

      pub last-record : (P : Record → Type 0) → LastIs P d.records → P (record_at units k)
      last-record P holds =
          last-is P (map (record_at units) front) (record_at units k) (subst (LastIs P) records-so holds)

      module _ (later : List Unit16) (new : Kept) (f : Record → Record)
          (now : IsChanged units k (f (record_at units k)) later new) where
        same-front : take k.first units ≡ take k.first later
        same-front = sym now.before

        enough : k.first ≤ length later
        enough = let ends : new.first + new.count ≡ length later = now.end in omega (arith, ends, now.first)

        fronts : AreKept units 0 front k.first
        fronts = front-kept units kept closed cap d is within seen none front k last

        pub changed-kept : (e : ℕ) → e ≡ length later → AreKept later 0 (slice_set kept i new) e
        changed-kept e ends =
            let all : k.first + new.count ≡ e = omega (arith, ends, now.end, now.first) in
            subst (λ (ks : List Kept). AreKept later 0 ks e) (sym (set-last kept i new end))
            (subst (AreKept later 0 (front ++ new ∷ [])) all
            (put-behind later 0 k.first front new (all-stay units later k.first same-front enough 0 front fronts)
            now.kept))

        pub changed-seen : (e room : ℕ) → e ≡ length later → room ≡ d.capacity
            → desktop later (slice_set kept i new) e room ≡ with_last f d
        changed-seen e room ends full =
            let records : map (record_at later) (slice_set kept i new) ≡ change_last f d.records =
            ap (map (record_at later)) (set-last kept i new end) ∙ map-append (record_at later) front (new ∷ [])
            ∙ ap (λ rs. rs ++ record_at later new ∷ [])
            (sym (all-same units later k.first same-front enough 0 front fronts))
            ∙ ap (λ (r : Record). map (record_at units) front ++ r ∷ []) now.same
            ∙ sym (change-is f (map (record_at units) front) (record_at units k))
            ∙ ap (change_last f) (sym records-so) in
            let empty : drop e later ≡ d.loose = drop_all e later (omega (arith, ends)) ∙ sym none in
            ap (λ rs. record { records = rs; loose = drop e later; capacity = room }) records
            ∙ ap (λ us. record { records = change_last f d.records; loose = us; capacity = room }) empty
            ∙ ap (λ n. record { records = change_last f d.records; loose = d.loose; capacity = n }) full

        pub changed-used : (e room : ℕ) → e ≡ length later
            → used (desktop later (slice_set kept i new) e room) ≡ length later
        changed-used e room ends = in-use later (slice_set kept i new) e room
            (desktop later (slice_set kept i new) e room) (changed-kept e ends) (omega (arith, ends)) refl
