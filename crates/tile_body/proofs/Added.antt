-- Members of a tile, one more at a time.
use Rattle.std.proofs.Common.{◌≡◌, ℕ, zero, suc, ◌+◌, ◌-◌, ◌≤◌, ◌<◌, List, [], ◌∷◌, ◌++◌, length, map, take, get_or}
use Rattle.std.proofs.Common.{refl, sym, ap, ◌∙◌, arith, subst, length-append, Option, Some, None, inl, inr}
use Rattle.std.specs.Prelude.{slice_get, IfSome, AllPairs}
use Rattle.std.specs.List.{AllByRecursion}
use Rattle.std.proofs.lemmas.Bool.{cases_lt, cases_eq}
use Rattle.std.proofs.lemmas.List.{length-map, length-take, map-append, get_or_append_left, get_or-take, take_more}
use Rattle.std.proofs.lemmas.Option.{slice_get_within, get_or_from_slice_get, none-some}
use Rattle.std.proofs.Math.Seq.{get_or-append_seam}
use Rattle.mf_base.specs.declared.tile.Interval.{Interval}
use Rattle.mf_base.specs.declared.tile.TilePlace.{TilePlace}
use Rattle.feature_model.specs.Features.{Feature}
use Rattle.map_model.specs.Members.{StandsBefore, StandInOrder}
use Rattle.map_model.specs.Room.{rows_limit}
use Rattle.mf_rows.specs.Desks.{Desktop, closed_as}
use Rattle.mf_rows.specs.Records.{Record, candidate_told}
use Rattle.mf_rows.specs.Shapes.{feature_told}
use Rattle.tile_body.specs.Members.{IsMember, HoldsMembers, IsNext, last_of}

-- ---- all of a list

module _ {A : Type 0} (P : A → Type 0) where
  all-add : (xs : List A) (y : A) → AllByRecursion P xs → P y → AllByRecursion P (xs ++ y ∷ [])
  all-add [] y all one = (one, tt)
  all-add (x ∷ xs) y all one = (all.0, all-add xs y all.1 one)

  all-less : (xs : List A) (y : A) → AllByRecursion P (xs ++ y ∷ []) → AllByRecursion P xs × P y
  all-less [] y all = (tt, all.0)
  all-less (x ∷ xs) y all = let rest = all-less xs y all.1 in ((all.0, rest.0), rest.1)

  all-take : (n : ℕ) (xs : List A) → AllByRecursion P xs → AllByRecursion P (take n xs)
  all-take zero xs all = tt
  all-take (suc n) [] all = tt
  all-take (suc n) (x ∷ xs) all = (all.0, all-take n xs all.1)

-- ---- all pairs of a list

module _ {A : Type 0} (R : A → A → Type 0) where
  pairs-add : (xs : List A) (y : A) → ((i : ℕ) (d : A) → i < length xs → R (get_or xs i d) y) → AllPairs R xs
      → AllPairs R (xs ++ y ∷ [])
  pairs-add xs y each all i j d lt within =
      let long = length-append xs (y ∷ []) in
      let front : get_or (xs ++ y ∷ []) i d ≡ get_or xs i d =
      get_or_append_left xs (y ∷ []) d i (omega (arith, long, lt, within)) in
      elim (cases_lt j (length xs)) [
        | inl low ↦
            let later : get_or (xs ++ y ∷ []) j d ≡ get_or xs j d = get_or_append_left xs (y ∷ []) d j low in
            subst (λ v. R v (get_or (xs ++ y ∷ []) j d)) (sym front)
            (subst (λ v. R (get_or xs i d) v) (sym later) (all i j d lt low))
        | inr high ↦
            let end : j ≡ length xs = omega (arith, long, high, within) in
            let last : get_or (xs ++ y ∷ []) j d ≡ y =
            ap (λ k. get_or (xs ++ y ∷ []) k d) end ∙ get_or-append_seam xs y [] d in
            subst (λ v. R v (get_or (xs ++ y ∷ []) j d)) (sym front)
            (subst (λ v. R (get_or xs i d) v) (sym last) (each i d (omega (arith, lt, end))))
      ]

  pairs-less : (xs : List A) (y : A) → AllPairs R (xs ++ y ∷ [])
      → AllPairs R xs × ((i : ℕ) (d : A) → i < length xs → R (get_or xs i d) y)
  pairs-less xs y all =
      let long = length-append xs (y ∷ []) in (
        λ i j d lt low. subst (λ v. R v (get_or xs j d)) (get_or_append_left xs (y ∷ []) d i (omega (arith, lt, low)))
            (subst (λ v. R (get_or (xs ++ y ∷ []) i d) v) (get_or_append_left xs (y ∷ []) d j low)
            (all i j d lt (omega (arith, long, low)))),
        λ i d low. subst (λ v. R v y) (get_or_append_left xs (y ∷ []) d i low)
            (subst (λ v. R (get_or (xs ++ y ∷ []) i d) v) (get_or-append_seam xs y [] d)
            (all i (length xs) d low (omega (arith, long)))),
      )

  pairs-take : (n : ℕ) (xs : List A) → AllPairs R xs → AllPairs R (take n xs)
  pairs-take n xs all i j d lt within =
      let long = length-take n xs in
      subst (λ v. R v (get_or (take n xs) j d)) (sym (get_or-take n xs i d (omega (arith, long, lt, within))))
      (subst (λ v. R (get_or xs i d) v) (sym (get_or-take n xs j d (omega (arith, long, within))))
      (all i j d lt (omega (arith, long, within))))

-- ---- the order of a tile

before-trans : (interval : Interval) (f g h : Feature) → StandsBefore interval f g → StandsBefore interval g h
    → StandsBefore interval f h
before-trans interval f g h (inl a) (inl b) = inl (omega (arith, a, b))
before-trans interval f g h (inl a) (inr b) = let same = b.0 in inl (omega (arith, a, same))
before-trans interval f g h (inr a) (inl b) = let same = a.0 in inl (omega (arith, same, b))
before-trans interval f g h (inr a) (inr b) =
    let low = a.1 in
    let high = b.1 in
    inr (a.0 ∙ b.0, omega (arith, low, high))

-- where the last of some stands before a feature, all of them do
all-before : (interval : Interval) (fs : List Feature) (f : Feature) → AllPairs (StandsBefore interval) fs
    → ((d : Feature) → 0 < length fs → StandsBefore interval (get_or fs (length fs - 1) d) f)
    → (i : ℕ) (d : Feature) → i < length fs → StandsBefore interval (get_or fs i d) f
all-before interval fs f all last i d low =
    elim (cases_eq i (length fs - 1)) [
      | inl same ↦
          subst (λ k. StandsBefore interval (get_or fs k d) f) (sym same) (last d (omega (arith, low)))
      | inr other ↦
          before-trans interval (get_or fs i d) (get_or fs (length fs - 1) d) f
          (all i (length fs - 1) d (omega (arith, other, low)) (omega (arith, low))) (last d (omega (arith, low)))
    ]

-- what holds of the record of a place holds of its feature
at-told : (P : Feature → Type 0) (records : List Record) (i : ℕ)
    → IfSome (slice_get records i) (λ (q : Record). P (feature_told q)) → (d : Feature) → i < length records
    → P (get_or (map feature_told records) i d)
at-told P [] i is d low = absurd (omega (arith, low))
at-told P (q ∷ records) zero is d low = is
at-told P (q ∷ records) (suc i) is d low = at-told P records i is d (omega (arith, low))

told-at : (P : Feature → Type 0) (records : List Record) (i : ℕ)
    → ((d : Feature) → i < length records → P (get_or (map feature_told records) i d))
    → IfSome (slice_get records i) (λ (q : Record). P (feature_told q))
told-at P [] i is = tt
told-at P (q ∷ records) zero is = is (feature_told q) (omega arith)
told-at P (q ∷ records) (suc i) is = told-at P records i (λ d low. is d (omega (arith, low)))

-- Records are the members of a tile in order.
pub record AreInOrder (interval : Interval) (records : List Record) : Type 0 where
  pub each : AllByRecursion IsMember records
  pub order : StandInOrder interval (map feature_told records)

zoom-of : (r : Record) → (feature_told r).zoom ≡ r.head.zoom
unfolding feature_told candidate_told
zoom-of r = refl

pub one-added : (interval : Interval) (records : List Record) (r : Record) → AreInOrder interval records
    → IsNext interval records r → AreInOrder interval (records ++ r ∷ [])
one-added interval records r h n =
    let fs = map feature_told records in
    let more : map feature_told (records ++ r ∷ []) ≡ fs ++ feature_told r ∷ [] =
    map-append feature_told records (r ∷ []) in
    let long = length-map records feature_told in
    let low = n.low in
    let zoom = zoom-of r in
    record {
      each = all-add IsMember records r h.each n.member;
      order = subst (StandInOrder interval) (sym more) (record {
        zooms = all-add (λ (f : Feature). f.zoom ≤ interval.max) fs (feature_told r) h.order.zooms
            (omega (arith, low, zoom));
        pairs = pairs-add (StandsBefore interval) fs (feature_told r)
            (all-before interval fs (feature_told r) h.order.pairs
            (λ d some. subst (λ k. StandsBefore interval (get_or fs (k - 1) d) (feature_told r)) (sym long)
            (at-told (λ f. StandsBefore interval f (feature_told r)) records (length records - 1) n.behind d
            (omega (arith, some, long)))))
            h.order.pairs;
      });
    }

pub one-less : (interval : Interval) (records : List Record) (r : Record) → AreInOrder interval (records ++ r ∷ [])
    → AreInOrder interval records × IsNext interval records r
one-less interval records r h =
    let fs = map feature_told records in
    let more : map feature_told (records ++ r ∷ []) ≡ fs ++ feature_told r ∷ [] =
    map-append feature_told records (r ∷ []) in
    let long = length-map records feature_told in
    let order = subst (StandInOrder interval) more h.order in
    let each = all-less IsMember records r h.each in
    let zooms = all-less (λ (f : Feature). f.zoom ≤ interval.max) fs (feature_told r) order.zooms in
    let pairs = pairs-less (StandsBefore interval) fs (feature_told r) order.pairs in
    let last_zoom = zooms.1 in
    let zoom = zoom-of r in (
      record { each = each.0; order = record { zooms = zooms.0; pairs = pairs.0 } },
      record {
        member = each.1;
        low = omega (arith, last_zoom, zoom);
        behind = told-at (λ f. StandsBefore interval f (feature_told r)) records (length records - 1)
            (λ d low. pairs.1 (length records - 1) d (omega (arith, low, long)));
      },
    )

pub none-added : (interval : Interval) → AreInOrder interval []
none-added interval = record {
  each = tt;
  order = record { zooms = tt; pairs = λ i j d lt within. absurd (omega (arith, within)) };
}

-- ---- of a desk

pub holds-none : (tile : TilePlace) (d : Desktop) → d.capacity ≤ rows_limit → d.records ≡ [] → HoldsMembers tile d
holds-none tile d room none =
    let empty = subst (AreInOrder tile.interval) (sym none) (none-added tile.interval) in
    record { room = room; each = empty.each; order = empty.order }

pub holds-more : (tile : TilePlace) (d : Desktop) (r : Record) → HoldsMembers tile d
    → IsNext tile.interval d.records r → HoldsMembers tile (closed_as (Some r) d)
holds-more tile d r h n =
    let all = one-added tile.interval d.records r (record { each = h.each; order = h.order }) n in
    record { room = h.room; each = all.each; order = all.order }

pub holds-less : (tile : TilePlace) (d : Desktop) (r : Record) → HoldsMembers tile (closed_as (Some r) d)
    → HoldsMembers tile d × IsNext tile.interval d.records r
holds-less tile d r h =
    let all = one-less tile.interval d.records r (record { each = h.each; order = h.order }) in
    let front = all.0 in
    (record { room = h.room; each = front.each; order = front.order }, all.1)

-- ---- while the records of a desk are tested

front-more : (records : List Record) (i : ℕ) (r : Record) → Some r ≡ slice_get records i
    → take (i + 1) records ≡ take i records ++ r ∷ []
front-more records i r is =
    take_more records i r (slice_get_within records i r (sym is))
    ∙ ap (λ q. take i records ++ q ∷ []) (get_or_from_slice_get records i r r (sym is))

pub tested-more : (interval : Interval) (records : List Record) (i : ℕ) → i < length records
    → IfSome (slice_get records i) (IsNext interval (take i records)) → AreInOrder interval (take i records)
    → AreInOrder interval (take (i + 1) records)
tested-more interval records i low next h = by_found (slice_get records i) refl next
  where
    by_found : (o : Option Record) → o ≡ slice_get records i → IfSome o (IsNext interval (take i records))
        → AreInOrder interval (take (i + 1) records)
    by_found None is next = absurd (no-such records i low (sym is))
      where
        no-such : (xs : List Record) (k : ℕ) → k < length xs → slice_get xs k ≡ None → ⊥
        no-such [] k low is = omega (arith, low)
        no-such (x ∷ xs) zero low is = none-some x (sym is)
        no-such (x ∷ xs) (suc k) low is = no-such xs k (omega (arith, low)) is
    by_found (Some r) is next =
        subst (AreInOrder interval) (sym (front-more records i r is)) (one-added interval (take i records) r h next)

-- where all are in order, each is the next behind those before it
pub each-next : (interval : Interval) (records : List Record) (i : ℕ) → AreInOrder interval records
    → IfSome (slice_get records i) (IsNext interval (take i records))
each-next interval records i h = by_found (slice_get records i) refl
  where
    by_found : (o : Option Record) → o ≡ slice_get records i → IfSome o (IsNext interval (take i records))
    by_found None is = tt
    by_found (Some r) is =
        let front : AreInOrder interval (take (i + 1) records) = record {
          each = all-take IsMember (i + 1) records h.each;
          order = record {
            zooms = subst (AllByRecursion (λ (f : Feature). f.zoom ≤ interval.max)) (taken (i + 1) records)
                (all-take (λ (f : Feature). f.zoom ≤ interval.max) (i + 1) (map feature_told records) h.order.zooms);
            pairs = subst (AllPairs (StandsBefore interval)) (taken (i + 1) records)
                (pairs-take (StandsBefore interval) (i + 1) (map feature_told records) h.order.pairs);
          };
        } in
        (one-less interval (take i records) r (subst (AreInOrder interval) (front-more records i r is) front)).1
      where
        taken : (n : ℕ) (rs : List Record) → take n (map feature_told rs) ≡ map feature_told (take n rs)
        taken zero rs = refl
        taken (suc n) [] = refl
        taken (suc n) (r ∷ rs) = ap (λ fs. feature_told r ∷ fs) (taken n rs)

pub all-in_order : (tile : TilePlace) (d : Desktop) → HoldsMembers tile d → AreInOrder tile.interval d.records
all-in_order tile d h = record { each = h.each; order = h.order }

-- the last of those before a place
pub last-before : (records : List Record) (i : ℕ) (q : Record) → 0 < i → i ≤ length records
    → Some q ≡ slice_get records (i - 1) → last_of (take i records) ≡ Some q
last-before records i q some within is =
    let long = length-take i records in
    ap (λ k. slice_get (take i records) (k - 1)) (omega (arith, long, within)) ∙ same records i (i - 1)
    (omega (arith, some)) ∙ sym is
  where
    same : (xs : List Record) (n k : ℕ) → k < n → slice_get (take n xs) k ≡ slice_get xs k
    same xs zero k low = absurd (omega (arith, low))
    same [] (suc n) k low = refl
    same (x ∷ xs) (suc n) zero low = refl
    same (x ∷ xs) (suc n) (suc k) low = same xs n k (omega (arith, low))
