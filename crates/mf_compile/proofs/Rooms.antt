-- Rooms of desks.
use Rattle.std.proofs.Common.{◌≡◌, ◌<◌, ◌≤◌, ◌+◌, ◌*◌, ◌∙◌, ℕ, zero, suc, List, [], ◌∷◌, ◌++◌, refl, sym, ap, arith, length, drop, get_or, drop-cons}
use Rattle.std.specs.Prelude.{replicate, sum}
use Rattle.std.specs.List.{AllByRecursion}
use Rattle.std.proofs.lemmas.List.{replicate_more, drop_all}
use Rattle.std.proofs.lemmas.List.Sums.{sum_by-cons}
use Rattle.std.proofs.lemmas.List.Folds.{sum_by-replicate}
use Rattle.std.proofs.Math.Nat.{suc-mul}
use Rattle.mf_rows.specs.Desks.{used}
use Rattle.mf_rows.specs.declared.desk.Desk.{Desk}
use Rattle.spill_parts.specs.Parts.{PageBytes}
use Rattle.mf_compile.specs.Jobs.{desk_rooms, rows_in_use, resident_rows, HaveRooms}

pub rooms-append : (desks more : List Desk) → desk_rooms (desks ++ more) ≡ desk_rooms desks ++ desk_rooms more
rooms-append [] more = refl
rooms-append (d ∷ desks) more = ap (λ rooms. d.records.capacity ∷ rooms) (rooms-append desks more)

-- one more desk
pub rooms-next : (count rows : ℕ) (desks : List Desk) (d : Desk) → desk_rooms desks ≡ replicate count rows
    → d.records.capacity ≡ rows → desk_rooms (desks ++ d ∷ []) ≡ replicate (count + 1) rows
rooms-next count rows desks d same is =
    rooms-append desks (d ∷ []) ∙ ap (λ rooms. rooms ++ d.records.capacity ∷ []) same
    ∙ ap (λ n. replicate count rows ++ n ∷ []) is ∙ replicate_more count rows

sum-replicate : (count rows : ℕ) → sum (replicate count rows) ≡ count * rows
sum-replicate count rows = sum_by-replicate (λ (n : ℕ). n) count rows

-- one desk more is counted
pub spare-next : (desks : List Desk) (i spare more : ℕ) (d : Desk) → i < length desks → d ≡ get_or desks i d
    → more + used d.records ≡ d.records.capacity
    → spare + rows_in_use desks + sum (desk_rooms (drop i desks)) ≡ sum (desk_rooms desks) + rows_in_use (drop i desks)
    → spare + more + rows_in_use desks + sum (desk_rooms (drop (i + 1) desks))
    ≡ sum (desk_rooms desks) + rows_in_use (drop (i + 1) desks)
spare-next desks i spare more d lt is rest so_far =
    let one : i + 1 ≡ suc i = omega arith in
    let cut : drop i desks ≡ d ∷ drop (i + 1) desks =
    drop-cons desks i d lt ∙ ap (λ x. x ∷ drop (suc i) desks) (sym is) ∙ ap (λ n. d ∷ drop n desks) (sym one) in
    let rooms = ap (λ ds. sum (desk_rooms ds)) cut
    ∙ sum_by-cons (λ (n : ℕ). n) d.records.capacity (desk_rooms (drop (i + 1) desks)) in
    let in_use = ap rows_in_use cut ∙ sum_by-cons (λ (x : Desk). used x.records) d (drop (i + 1) desks) in
    omega (arith, rooms, in_use, rest, so_far)

pub spare-end : (desks : List Desk) (i spare : ℕ) → length desks ≤ i
    → spare + rows_in_use desks + sum (desk_rooms (drop i desks)) ≡ sum (desk_rooms desks) + rows_in_use (drop i desks)
    → spare + rows_in_use desks ≡ sum (desk_rooms desks)
spare-end desks i spare le rest =
    let none = drop_all i desks le in
    let rooms = ap (λ ds. sum (desk_rooms ds)) none in
    let in_use = ap rows_in_use none in
    omega (arith, rooms, in_use, rest)

-- desks and a page of so many rows have no more in use
pub resident-most : (workers rows spare : ℕ) (desks : List Desk) (page : PageBytes)
    → spare + rows_in_use desks ≡ sum (desk_rooms desks) → HaveRooms workers rows desks page
    → resident_rows desks page ≤ (workers + 1) * rows
resident-most workers rows spare desks page is have =
    let all : sum (desk_rooms desks) ≡ workers * rows = ap sum have.desks_have ∙ sum-replicate workers rows in
    let one = suc-mul workers rows in omega (arith, is, all, have.page_has, one)

-- each of so many desks has this room
pub rooms-each : (count rows : ℕ) (desks : List Desk) → desk_rooms desks ≡ replicate count rows
    → AllByRecursion (λ (d : Desk). d.records.capacity ≡ rows) desks
rooms-each count rows [] same = tt
rooms-each zero rows (d ∷ desks) same = absurd (cc same)
rooms-each (suc count) rows (d ∷ desks) same =
    let first : d.records.capacity ≡ rows = cc in
    let others : desk_rooms desks ≡ replicate count rows = cc in (first, rooms-each count rows desks others)

pub rooms-count : (count rows : ℕ) (desks : List Desk) → desk_rooms desks ≡ replicate count rows → length desks ≡ count
rooms-count zero rows [] same = refl
rooms-count (suc count) rows [] same = absurd (cc same)
rooms-count zero rows (d ∷ desks) same = absurd (cc same)
rooms-count (suc count) rows (d ∷ desks) same =
    let others : desk_rooms desks ≡ replicate count rows = cc in ap suc (rooms-count count rows desks others)

pub rooms-all : (count rows : ℕ) (desks : List Desk) → length desks ≡ count
    → AllByRecursion (λ (d : Desk). d.records.capacity ≡ rows) desks → desk_rooms desks ≡ replicate count rows
rooms-all zero rows [] many each = refl
rooms-all (suc count) rows [] many each = absurd (omega (arith, many))
rooms-all zero rows (d ∷ desks) many each = absurd (omega (arith, many))
rooms-all (suc count) rows (d ∷ desks) many each =
    ap (λ n. n ∷ desk_rooms desks) each.0
    ∙ ap (λ rooms. rows ∷ rooms) (rooms-all count rows desks (omega (arith, many)) each.1)

-- So many desks and a page have rooms, and as many desks and a page of the same room have them.
pub rooms-kept : (workers rows : ℕ) (desks desks_now : List Desk) (page page_now : PageBytes)
    → HaveRooms workers rows desks page → length desks_now ≡ length desks → page_now.room ≡ page.room
    → AllByRecursion (λ (d : Desk). d.records.capacity ≡ page.room) desks_now
    → HaveRooms workers rows desks_now page_now
rooms-kept workers rows desks desks_now page page_now have many same each = record {
  desks_have = rooms-all workers page.room desks_now (many ∙ rooms-count workers rows desks have.desks_have) each
      ∙ ap (λ n. replicate workers n) have.page_has;
  page_has = same ∙ have.page_has;
}

-- what each desk has is what the page has
pub rooms-paged : (workers rows : ℕ) (desks : List Desk) (page : PageBytes) → HaveRooms workers rows desks page
    → AllByRecursion (λ (d : Desk). d.records.capacity ≡ page.room) desks
rooms-paged workers rows desks page have =
    rooms-each workers page.room desks (have.desks_have ∙ ap (λ n. replicate workers n) (sym have.page_has))
