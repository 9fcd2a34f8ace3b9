-- Rings that are joined one after another, each laid with its home.
use Rattle.std.proofs.Common.{◌≡◌, ℕ, ◌+◌, ◌^◌, ◌*◌, ◌<◌, ◌≤◌, List, [], ◌∷◌, ◌++◌, length, take, drop, Option, Some, None}
use Rattle.std.proofs.Common.{Ok, Err, refl, sym, ap, ◌∙◌, subst, arith, append_assoc}
use Rattle.std.specs.Prelude.{sum_by, IfSome, if◌then◌else◌, is_some, Bool, true, false}
use Rattle.std.specs.List.{AllByRecursion}
use Rattle.std.proofs.lemmas.List.{length-append, drop_at, take-append-le, map-append, flat_map_more}
use Rattle.std.proofs.lemmas.List.Sums.{sum_by-cons, sum_by_push}
use Rattle.std.proofs.lemmas.Option.{same_Some}
use Rattle.mf_base.specs.Buffer.{Buffer}
use Rattle.mf_base.specs.declared.kind.Role.{Role}
use Rattle.feature_model.specs.declared.fault.RingFault.{RingFault}
use Rattle.feature_model.specs.Rings.{Piece, grow, rings, with_rings}
use Rattle.feature_model.specs.Blocks.{home as home_among}
use Rattle.feature_model.proofs.RingSteps.{ring-starts, ring-done, rings-ended, rings-open}
use Rattle.mf_rows.specs.Units.{Unit16}
use Rattle.mf_rows.specs.Desks.{Desktop}
use Rattle.ring_assembly.specs.Marked.{points_in}
use Rattle.ring_assembly.specs.Taken.{free_of, units_of_pieces, units_left, IsBench, units_taken, taken_piece}
use Rattle.ring_assembly.specs.Taken.{IsTaken, first_of}
use Rattle.ring_assembly.specs.Rows.{rows_in, row_total, IsInRows, LaysRows}
use Rattle.ring_assembly.specs.Laid.{LaidRing, foot_row, ring_rows, all_rows}
use Rattle.ring_assembly.specs.Laid.{points_of, HasHome, AreRowsOf, kept_rows, IsLaid}
use Rattle.ring_assembly.specs.Joining.{RingJoined, SameRoom, JoinsRing}
use Rattle.ring_assembly.specs.JoiningParts.{RingEnded, EndsRing, RingsJoined, JoinsParts}
use Rattle.ring_assembly.specs.declared.laid.Laid.{Laid}
use Rattle.ring_assembly.specs.declared.parts.Taken.{Taken}
use Rattle.ring_assembly.proofs.RowBytes.{lays-more, lays-none, lays-long}
use Rattle.ring_assembly.proofs.RingGrowth.{keeps-none, keeps-more, left-taken, units-cons, points-long, taken-long}

-- ---- lists of rings

all-more : {A : Type 0} (P : A → Type 0) (xs : List A) (x : A) → AllByRecursion P xs → P x
    → AllByRecursion P (xs ++ x ∷ [])
all-more P [] x all here = (here, tt)
all-more P (y ∷ xs) x all here = (all.0, all-more P xs x all.1 here)

rows-more : (found : List LaidRing) (r : LaidRing) → all_rows (found ++ r ∷ []) ≡ all_rows found ++ ring_rows r
rows-more found r = sym (flat_map_more ring_rows [] found r)

points-more : (found : List LaidRing) (r : LaidRing)
    → points_of (found ++ r ∷ []) ≡ points_of found ++ points_in r.units ∷ []
points-more found r = map-append (λ (q : LaidRing). points_in q.units) found (r ∷ [])

-- each ring has a row of its own
few-rings : (found : List LaidRing) → length found ≤ length (all_rows found)
few-rings [] = omega arith
few-rings (r ∷ found) = omega (
  arith,
  few-rings found,
  length-append (ring_rows r) (all_rows found),
  length-append r.units (foot_row r.home (length r.units) ∷ []),
)

kept-few : (r : LaidRing) → kept_rows r ≤ length r.units + 1
kept-few r = by_home (is_some r.home)
  where
    by_home : (b : Bool) → (if b then length r.units + 1 else 0) ≤ length r.units + 1
    by_home true = omega arith
    by_home false = omega arith

pub few-kept : (found : List LaidRing) → sum_by kept_rows found ≤ length (all_rows found)
few-kept [] = omega arith
few-kept (r ∷ found) = omega (
  arith,
  sum_by-cons kept_rows r found,
  kept-few r,
  few-kept found,
  length-append (ring_rows r) (all_rows found),
  length-append r.units (foot_row r.home (length r.units) ∷ []),
)

-- rings that are laid stay so where others follow
pub laid-still : (told : Laid) (a b : Buffer) (rows : List Unit16) (os : List LaidRing) → LaysRows a b rows
    → IsLaid told a.bytes os → IsLaid told b.bytes os
laid-still told a b rows os lays laid =
    let long = lays-long a b rows lays in
    let front : take told.rows (rows_in b.bytes) ≡ take told.rows (rows_in a.bytes) =
    ap (take told.rows) lays.rows ∙ take-append-le told.rows (rows_in a.bytes) rows laid.within in
    record {
      within = omega (arith, laid.within, long);
      rows_are = record { rows_are = front ∙ laid.rows_are.rows_are; homes = laid.rows_are.homes };
      count = laid.count;
    }

rings-no_piece : rings [] ≡ Ok []
unfolding rings
rings-no_piece = refl

-- the last ring is ended
pub ring-ended : (outer laid : Laid) (old new : Buffer) (rows first ring : List Unit16) (home : Option ℕ) (kept : ℕ)
    → rows ≡ rows_in old.bytes → first ≡ take outer.rows rows → ring ≡ drop laid.rows rows
    → IfSome home (λ n. n < 2 ^ 32)
    → ((os : List LaidRing) → AreRowsOf os first → outer.rings ≡ length os
    → home ≡ home_among (points_of os) (points_in ring))
    → LaysRows old new (foot_row home (length ring) ∷ []) → kept ≡ (if is_some home then length ring + 1 else 0)
    → EndsRing outer laid (record {
      rings = laid.rings + 1;
      rows = laid.rows + length ring + 1;
      housed = laid.housed + kept;
    }) old new
ring-ended outer laid old new rows first ring home kept all front behind fits told lays kept_is =
    let is : ring ≡ drop laid.rows (rows_in old.bytes) = behind ∙ ap (drop laid.rows) all in
    let before : first ≡ take outer.rows (rows_in old.bytes) = front ∙ ap (take outer.rows) all in (
      home,
      record {
        lays = subst (λ us. LaysRows old new (foot_row home (length us) ∷ [])) is lays;
        fits = fits;
        home_is = λ os known. told os (subst (λ us. AreRowsOf os us) (sym before) known.rows_are) known.count
            ∙ ap (λ us. home_among (points_of os) (points_in us)) is;
        rings = refl;
        rows = ap (λ us. laid.rows + length us + 1) is;
        kept = ap (λ (n : ℕ). laid.housed + n) (kept_is
            ∙ ap (λ (us : List Unit16). if is_some home then length us + 1 else 0) is);
      },
    )

module _ (front : ℕ) (role : Role) (outer : Laid) (old : Desktop) (old_out : Buffer) where
  -- before the first
  pub rings-none : (laid : Laid) → IsBench front old → IsInRows old_out.bytes → laid.rings ≡ 0 → laid.housed ≡ 0
      → laid.rows ≡ row_total old_out.bytes → RingsJoined front role outer [] laid old old_out old old_out
  rings-none laid bench whole none nothing rows = record {
    keeps = keeps-none front role old bench;
    lays = lays-none old_out whole;
    room = omega arith;
    joined = refl;
    homes = tt;
    housed = λ os is. tt;
    count = none;
    rows = rows;
    kept = nothing;
  }

  module _ (found : List LaidRing) (laid : Laid) (now : Desktop) (out : Buffer)
      (joined : RingsJoined front role outer found laid old old_out now out) where
    abbrev free_now : List Piece
    free_now = free_of front role now

    same-capacity : SameRoom old old_out now out
    same-capacity = record { records = joined.keeps.capacity; out = joined.lays.capacity }

    pub count-few : laid.rings ≤ laid.rows
    count-few = omega (
      arith,
      joined.count,
      joined.rows,
      few-rings found,
      lays-long old_out out (all_rows found) joined.lays,
    )

    pub housed-few : laid.housed ≤ laid.rows
    housed-few = omega (
      arith,
      joined.kept,
      joined.rows,
      few-kept found,
      lays-long old_out out (all_rows found) joined.lays,
    )

    -- none is left
    pub rings-done : free_now ≡ [] → rings (free_of front role old) ≡ Ok (points_of found)
    rings-done none = joined.joined ∙ ap (λ ps. with_rings (points_of found) (rings ps)) none
        ∙ ap (with_rings (points_of found)) rings-no_piece ∙ rings-ended (points_of found)

    -- all are joined
    pub parts-done : (last : Desktop) → last ≡ now → first_of None free_now ≡ None
        → JoinsParts front role outer (Ok laid) old old_out last out
    parts-done last same none = (
      found,
      subst (λ (d : Desktop). RingsJoined front role outer found laid old old_out d out) (sym same) joined,
      ap (free_of front role) same ∙ no-piece free_now none,
    )
      where
        no-piece : (ps : List Piece) → first_of None ps ≡ None → ps ≡ []
        no-piece [] e = refl
        no-piece (p ∷ ps) e = cc

    -- the first part that is left starts a ring
    module _ (part : Taken) (begun : Desktop) (taken : IsTaken None front role part now begun) where
      abbrev piece : Piece
      piece = taken_piece part begun

      first-is : free_now ≡ piece ∷ free_of front role begun
      first-is = by_list free_now taken.first
        where
          by_list : (ps : List Piece) → first_of None ps ≡ Some (piece, free_of front role begun)
              → ps ≡ piece ∷ free_of front role begun
          by_list [] e = cc
          by_list (p ∷ ps) e =
              let same = same_Some (p, ps) (piece, free_of front role begun) e in
              ap (λ (x : Piece × List Piece). x.0 ∷ x.1) same

      units-are : units_of_pieces free_now ≡ 1 + length piece.points + units_of_pieces (free_of front role begun)
      units-are = ap units_of_pieces first-is ∙ units-cons piece (free_of front role begun)

      pub left-begun : units_left front now ≡ 1 + length piece.points + units_left front begun
      left-begun = left-taken front role now begun piece taken.keeps units-are

      all-is : rings (free_of front role old) ≡ with_rings (points_of found) (grow piece (free_of front role begun))
      all-is = joined.joined
          ∙ ap (λ ps. with_rings (points_of found) (rings ps)) first-is
          ∙ ap (with_rings (points_of found)) (ring-starts piece (free_of front role begun))

      piece-long : length piece.points ≡ part.points
      piece-long = points-long (units_taken part begun) ∙ taken-long part begun taken.within

      -- there is room for it and for the others
      pub ring-room : 16 * (row_total old_out.bytes + units_left front old) ≤ old_out.capacity
          → 16 * (row_total out.bytes + (part.points + units_left front begun)) ≤ out.capacity
      ring-room room = omega (arith, room, joined.room, left-begun, piece-long, joined.lays.capacity)

      rings-broken : (n : ℕ) → grow piece (free_of front role begun) ≡ Err n
          → rings (free_of front role old) ≡ Err n
      rings-broken n open_ring =
          all-is ∙ ap (with_rings (points_of found)) open_ring ∙ rings-open (points_of found) n

      -- it is open
      pub parts-open : (why : RingFault) (new : Desktop) (new_out : Buffer)
          → JoinsRing front role piece (Err why) begun out new new_out
          → JoinsParts front role outer (Err why) old old_out new new_out
      parts-open why new new_out (is, broken, same) = (
        part.number,
        is,
        rings-broken part.number broken,
        record {
          records = same.records ∙ taken.keeps.capacity ∙ joined.keeps.capacity;
          out = same.out ∙ joined.lays.capacity;
        },
      )

      -- it is joined, and ended
      module _ (ring : List Unit16) (closed : Desktop) (ring_out : Buffer)
          (one : RingJoined front role piece ring begun out closed ring_out) where
        pub rows-behind : drop laid.rows (rows_in ring_out.bytes) ≡ ring
        rows-behind = ap (drop laid.rows) one.lays.rows
            ∙ drop_at (rows_in out.bytes) ring laid.rows (sym joined.rows)

        ring-long : row_total ring_out.bytes ≡ row_total out.bytes + length ring
        ring-long = lays-long out ring_out ring one.lays

        -- there is room for its last row
        pub foot-room : 16 * (row_total old_out.bytes + units_left front old) ≤ old_out.capacity
            → 16 * (row_total ring_out.bytes + 1) ≤ ring_out.capacity
        foot-room room = omega (
          arith,
          room,
          joined.room,
          one.room,
          left-begun,
          ring-long,
          joined.lays.capacity,
          one.lays.capacity,
        )

        -- fewer units are left
        pub fewer-left : units_left front closed < units_left front now
        fewer-left = omega (arith, one.room, left-begun)

        pub within : laid.rows ≤ row_total ring_out.bytes
        within = omega (arith, joined.rows, ring-long)

        before-ring : LaysRows old_out ring_out (all_rows found ++ ring)
        before-ring = lays-more old_out out ring_out (all_rows found) ring joined.lays one.lays

        pub still-laid : (os : List LaidRing) → IsLaid outer old_out.bytes os → IsLaid outer ring_out.bytes os
        still-laid os is = laid-still outer old_out ring_out (all_rows found ++ ring) os before-ring is

        module _ (home : Option ℕ) (told : Laid) (later_out : Buffer)
            (ended : RingEnded outer laid ring home told ring_out later_out) where
          abbrev r : LaidRing
          r = record { home = home; units = ring }

          abbrev foot : List Unit16
          foot = foot_row home (length ring) ∷ []

          later-long : row_total later_out.bytes ≡ row_total ring_out.bytes + length foot
          later-long = lays-long ring_out later_out foot ended.lays

          rows-are : (all_rows found ++ ring) ++ foot ≡ all_rows (found ++ r ∷ [])
          rows-are = append_assoc (all_rows found) ring foot ∙ sym (rows-more found r)

          pub rings-more : RingsJoined front role outer (found ++ r ∷ []) told old old_out closed later_out
          rings-more = record {
            keeps = keeps-more front role old begun closed
                (keeps-more front role old now begun joined.keeps taken.keeps) one.keeps;
            lays = subst (LaysRows old_out later_out) rows-are
                (lays-more old_out ring_out later_out (all_rows found ++ ring) foot before-ring ended.lays);
            room = omega (arith, joined.room, one.room, left-begun, ring-long, later-long);
            joined = all-is ∙ ap (with_rings (points_of found)) one.joined
                ∙ sym (ring-done (points_of found) (points_in ring) (rings (free_of front role closed)))
                ∙ ap (λ rs. with_rings rs (rings (free_of front role closed))) (sym (points-more found r));
            homes = all-more HasHome found r joined.homes ended.fits;
            housed = λ os is. all-more (λ (q : LaidRing). q.home ≡ home_among (points_of os) (points_in q.units)) found r (joined.housed os is)
                (ended.home_is os (still-laid os is));
            count = omega (arith, ended.rings, joined.count, length-append found (r ∷ []));
            rows = omega (arith, ended.rows, joined.rows, ring-long, later-long);
            kept = ended.kept ∙ ap (λ (n : ℕ). n + kept_rows r) joined.kept ∙ sym (sum_by_push kept_rows found r);
          }
