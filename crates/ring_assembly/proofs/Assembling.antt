-- The rings of both roles, their blocks, and the relation that they are put back into.
use Rattle.std.proofs.Common.{◌≡◌, ℕ, zero, suc, ◌+◌, ◌*◌, ◌<◌, ◌≤◌, List, [], ◌∷◌}
use Rattle.std.proofs.Common.{◌++◌, length, take, drop, Ok, Err, refl, sym, ap, ◌∙◌, arith}
use Rattle.std.proofs.Common.{subst, append-nil}
use Rattle.std.proofs.lemmas.List.{length-append, length-take-le, length-drop, take_at, drop_at, length-map}
use Rattle.mf_base.specs.Buffer.{Buffer}
use Rattle.mf_base.specs.declared.kind.Role.{Role}
use Rattle.feature_model.specs.declared.fault.RingFault.{RingFault}
use Rattle.feature_model.specs.Points.{Point}
use Rattle.feature_model.specs.Rings.{Piece, Joined, rings}
use Rattle.feature_model.specs.Blocks.{blocks_of, blocks_joined}
use Rattle.feature_model.proofs.RingLaws.{rings-joins}
use Rattle.feature_model.proofs.RingBounds.{HasRing, joins-some}
use Rattle.mf_rows.specs.Desks.{Desktop}
use Rattle.ring_assembly.specs.Marked.{State, free, used, Marked, all_units, points_in, is_free, with_piece}
use Rattle.ring_assembly.specs.Marked.{free_pieces}
use Rattle.ring_assembly.specs.Taken.{free_of, units_of_pieces, units_left, IsBench}
use Rattle.ring_assembly.specs.Rows.{rows_in, row_total}
use Rattle.ring_assembly.specs.Laid.{LaidRing, all_rows, points_of}
use Rattle.ring_assembly.specs.Laid.{IsLaid}
use Rattle.ring_assembly.specs.JoiningParts.{RingsJoined, JoinsParts}
use Rattle.ring_assembly.specs.PutBack.{block_rings, AreLaid}
use Rattle.ring_assembly.specs.Assembled.{blocks_of_pieces, blocks_left, HasBlocks, JoinsAll}
use Rattle.ring_assembly.specs.declared.laid.Laid.{Laid}
use Rattle.ring_assembly.proofs.Takings.{free_in-is, behind-few}
use Rattle.ring_assembly.proofs.RowBytes.{none-in-rows}
use Rattle.ring_assembly.proofs.RingGrowth.{units-cons, points-long}
use Rattle.ring_assembly.proofs.RingsFound.{rings-done, few-kept}
use Rattle.ring_assembly.proofs.BlockParts.{blocks-free, blocks-shown, blocks-long}

-- ---- free parts have no more units than there are

abbrev free_units : Role → ℕ → List Marked → ℕ
free_units role n parts = units_of_pieces (free_pieces role n parts)

left-parts : (n : ℕ) (parts : List Marked)
    → free_units Role.Outer n parts + free_units Role.Inner n parts ≤ length (all_units parts)
unfolding free_pieces
left-parts n [] = omega arith
left-parts n (m ∷ parts) = by_state m.state (left-parts (n + 1) parts)
  where
    piece : Piece
    piece = record { number = n; points = points_in m.units }

    long : length (all_units (m ∷ parts)) ≡ 1 + length m.units + length (all_units parts)
    long = omega (arith, length-append m.units (all_units parts))

    one : (role : Role) → units_of_pieces (piece ∷ free_pieces role (n + 1) parts)
        ≡ 1 + length m.units + free_units role (n + 1) parts
    one role = units-cons piece (free_pieces role (n + 1) parts)
        ∙ ap (λ (k : ℕ). 1 + k + free_units role (n + 1) parts) (points-long m.units)

    by_state : (s : State)
        → free_units Role.Outer (n + 1) parts + free_units Role.Inner (n + 1) parts ≤ length (all_units parts)
        → units_of_pieces (with_piece (is_free Role.Outer s) piece (free_pieces Role.Outer (n + 1) parts))
        + units_of_pieces (with_piece (is_free Role.Inner s) piece (free_pieces Role.Inner (n + 1) parts))
        ≤ length (all_units (m ∷ parts))
    by_state (free Role.Outer) more = omega (arith, one Role.Outer, long, more)
    by_state (free Role.Inner) more = omega (arith, one Role.Inner, long, more)
    by_state used more = omega (arith, long, more)

pub left-within : (front : ℕ) (d : Desktop) → IsBench front d → units_left front d ≤ length (drop front d.loose)
left-within front d bench =
    let parts : List Marked = bench.parts.0 in
    let few = behind-few front d bench.few in
    let outer = free_in-is Role.Outer (drop front d.loose) parts bench.parts.1 few in
    let inner = free_in-is Role.Inner (drop front d.loose) parts bench.parts.1 few in
    omega (arith, ap units_of_pieces outer, ap units_of_pieces inner, left-parts 0 parts, ap length bench.parts.1)

-- ---- rings of outer parts, and then of inner ones

some-rings : (pieces : List Piece) (found : List (List Point)) → rings pieces ≡ Ok found → 0 < length found
    → (p : Piece) × (more : List Piece) × (pieces ≡ p ∷ more)
unfolding rings
some-rings [] found is some = absurd (no-ring found is some)
  where
    no-ring : (found : List (List Point)) → ◌≡◌ {A = Joined} (Ok []) (Ok found) → 0 < length found → ⊥
    no-ring [] e s = absurd (omega (arith, s))
    no-ring (r ∷ rs) e s = cc
some-rings (p ∷ more) found is some = (p, more, refl)

no-rings : (pieces : List Piece) (found : List (List Point)) → rings pieces ≡ Ok found → length found ≡ 0 → pieces ≡ []
no-rings [] found is none = refl
no-rings (p ∷ more) found is none =
    absurd (by_found found (subst HasRing is (joins-some (rings-joins (p ∷ more)))) none)
  where
    by_found : (found : List (List Point)) → HasRing (Ok found) → length found ≡ 0 → ⊥
    by_found [] has e = has
    by_found (r ∷ rs) has e = absurd (omega (arith, e))

blocks-open : (outer inner : List Piece) (n : ℕ) → rings outer ≡ Err n
    → blocks_of_pieces outer inner ≡ Err (RingFault.OpenRing n)
unfolding rings
blocks-open [] inner n is = cc
blocks-open (p ∷ outer) inner n is = ap (λ j. blocks_joined j (rings inner)) is

blocks-inner : (p : Piece) (outer inner : List Piece) (found : List (List Point)) (j : Joined)
    → rings (p ∷ outer) ≡ Ok found → rings inner ≡ j
    → blocks_of_pieces (p ∷ outer) inner ≡ blocks_joined (Ok found) j
blocks-inner p outer inner found j os is =
    ap (λ o. blocks_joined o (rings inner)) os ∙ ap (blocks_joined (Ok found)) is

-- no outer ring is open, or one is
outer-open : (front n : ℕ) (d : Desktop) → rings (free_of front Role.Outer d) ≡ Err n
    → blocks_left front d ≡ Err (RingFault.OpenRing n)
outer-open front n d is = blocks-open (free_of front Role.Outer d) (free_of front Role.Inner d) n is

pub outer-broken : (front : ℕ) (none : Laid) (why : RingFault) (old new : Desktop) (old_out new_out : Buffer)
    → JoinsParts front Role.Outer none (Err why) old old_out new new_out → JoinsAll front (Err why) old new
outer-broken front none why old new old_out new_out (n, is, broken, same) =
    (outer-open front n old broken ∙ ap Err (sym is), same.records)

module _ (front : ℕ) (old mid : Desktop) (old_out mid_out : Buffer) (none outer : Laid) (os : List LaidRing)
    (empty : old_out.bytes ≡ [])
    (first : RingsJoined front Role.Outer none os outer old old_out mid mid_out)
    (no_outer : free_of front Role.Outer mid ≡ []) where
  outer-joined : rings (free_of front Role.Outer old) ≡ Ok (points_of os)
  outer-joined = rings-done front Role.Outer none old old_out os outer mid mid_out first no_outer

  points-count : length (points_of os) ≡ length os
  points-count = length-map os (λ (r : LaidRing). points_in r.units)

  -- there is no outer part
  outer-none : outer.rings ≡ 0 → blocks_left front old ≡ Err RingFault.NoOuter
  outer-none zero_rings =
      ap (λ ps. blocks_of_pieces ps (free_of front Role.Inner old))
      (no-rings (free_of front Role.Outer old) (points_of os) outer-joined
      (omega (arith, zero_rings, first.count, points-count)))

  outer-some : (outer.rings ≡ 0 → ⊥)
      → (p : Piece) × (more : List Piece) × (free_of front Role.Outer old ≡ p ∷ more)
  outer-some some = some-rings (free_of front Role.Outer old) (points_of os) outer-joined
      (omega (arith, positive outer.rings some, first.count, points-count))
    where
      positive : (n : ℕ) → (n ≡ 0 → ⊥) → 0 < n
      positive zero some = absurd (some refl)
      positive (suc n) some = omega arith

  blocks-are : (outer.rings ≡ 0 → ⊥) → (j : Joined) → rings (free_of front Role.Inner mid) ≡ j
      → blocks_left front old ≡ blocks_joined (Ok (points_of os)) j
  blocks-are some j is =
      let found = outer-some some in
      let inner : rings (free_of front Role.Inner old) ≡ j = ap rings (sym first.keeps.others) ∙ is in
      ap (λ ps. blocks_of_pieces ps (free_of front Role.Inner old)) found.2
      ∙ blocks-inner found.0 found.1 (free_of front Role.Inner old) (points_of os) j
      (ap rings (sym found.2) ∙ outer-joined) inner

  -- an inner ring is open
  inner-open : (n : ℕ) → (outer.rings ≡ 0 → ⊥) → rings (free_of front Role.Inner mid) ≡ Err n
      → blocks_left front old ≡ Err (RingFault.OpenRing n)
  inner-open n some is = blocks-are some (Err n) is

  pub inner-broken : (why : RingFault) (new : Desktop) (new_out : Buffer) → (outer.rings ≡ 0 → ⊥)
      → JoinsParts front Role.Inner outer (Err why) mid mid_out new new_out → JoinsAll front (Err why) old new
  inner-broken why new new_out some (n, is, broken, same) =
      (inner-open n some broken ∙ ap Err (sym is), same.records ∙ first.keeps.capacity)

  pub none-joined : outer.rings ≡ 0 → JoinsAll front (Err RingFault.NoOuter) old mid
  none-joined zero_rings = (outer-none zero_rings, first.keeps.capacity)

  no-rows : rows_in old_out.bytes ≡ []
  no-rows = (none-in-rows old_out.bytes empty).0

  -- there is room for the inner rings
  pub mid-room : 16 * units_left front old ≤ old_out.capacity
      → 16 * (row_total mid_out.bytes + units_left front mid) ≤ mid_out.capacity
  mid-room room = omega (arith, room, first.room, ap length no-rows, first.lays.capacity)

  outer-rows : rows_in mid_out.bytes ≡ all_rows os
  outer-rows = first.lays.rows ∙ ap (λ rows. rows ++ all_rows os) no-rows

  outer-total : outer.rows ≡ length (all_rows os)
  outer-total = first.rows ∙ ap length outer-rows

  -- the outer rings are laid
  pub outer-laid : IsLaid outer mid_out.bytes os
  outer-laid = record {
    within = omega (arith, first.rows);
    rows_are = record {
      rows_are = ap (take outer.rows) (outer-rows ∙ sym (append-nil (all_rows os)))
          ∙ take_at (all_rows os) [] outer.rows (sym outer-total);
      homes = first.homes;
    };
    count = first.count;
  }

  module _ (new : Desktop) (new_out : Buffer) (inner : Laid) (is : List LaidRing)
      (second : RingsJoined front Role.Inner outer is inner mid mid_out new new_out)
      (no_inner : free_of front Role.Inner new ≡ []) (bench : IsBench front old) where
    inner-joined : rings (free_of front Role.Inner mid) ≡ Ok (points_of is)
    inner-joined = rings-done front Role.Inner outer mid mid_out is inner new new_out second no_inner

    both-rows : rows_in new_out.bytes ≡ all_rows os ++ all_rows is
    both-rows = second.lays.rows ∙ ap (λ rows. rows ++ all_rows is) outer-rows

    both-long : row_total new_out.bytes ≡ length (all_rows os) + length (all_rows is)
    both-long = ap length both-rows ∙ length-append (all_rows os) (all_rows is)

    same-long : length new.loose ≡ length old.loose
    same-long = second.keeps.long ∙ first.keeps.long

    pub all-laid : AreLaid front os is outer inner new new_out
    all-laid = record {
      within = omega (arith, outer-total, both-long);
      outer_rows = record {
        rows_are = ap (take outer.rows) both-rows ∙ take_at (all_rows os) (all_rows is) outer.rows (sym outer-total);
        homes = first.homes;
      };
      inner_rows = record {
        rows_are = ap (drop outer.rows) both-rows ∙ drop_at (all_rows os) (all_rows is) outer.rows (sym outer-total);
        homes = second.homes;
      };
      count = first.count;
      total = omega (arith, outer-total, second.kept, blocks-long os is (second.housed os outer-laid));
      room = omega (
        arith,
        first.room,
        second.room,
        both-long,
        outer-total,
        second.kept,
        few-kept is,
        left-within front old bench,
        same-long,
        length-drop front old.loose,
        ap length no-rows,
        bench.within,
      );
      few = omega (arith, same-long, bench.few);
    }

    blocks-found : (outer.rings ≡ 0 → ⊥)
        → blocks_left front old ≡ Ok (blocks_of (points_of os) (points_of is))
    blocks-found some = blocks-are some (Ok (points_of is)) inner-joined

    blocks-put : (last : Desktop)
        → last ≡ record new { loose = take front new.loose ++ all_units (block_rings 0 os is) }
        → HasBlocks front (blocks_of (points_of os) (points_of is)) old last
    blocks-put last put = record {
      parts = block_rings 0 os is;
      free = blocks-free 0 os is;
      shown = blocks-shown os is (second.housed os outer-laid);
      loose = ap (λ (d : Desktop). d.loose) put
          ∙ ap (λ us. us ++ all_units (block_rings 0 os is)) (second.keeps.head ∙ first.keeps.head);
      few = omega (
        arith,
        ap (λ (d : Desktop). length d.loose) put,
        length-append (take front new.loose) (all_units (block_rings 0 os is)),
        length-take-le front new.loose (omega (arith, same-long, bench.within)),
        all-laid.total,
        all-laid.room,
        same-long,
      );
      records = ap (λ (d : Desktop). d.records) put ∙ second.keeps.records ∙ first.keeps.records;
      capacity = ap (λ (d : Desktop). d.capacity) put ∙ second.keeps.capacity ∙ first.keeps.capacity;
    }

    pub all-joined : (outer.rings ≡ 0 → ⊥) → (last : Desktop)
        → last ≡ record new { loose = take front new.loose ++ all_units (block_rings 0 os is) }
        → JoinsAll front (Ok tt) old last
    all-joined some last put = (blocks_of (points_of os) (points_of is), blocks-found some, blocks-put last put)
