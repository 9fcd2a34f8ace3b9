-- A ring that grows: from its first part, by the parts that are taken for it, until it is closed or open.
use Rattle.std.proofs.Common.{◌≡◌, ◌⊎◌, inl, inr, ℕ, suc, ◌+◌, ◌*◌, ◌<◌, ◌≤◌, Bool, true, false, List, [], ◌∷◌, ◌++◌}
use Rattle.std.proofs.Common.{length, drop, reverse, Some, None, Err, refl, sym, ap, ◌∙◌, subst, arith}
use Rattle.std.specs.Prelude.{◌==◌, if◌then◌else◌}
use Rattle.std.specs.List.{list_any}
use Rattle.std.proofs.lemmas.Bool.{ne_eqb, eq-eqb}
use Rattle.std.proofs.lemmas.List.{length-append, length-map, length-drop, length-reverse, length-take-le}
use Rattle.std.proofs.lemmas.List.Sums.{sum_by-cons, sum_by-append}
use Rattle.std.proofs.lemmas.Option.{same_Some}
use Rattle.mf_base.specs.Buffer.{Buffer}
use Rattle.mf_base.specs.declared.kind.Role.{Role}
use Rattle.feature_model.specs.Points.{Point}
use Rattle.feature_model.specs.Rings.{Piece, Begun, TakesFirst, take_first, fits, added, ends_meet, first_node}
use Rattle.feature_model.specs.Rings.{last_node, grow}
use Rattle.feature_model.proofs.RingLaws.{takes_or_none, take_first-is, take_first-none, takes-length}
use Rattle.feature_model.proofs.RingSteps.{ring-closed, ring-adds, ring-open}
use Rattle.mf_rows.specs.Units.{Unit16, point_in}
use Rattle.mf_rows.specs.Desks.{Desktop}
use Rattle.ring_assembly.specs.Marked.{points_in}
use Rattle.ring_assembly.specs.Taken.{free_of, units_of_pieces, units_left, IsBench, units_taken, taken_piece, other, Keeps}
use Rattle.ring_assembly.specs.Taken.{first_of, IsTaken}
use Rattle.ring_assembly.specs.Rows.{row_total, LaysRows}
use Rattle.ring_assembly.specs.Added.{added_units, other_end}
use Rattle.ring_assembly.specs.Joining.{Growing, RingJoined, SameRoom}
use Rattle.ring_assembly.specs.declared.parts.Taken.{Taken}
use Rattle.ring_assembly.proofs.RowBytes.{lays-more, lays-long}
use Rattle.ring_assembly.proofs.Growth.{points-append, added-is, first-kept, last-added}

-- ---- the first of pieces that fits is one fewer

pub units-cons : (p : Piece) (pieces : List Piece)
    → units_of_pieces (p ∷ pieces) ≡ 1 + length p.points + units_of_pieces pieces
units-cons p pieces = sum_by-cons (λ (q : Piece). 1 + length q.points) p pieces

units-middle : (before after : List Piece) (p : Piece)
    → units_of_pieces (before ++ p ∷ after) ≡ 1 + length p.points + units_of_pieces (before ++ after)
units-middle before after p =
    omega (
      arith,
      sum_by-append (λ (q : Piece). 1 + length q.points) before (p ∷ after),
      sum_by-append (λ (q : Piece). 1 + length q.points) before after,
      units-cons p after,
    )

-- what is known of a piece that is taken
pub record Taking (end : ℕ) (all rest : List Piece) (p : Piece) : Type 0 where
  pub fewer : length all ≡ suc (length rest)
  pub units : units_of_pieces all ≡ 1 + length p.points + units_of_pieces rest
  pub fit : fits end p ≡ true

pub taking : (end : ℕ) (all rest : List Piece) (p : Piece) → take_first end all ≡ Some (p, rest)
    → Taking end all rest p
taking end all rest p found = by_case (takes_or_none end all)
  where
    by_case : ((q : Piece) × (r : List Piece) × TakesFirst end all q r) ⊎ (list_any (fits end) all ≡ false)
        → Taking end all rest p
    by_case (inl (q, r, takes)) =
        let same = same_Some (q, r) (p, rest) (sym (take_first-is end all q r takes) ∙ found) in
        let piece : q ≡ p = ap (λ (x : Piece × List Piece). x.0) same in
        let others : r ≡ rest = ap (λ (x : Piece × List Piece). x.1) same in
        let fewer : length all ≡ suc (length r) = takes-length end all q r takes in
        let units : units_of_pieces all ≡ 1 + length q.points + units_of_pieces r =
        ap units_of_pieces takes.2 ∙ units-middle takes.0 takes.1 q
        ∙ ap (λ ps. 1 + length q.points + units_of_pieces ps) (sym takes.3) in
        record {
          fewer = fewer ∙ ap (λ (ps : List Piece). suc (length ps)) others;
          units = units ∙ ap (λ (x : Piece). 1 + length x.points + units_of_pieces r) piece
              ∙ ap (λ ps. 1 + length p.points + units_of_pieces ps) others;
          fit = subst (λ (x : Piece). fits end x ≡ true) piece takes.4;
        }
    by_case (inr none) = absurd (cc (found, take_first-none end all none))

-- ---- the desk

pub keeps-none : (front : ℕ) (role : Role) (d : Desktop) → IsBench front d → Keeps front role d d
keeps-none front role d bench = record {
  bench = bench;
  others = refl;
  head = refl;
  long = refl;
  records = refl;
  capacity = refl;
}

pub keeps-more : (front : ℕ) (role : Role) (a b c : Desktop) → Keeps front role a b → Keeps front role b c
    → Keeps front role a c
keeps-more front role a b c first second = record {
  bench = second.bench;
  others = second.others ∙ first.others;
  head = second.head ∙ first.head;
  long = second.long ∙ first.long;
  records = second.records ∙ first.records;
  capacity = second.capacity ∙ first.capacity;
}

-- the units of a role and those of the other are all that are left
left-is : (front : ℕ) (role : Role) (d : Desktop)
    → units_left front d ≡ units_of_pieces (free_of front role d) + units_of_pieces (free_of front (other role) d)
left-is front Role.Outer d = refl
left-is front Role.Inner d =
    let a : ℕ = units_of_pieces (free_of front Role.Outer d) in
    let b : ℕ = units_of_pieces (free_of front Role.Inner d) in
    sums a b
  where
    sums : (a b : ℕ) → a + b ≡ b + a
    sums a b = omega arith

pub left-taken : (front : ℕ) (role : Role) (old new : Desktop) (p : Piece) → Keeps front role old new
    → units_of_pieces (free_of front role old) ≡ 1 + length p.points + units_of_pieces (free_of front role new)
    → units_left front old ≡ 1 + length p.points + units_left front new
left-taken front role old new p keeps units =
    omega (arith, left-is front role old, left-is front role new, units, ap units_of_pieces keeps.others)

pub taken-long : (part : Taken) (d : Desktop) → part.at + part.points ≤ length d.loose
    → length (units_taken part d) ≡ part.points
taken-long part d within =
    length-take-le part.points (drop part.at d.loose) (omega (arith, within, length-drop part.at d.loose))

pub points-long : (units : List Unit16) → length (points_in units) ≡ length units
points-long units = length-map units point_in

added-long : (end : ℕ) (units : List Unit16) → length (added_units end units) ≤ length units
added-long end units = by_first (first_node (points_in units) == end)
  where
    by_first : (b : Bool) → length (drop 1 (if b then units else reverse units)) ≤ length units
    by_first true = omega (arith, length-drop 1 units)
    by_first false = omega (arith, length-drop 1 (reverse units), length-reverse units)

-- ---- one part more

module _ (front : ℕ) (role : Role) (start : Piece) (first last : ℕ) (old : Desktop) (old_out : Buffer) where
  -- the first part is laid
  pub growing-starts : (units : List Unit16) (out : Buffer) → IsBench front old → start.points ≡ points_in units
      → LaysRows old_out out units → first ≡ first_node (points_in units) → last ≡ last_node (points_in units)
      → Growing front role start units first last old old_out old out
  growing-starts units out bench points lays first_is last_is = record {
    keeps = keeps-none front role old bench;
    lays = lays;
    room = omega (arith, ap length points, points-long units);
    joined = ap (λ ps. grow (record { number = start.number; points = ps }) (free_of front role old)) points;
    first_is = first_is;
    last_is = last_is;
  }

  module _ (ring : List Unit16) (new : Desktop) (out : Buffer)
      (growing : Growing front role start ring first last old old_out new out) where
    abbrev begun : Begun
    begun = record { number = start.number; points = points_in ring }

    pub same-capacity : SameRoom old old_out new out
    same-capacity = record { records = growing.keeps.capacity; out = growing.lays.capacity }

    -- its ends meet
    pub growing-closed : last ≡ first → RingJoined front role start ring old old_out new out
    growing-closed meet =
        let ends : ends_meet (points_in ring) ≡ true =
        eq-eqb (last_node (points_in ring)) (first_node (points_in ring))
        (sym growing.last_is ∙ meet ∙ growing.first_is) in
        record {
          keeps = growing.keeps;
          lays = growing.lays;
          room = growing.room;
          joined = growing.joined ∙ ring-closed begun (free_of front role new) ends;
        }

    module _ (apart : last ≡ first → ⊥) where
      ajar : ends_meet (points_in ring) ≡ false
      ajar = ne_eqb (last_node (points_in ring)) (first_node (points_in ring))
          (λ e. apart (growing.last_is ∙ e ∙ sym growing.first_is))

      some-points : 0 < length (points_in ring)
      some-points = by_ring (points_in ring) ajar
        where
          by_ring : (points : List Point) → ends_meet points ≡ false → 0 < length points
          by_ring [] e = cc
          by_ring (p ∷ points) e = omega arith

      -- no part fits
      pub growing-open : first_of (Some last) (free_of front role new) ≡ None
          → grow start (free_of front role old) ≡ Err start.number
      growing-open none = growing.joined ∙ ring-open begun (free_of front role new) ajar
          (ap (λ (n : ℕ). take_first n (free_of front role new)) (sym growing.last_is) ∙ none)

      -- a part is taken, and added
      module _ (part : Taken) (later : Desktop) (later_out : Buffer) (end : ℕ)
          (taken : IsTaken (Some last) front role part new later)
          (lays : LaysRows out later_out (added_units last (units_taken part later)))
          (end_is : end ≡ other_end last (points_in (units_taken part later))) where
        abbrev units : List Unit16
        units = units_taken part later

        abbrev piece : Piece
        piece = taken_piece part later

        abbrev more : List Unit16
        more = added_units last units

        took : Taking last (free_of front role new) (free_of front role later) piece
        took = taking last (free_of front role new) (free_of front role later) piece taken.first

        found : take_first (last_node (points_in ring)) (free_of front role new)
            ≡ Some (piece, free_of front role later)
        found = ap (λ (n : ℕ). take_first n (free_of front role new)) (sym growing.last_is) ∙ taken.first

        points-are : points_in ring ++ added (last_node (points_in ring)) piece ≡ points_in (ring ++ more)
        points-are =
            ap (λ (n : ℕ). points_in ring ++ added n piece) (sym growing.last_is)
            ∙ ap (λ ps. points_in ring ++ ps) (sym (added-is last part.number units))
            ∙ sym (points-append ring more)

        pub growing-more : Growing front role start (ring ++ more) first end old old_out later later_out
        growing-more =
            let left = left-taken front role new later piece taken.keeps took.units in
            record {
              keeps = keeps-more front role old new later growing.keeps taken.keeps;
              lays = lays-more old_out out later_out ring more growing.lays lays;
              room = omega (arith, growing.room, left, length-append ring more, added-long last units, points-long units);
              joined = growing.joined
                  ∙ ring-adds begun (free_of front role new) (free_of front role later) piece ajar found
                  ∙ ap (λ ps. grow (record { number = start.number; points = ps }) (free_of front role later)) points-are;
              first_is = growing.first_is
                  ∙ sym (first-kept (points_in ring) (added (last_node (points_in ring)) piece) some-points)
                  ∙ ap first_node points-are;
              last_is = end_is
                  ∙ sym (last-added (points_in ring) last (sym growing.last_is) piece took.fit)
                  ∙ ap (λ ps. last_node (points_in ring ++ ps)) (sym (added-is last part.number units))
                  ∙ ap last_node (sym (points-append ring more));
            }

        -- fewer parts are free
        pub growing-fewer : length (free_of front role later) < length (free_of front role new)
        growing-fewer = omega (arith, took.fewer)

        -- and there is room for it
        pub growing-room : length more ≤ length units
        growing-room = added-long last units

-- there is room for a part that is taken
pub growing-fits : (front : ℕ) (role : Role) (start : Piece) (first last : ℕ) (old : Desktop) (old_out : Buffer)
    (ring : List Unit16) (new : Desktop) (out : Buffer) → Growing front role start ring first last old old_out new out
    → (part : Taken) (later : Desktop) → IsTaken (Some last) front role part new later → (most : ℕ)
    → length start.points ≡ most → 16 * (row_total old_out.bytes + (most + units_left front old)) ≤ old_out.capacity
    → 16 * (row_total out.bytes + length (units_taken part later)) ≤ out.capacity
growing-fits front role start first last old old_out ring new out growing part later taken most same room =
    let piece = taken_piece part later in
    let took = taking last (free_of front role new) (free_of front role later) piece taken.first in
    omega (
      arith,
      room,
      same,
      growing.room,
      lays-long old_out out ring growing.lays,
      left-taken front role new later piece taken.keeps took.units,
      points-long (units_taken part later),
      growing.lays.capacity,
    )
