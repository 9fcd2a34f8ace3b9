-- Parts that are taken off the loose units, and what is left of them.
use Rattle.std.proofs.Common.{◌≡◌, ℕ, zero, suc, ◌+◌, ◌^◌, ◌<◌, ◌≤◌, true, false, List, [], ◌∷◌, ◌++◌}
use Rattle.std.proofs.Common.{length, take, drop, Option, Some, None, refl, sym, ap, ◌∙◌, arith, subst, append_assoc}
use Rattle.std.specs.Prelude.{◌==◌, slice_set, slice_index_or}
use Rattle.std.specs.List.{list_any}
use Rattle.std.proofs.lemmas.Bool.{and_parts}
use Rattle.std.proofs.lemmas.List.{length-append, length-drop, length-take-le, take_at, drop_at, take-append-drop, drop-drop, set_at, get_or_at}
use Rattle.mf_base.specs.declared.kind.Role.{Role}
use Rattle.feature_model.specs.Rings.{Piece}
use Rattle.mf_rows.specs.Units.{Unit16, role_number}
use Rattle.mf_rows.specs.Desks.{Desktop}
use Rattle.ring_assembly.specs.Marked.{State, free, used, Marked, state_unit, all_units, points_in, is_free, has_end, suits}
use Rattle.ring_assembly.specs.Marked.{with_piece, free_pieces, used_up}
use Rattle.ring_assembly.specs.Found.{FindsFirst}
use Rattle.ring_assembly.specs.Taken.{points_told, tells_role, free_within, free_in, free_of, IsBench, other}
use Rattle.ring_assembly.specs.Taken.{first_of, IsTaken, UsesUp}
use Rattle.ring_assembly.specs.declared.parts.Found.{Found}
use Rattle.ring_assembly.specs.declared.parts.Taken.{Taken}
use Rattle.ring_assembly.proofs.Marks.{points-told, state-told, free-is, all-append}
use Rattle.ring_assembly.proofs.Freed.{piece_of, free-starts, free-taken, free-other, free-none, free-done}

-- ---- the free parts that units have

within-is : (role : Role) (n most : ℕ) (parts : List Marked) → length (all_units parts) ≤ most
    → length (all_units parts) < 2 ^ 64 → free_within most role n (all_units parts) ≡ free_pieces role n parts
unfolding free_within free_pieces
within-is role n zero [] le few = refl
within-is role n (suc most) [] le few = refl
within-is role n zero (m ∷ parts) le few = absurd (omega (arith, le))
within-is role n (suc most) (m ∷ parts) le few =
    let k : ℕ = length m.units in
    let first : Unit16 = state_unit m.state k in
    let rest : List Unit16 = m.units ++ all_units parts in
    let long : length rest ≡ k + length (all_units parts) = length-append m.units (all_units parts) in
    let told : points_told first ≡ k = points-told m.state k first (omega (arith, few, long)) refl in
    let role_is : tells_role role first ≡ is_free role m.state =
    ap (λ (s : ℕ). s == role_number role) (state-told m.state k first refl) ∙ free-is role m.state in
    let front : take k rest ≡ m.units = take_at m.units (all_units parts) k refl in
    let back : drop k rest ≡ all_units parts = drop_at m.units (all_units parts) k refl in
    let more = within-is role (n + 1) most parts (omega (arith, le, long)) (omega (arith, few, long)) in
    ap (λ b. with_piece b (record { number = n; points = points_in (take (points_told first) rest) })
    (free_within most role (n + 1) (drop (points_told first) rest))) role_is
    ∙ ap (λ j. with_piece (is_free role m.state) (record { number = n; points = points_in (take j rest) })
    (free_within most role (n + 1) (drop j rest))) told
    ∙ ap (λ us. with_piece (is_free role m.state) (record { number = n; points = points_in us })
    (free_within most role (n + 1) (drop k rest))) front
    ∙ ap (λ us. with_piece (is_free role m.state) (piece_of n m) (free_within most role (n + 1) us)) back
    ∙ ap (with_piece (is_free role m.state) (piece_of n m)) more

pub free_in-is : (role : Role) (units : List Unit16) (parts : List Marked) → units ≡ all_units parts
    → length units < 2 ^ 64 → free_in role units ≡ free_pieces role 0 parts
unfolding free_in
free_in-is role units parts is few =
    ap (λ us. free_within (length us) role 0 us) is
    ∙ within-is role 0 (length (all_units parts)) parts (omega arith) (subst (λ us. length us < 2 ^ 64) is few)

-- ---- which part is taken

-- a part is free under one role alone
not_other : (role : Role) (state : State) → is_free role state ≡ true → is_free (other role) state ≡ false
not_other Role.Outer (free Role.Outer) is = refl
not_other Role.Outer (free Role.Inner) is = cc
not_other Role.Outer used is = cc
not_other Role.Inner (free Role.Outer) is = cc
not_other Role.Inner (free Role.Inner) is = refl
not_other Role.Inner used is = cc

first-none : (role : Role) (end : Option ℕ) (parts : List Marked) → list_any (suits role end) parts ≡ false
    → first_of end (free_pieces role 0 parts) ≡ None
first-none role None parts none = ap (first_of None) (free-done role parts none)
first-none role (Some end) parts none = free-none role end parts none

first-some : (role : Role) (end : Option ℕ) (before after : List Marked) (m : Marked)
    → list_any (suits role end) before ≡ false → suits role end m ≡ true
    → first_of end (free_pieces role 0 (before ++ m ∷ after))
    ≡ Some (piece_of (length before) m, free_pieces role 0 (before ++ used_up m ∷ after))
first-some role None before after m none is =
    ap (first_of None)
    (free-starts role before after m none (and_parts (is_free role m.state) (has_end None (points_in m.units)) is).0)
first-some role (Some end) before after m none is = free-taken role before after m end none is

-- ---- a part that is used up among the loose units

pub behind-few : (front : ℕ) (d : Desktop) → length d.loose ≤ 16777216 → length (drop front d.loose) < 2 ^ 64
behind-few front d few = omega (arith, few, length-drop front d.loose)

module _ (front : ℕ) (role : Role) (end : Option ℕ) (old : Desktop) (bench : IsBench front old) where
  abbrev parts : List Marked
  parts = bench.parts.0

  old-free : (r : Role) → free_of front r old ≡ free_pieces r 0 parts
  old-free r = free_in-is r (drop front old.loose) parts bench.parts.1 (behind-few front old bench.few)

  pub none-taken : FindsFirst (suits role end) parts None → first_of end (free_of front role old) ≡ None
  none-taken none = ap (first_of end) (old-free role) ∙ first-none role end parts none

  module _ (found : Found) (finds : FindsFirst (suits role end) parts (Some found)) where
    abbrev before : List Marked
    before = finds.0

    abbrev m : Marked
    m = finds.1

    abbrev after : List Marked
    after = finds.2

    abbrev k : ℕ
    k = length m.units

    abbrev head : List Unit16
    head = take front old.loose

    abbrev fore : List Unit16
    fore = head ++ all_units before

    abbrev rest : List Unit16
    rest = m.units ++ all_units after

    abbrev left : List Marked
    left = before ++ used_up m ∷ after

    head-long : length head ≡ front
    head-long = length-take-le front old.loose bench.within

    fore-long : length fore ≡ front + found.at
    fore-long = omega (arith, head-long, length-append head (all_units before), finds.4)

    old-is : old.loose ≡ fore ++ state_unit m.state k ∷ rest
    old-is = sym (take-append-drop front old.loose) ∙ ap (λ us. head ++ us) (bench.parts.1 ∙ ap all_units finds.3
        ∙ all-append before (m ∷ after)) ∙ sym (append_assoc head (all_units before) (state_unit m.state k ∷ rest))

    -- its unit is one of the loose ones
    pub found-within : front + found.at < length old.loose
    found-within = omega (arith, fore-long, ap length old-is, length-append fore (state_unit m.state k ∷ rest))

    module _ (new : Desktop) (uses : UsesUp (front + found.at) old new) where
      new-is : new ≡ record old { loose = fore ++ state_unit used k ∷ rest }
      new-is = uses m.state k fore rest fore-long old-is

      loose-is : new.loose ≡ fore ++ state_unit used k ∷ rest
      loose-is = ap (λ (d : Desktop). d.loose) new-is

      new-split : new.loose ≡ head ++ all_units left
      new-split = loose-is ∙ append_assoc head (all_units before) (state_unit used k ∷ rest)
          ∙ ap (λ us. head ++ us) (sym (all-append before (used_up m ∷ after)))

      new-behind : drop front new.loose ≡ all_units left
      new-behind = ap (drop front) new-split ∙ drop_at head (all_units left) front head-long

      new-head : take front new.loose ≡ head
      new-head = ap (take front) new-split ∙ take_at head (all_units left) front head-long

      new-long : length new.loose ≡ length old.loose
      new-long = omega (
        arith,
        ap length loose-is,
        ap length old-is,
        length-append fore (state_unit used k ∷ rest),
        length-append fore (state_unit m.state k ∷ rest),
      )

      new-bench : IsBench front new
      new-bench = record {
        few = omega (arith, bench.few, new-long);
        within = omega (arith, bench.within, new-long);
        parts = (left, new-behind);
      }

      new-free : (r : Role) → free_of front r new ≡ free_pieces r 0 left
      new-free r = free_in-is r (drop front new.loose) left new-behind (behind-few front new new-bench.few)

      is-free : is_free role m.state ≡ true
      is-free = (and_parts (is_free role m.state) (has_end end (points_in m.units)) finds.8).0

      abbrev part : Taken
      part = record { at = front + found.at + 1; points = found.points; number = found.number }

      behind-unit : drop (front + found.at + 1) new.loose ≡ rest
      behind-unit = ap (drop (front + found.at + 1)) loose-is
          ∙ sym (drop-drop 1 (front + found.at) (fore ++ state_unit used k ∷ rest))
          ∙ ap (drop 1) (drop_at fore (state_unit used k ∷ rest) (front + found.at) fore-long)

      units-are : take found.points (drop (front + found.at + 1) new.loose) ≡ m.units
      units-are = ap (take found.points) behind-unit ∙ take_at m.units (all_units after) found.points (sym finds.5)

      piece-is : piece_of (length before) m
          ≡ record { number = found.number; points = points_in (take found.points (drop (front + found.at + 1) new.loose)) }
      piece-is = ap (λ (n : ℕ). record { number = n; points = points_in m.units }) (sym finds.6)
          ∙ ap (λ us. record { number = found.number; points = points_in us }) (sym units-are)

      pub part-taken : IsTaken end front role part old new
      part-taken = record {
        keeps = record {
          bench = new-bench;
          others = new-free (other role)
              ∙ free-other (other role) before after m (not_other role m.state is-free)
              ∙ ap (free_pieces (other role) 0) (sym finds.3) ∙ sym (old-free (other role));
          head = new-head;
          long = new-long;
          records = ap (λ (d : Desktop). d.records) new-is;
          capacity = ap (λ (d : Desktop). d.capacity) new-is;
        };
        within = omega (
          arith,
          ap length loose-is,
          length-append fore (state_unit used k ∷ rest),
          fore-long,
          length-append m.units (all_units after),
          finds.5,
        );
        first = ap (first_of end) (old-free role ∙ ap (free_pieces role 0) finds.3)
            ∙ first-some role end before after m finds.7 finds.8
            ∙ ap (λ (p : Piece). Some (p, free_pieces role 0 left)) piece-is
            ∙ ap (λ (ps : List Piece). Some (
              record {
                number = found.number;
                points = points_in (take found.points (drop (front + found.at + 1) new.loose));
              },
              ps,
            )) (sym (new-free role));
      }

-- ---- a unit that is changed

pub used-there : (old new : Desktop) (at i : ℕ) (unit d : Unit16)
    → new ≡ record old { loose = slice_set old.loose i unit } → i ≡ at
    → ((state : State) (points : ℕ) → slice_index_or old.loose at d ≡ state_unit state points
    → unit ≡ state_unit used points)
    → UsesUp at old new
used-there old new at i unit d new_is same told = λ state points before after long is.
    let there : slice_index_or old.loose at d ≡ state_unit state points =
    ap (λ us. slice_index_or us at d) is ∙ get_or_at before (state_unit state points) after d at long in
    let put : slice_set old.loose i unit ≡ before ++ state_unit used points ∷ after =
    ap (λ us. slice_set us i unit) is
    ∙ set_at before (state_unit state points) after unit i (long ∙ sym same)
    ∙ ap (λ u. before ++ u ∷ after) (told state points there) in
    new_is ∙ ap (λ us. record { records = old.records; loose = us; capacity = old.capacity }) put
