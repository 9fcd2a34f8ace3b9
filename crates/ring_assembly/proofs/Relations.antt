-- The one relation of a desk: its loose units, and the record that they spell once its blocks are put back.
use Rattle.std.proofs.Common.{◌≡◌, ℕ, ◌+◌, ◌*◌, ◌-◌, ◌≤◌, true, false, List, [], ◌∷◌, ◌++◌, length}
use Rattle.std.proofs.Common.{map, take, drop, Option, Some, None, Ok, Err, refl, sym, ap, ◌∙◌, arith, subst}
use Rattle.std.specs.Prelude.{Bool, unwrap_or, is_some, slice_get, option_map, IsTrue, ◌↔◌}
use Rattle.std.proofs.lemmas.Option.{none-some, same_Some}
use Rattle.std.proofs.lemmas.List.{length-append, length-drop, same_from_push}
use Rattle.mf_base.specs.declared.kind.EntityKind.{EntityKind}
use Rattle.mf_base.specs.declared.kind.Role.{Role}
use Rattle.feature_model.specs.declared.fault.RingFault.{RingFault}
use Rattle.feature_model.specs.Points.{Part}
use Rattle.feature_model.specs.Rings.{Piece}
use Rattle.feature_model.specs.Blocks.{JoinedBlock, pieces_of, relation_blocks, joined_parts}
use Rattle.feature_model.proofs.BlockBounds.{relation_blocks-none, relation_blocks-some}
use Rattle.mf_rows.specs.declared.head.Head.{Head}
use Rattle.mf_rows.specs.Units.{Unit16, parts_in}
use Rattle.mf_rows.specs.Records.{Record, spot_in, drawn_parts}
use Rattle.mf_rows.specs.RecordUnits.{AreWide, front_count, spot_count, parts_count, is_drawn, record_in, redrawn}
use Rattle.mf_rows.specs.Desks.{Desktop, used, units_in, IsLoosened, closed, closed_as}
use Rattle.mf_rows.proofs.Redrawn.{drawn-there, same-there, redrawn-is}
use Rattle.ring_assembly.specs.Marked.{all_units}
use Rattle.ring_assembly.specs.Taken.{free_of, units_left, IsBench}
use Rattle.ring_assembly.specs.Assembled.{IsRelation, HoldsRelation, first_parts, parts_held, with_blocks}
use Rattle.ring_assembly.specs.Assembled.{blocks_of_pieces}
use Rattle.ring_assembly.specs.Assembled.{blocks_left, HasBlocks, outcome, assembled, JoinsAll}
use Rattle.ring_assembly.proofs.Takings.{free_in-is, behind-few as few-behind}
use Rattle.ring_assembly.proofs.Assembling.{left-within}
use Rattle.ring_assembly.proofs.BlockParts.{AreSpelled, parts-read, pieces-are, parts-spelled}

-- one relation
pub record IsOne (records : List Record) : Type 0 where
  pub r : Record
  pub is : records ≡ r ∷ []
  pub kind : r.head.kind ≡ EntityKind.Relation

one-relation : (records : List Record) → IsRelation records → IsOne records
one-relation [] holds = absurd holds
one-relation (r ∷ []) holds = record { r = r; is = refl; kind = holds }
one-relation (r ∷ s ∷ more) holds = absurd holds

-- a desk of one record, and whether that is a relation
pub holds-by : (d : Desktop) (h : Head) (b : Bool) → length d.records ≡ 1 → d.loose ≡ []
    → Some h ≡ option_map (λ (r : Record). r.head) (slice_get d.records 0)
    → (IsTrue b ↔ (h.kind ≡ EntityKind.Relation)) → IsTrue b ↔ HoldsRelation d
holds-by d h b one empty first is =
    let found = by_list d.records one first in
    ((λ t. (found.0 t, empty)), (λ holds. found.1 holds.0))
  where
    by_list : (rs : List Record) → length rs ≡ 1 → Some h ≡ option_map (λ (r : Record). r.head) (slice_get rs 0)
        → IsTrue b ↔ IsRelation rs
    by_list [] count e = absurd (omega (arith, count))
    by_list (r ∷ []) count e =
        let same : h ≡ r.head = same_Some h r.head e in (
          (λ t. ap (λ (x : Head). x.kind) (sym same) ∙ is.0 t),
          (λ kind. is.1 (ap (λ (x : Head). x.kind) same ∙ kind)),
        )
    by_list (r ∷ s ∷ more) count e = absurd (omega (arith, count))

-- what a relation is drawn from
drawn-parts : (r : Record) (units : List Unit16) → r.head.kind ≡ EntityKind.Relation
    → is_drawn r.head.kind units ≡ true → redrawn r units ≡ r → parts_in units ≡ Some r.parts
drawn-parts r units kind drawn same = by_parts (parts_in units) refl
  where
    there : is_some (parts_in units) ≡ true
    there = sym (ap (λ (k : EntityKind). is_drawn k units) kind) ∙ drawn

    told : unwrap_or (parts_in units) [] ≡ r.parts
    told = sym (ap (λ (k : EntityKind). unwrap_or (drawn_parts k units) []) kind) ∙ ap (λ (q : Record). q.parts) same

    by_parts : (o : Option (List Part)) → parts_in units ≡ o → parts_in units ≡ Some r.parts
    by_parts None is = let none : false ≡ true = sym (ap is_some is) ∙ there in cc
    by_parts (Some parts) is = is ∙ ap Some (sym (ap (λ o. unwrap_or o []) is) ∙ told)

no-spot : (r : Record) (units : List Unit16) → r.head.kind ≡ EntityKind.Relation → redrawn r units ≡ r → None ≡ r.spot
no-spot r units kind same =
    sym (ap (λ (k : EntityKind). spot_in k units) kind) ∙ ap (λ (q : Record). q.spot) same

-- the parts of the one relation
pub parts-first : (d : Desktop) (r : Record) → Some r ≡ slice_get d.records 0 → r.parts ≡ parts_held d
parts-first d r is = by_first d.records is
  where
    by_first : (records : List Record) → Some r ≡ slice_get records 0 → r.parts ≡ first_parts records
    by_first [] e = absurd (none-some r (sym e))
    by_first (q ∷ more) e = ap (λ (x : Record). x.parts) (same_Some r q e)

pub parts-few : (d : Desktop) → HoldsRelation d → parts_count (parts_held d) ≤ used d
parts-few d holds =
    let one : IsOne d.records = one-relation d.records holds.0 in
    omega (arith, ap (λ rs. parts_count (first_parts rs)) one.is, ap units_in one.is)

module _ (old lo : Desktop) (holds : HoldsRelation old) (loosened : IsLoosened old lo) (wide : AreWide lo.loose) where
  pub one : IsOne old.records
  one = one-relation old.records holds.0

  abbrev r : Record
  r = one.r

  ends : ([] ≡ lo.records) × (r ≡ loosened.last)
  ends = same_from_push [] lo.records r loosened.last (sym one.is ∙ loosened.was)

  spelled : record_in lo.loose ≡ Some r
  spelled = loosened.spelled ∙ ap Some (sym ends.1)

  pub held-are : parts_held old ≡ r.parts
  held-are = ap first_parts one.is

  abbrev end : ℕ
  end = front_count r

  abbrev drawn : List Unit16
  drawn = drop end lo.loose

  same : redrawn r drawn ≡ r
  same = same-there lo.loose r wide spelled

  parts-are : parts_in drawn ≡ Some r.parts
  parts-are = drawn-parts r drawn one.kind (drawn-there lo.loose r wide spelled) same

  spot-none : None ≡ r.spot
  spot-none = no-spot r drawn one.kind same

  told : AreSpelled drawn r.parts
  told = parts-read drawn r.parts parts-are

  long : length lo.loose ≡ end + parts_count r.parts
  long = omega (
    arith,
    loosened.same_use,
    ap units_in one.is,
    ap units_in (sym ends.0),
    ap length holds.1,
    ap spot_count (sym spot-none),
  )

  pub front-is : (behind : ℕ) → behind ≡ parts_count (parts_held old) → length lo.loose - behind ≡ end
  front-is behind is = omega (arith, is, ap parts_count held-are, long)

  pub behind-few : (behind : ℕ) → behind ≡ parts_count (parts_held old) → behind ≤ length lo.loose
  behind-few behind is = omega (arith, is, ap parts_count held-are, long)

  module _ (few : length lo.loose ≤ 16777216) where
    bench-is : IsBench end lo
    bench-is = record { few = few; within = omega (arith, long); parts = (told.parts, told.units_are) }

    pieces : (role : Role) → free_of end role lo ≡ pieces_of role r.parts
    pieces role = free_in-is role drawn told.parts told.units_are (few-behind end lo few)
        ∙ told.pieces role 0 ∙ pieces-are role r.parts

    blocks-are : blocks_left end lo ≡ relation_blocks (parts_held old)
    blocks-are =
        ap (λ ps. blocks_of_pieces ps (free_of end Role.Inner lo)) (pieces Role.Outer)
        ∙ ap (blocks_of_pieces (pieces_of Role.Outer r.parts)) (pieces Role.Inner)
        ∙ by_outer (pieces_of Role.Outer r.parts) refl
        ∙ ap relation_blocks (sym held-are)
      where
        by_outer : (ps : List Piece) → pieces_of Role.Outer r.parts ≡ ps
            → blocks_of_pieces (pieces_of Role.Outer r.parts) (pieces_of Role.Inner r.parts) ≡ relation_blocks r.parts
        by_outer [] e =
            ap (λ (ps : List Piece). blocks_of_pieces ps (pieces_of Role.Inner r.parts)) e
            ∙ sym (relation_blocks-none r.parts e)
        by_outer (p ∷ ps) e =
            ap (λ (qs : List Piece). blocks_of_pieces qs (pieces_of Role.Inner r.parts)) e
            ∙ sym (relation_blocks-some r.parts p ps e)

    -- the blocks are put back, and the units are a record again
    module _ (found : List JoinedBlock) (new last : Desktop) (put : HasBlocks end found lo new)
        (is : last ≡ closed new) where
      others-are : parts_in (all_units put.parts) ≡ Some (joined_parts found)
      others-are =
          parts-spelled put.parts put.free
          (omega (arith, few, put.few, ap length put.loose, length-append (take end lo.loose) (all_units put.parts)))
          ∙ ap Some put.shown

      is-drawn : is_drawn r.head.kind (all_units put.parts) ≡ true
      is-drawn = ap (λ (k : EntityKind). is_drawn k (all_units put.parts)) one.kind ∙ ap is_some others-are

      record-is : redrawn r (all_units put.parts) ≡ with_blocks found r
      record-is =
          ap (λ (k : EntityKind). record {
            head = r.head;
            texts = r.texts;
            spot = spot_in k (all_units put.parts);
            parts = unwrap_or (drawn_parts k (all_units put.parts)) [];
          }) one.kind
          ∙ ap (λ s. record {
            head = r.head;
            texts = r.texts;
            spot = s;
            parts = unwrap_or (parts_in (all_units put.parts)) [];
          }) spot-none
          ∙ ap (λ o. record {
            head = r.head;
            texts = r.texts;
            spot = r.spot;
            parts = unwrap_or o [];
          }) others-are

      read-again : record_in new.loose ≡ Some (with_blocks found r)
      read-again = ap record_in put.loose
          ∙ redrawn-is lo.loose r wide spelled (all_units put.parts) is-drawn
          ∙ ap Some record-is

      closed-is : last ≡ assembled (Ok found) old
      closed-is = is
          ∙ ap (λ o. closed_as o new) read-again
          ∙ ap (λ rs. record { records = rs ++ with_blocks found r ∷ []; loose = []; capacity = new.capacity })
          (put.records ∙ sym ends.0)
          ∙ ap (λ (n : ℕ). record { records = with_blocks found r ∷ []; loose = []; capacity = n })
          (put.capacity ∙ loosened.same_room)
          ∙ ap (λ us. record { records = with_blocks found r ∷ []; loose = us; capacity = old.capacity }) (sym holds.1)
          ∙ ap (λ rs. record { records = map (with_blocks found) rs; loose = old.loose; capacity = old.capacity })
          (sym one.is)

    -- where the parts begin
    module _ (front : ℕ) (at : front ≡ end) where
      pub bench-at : IsBench front lo
      bench-at = subst (λ (n : ℕ). IsBench n lo) (sym at) bench-is

      -- there is a row for each unit
      pub room-at : (capacity : ℕ) → used old ≤ old.capacity → capacity ≡ 16 * old.capacity + 256
          → 16 * units_left front lo ≤ capacity
      room-at capacity rest is = omega (
        arith,
        rest,
        is,
        left-within front lo bench-at,
        length-drop front lo.loose,
        loosened.same_use,
      )

      blocks-at : blocks_left front lo ≡ relation_blocks (parts_held old)
      blocks-at = ap (λ (n : ℕ). blocks_left n lo) at ∙ blocks-are

      -- the parts make no blocks
      pub refused : (why : RingFault) (new last : Desktop) → JoinsAll front (Err why) lo new
          → last ≡ record { records = []; loose = []; capacity = new.capacity }
          → (Err why ≡ outcome (relation_blocks (parts_held old)))
          × (last ≡ assembled (relation_blocks (parts_held old)) old)
      refused why new last (none, room) is =
          let why_not : relation_blocks (parts_held old) ≡ Err why = sym blocks-at ∙ none in (
            sym (ap outcome why_not),
            is ∙ ap (λ (n : ℕ). record { records = []; loose = []; capacity = n }) (room ∙ loosened.same_room)
                ∙ sym (ap (λ o. assembled o old) why_not),
          )

      -- the parts make blocks
      pub joined : (new last : Desktop) → JoinsAll front (Ok tt) lo new → last ≡ closed new
          → (Ok tt ≡ outcome (relation_blocks (parts_held old)))
          × (last ≡ assembled (relation_blocks (parts_held old)) old)
      joined new last (found, is, put) shut =
          let blocks : relation_blocks (parts_held old) ≡ Ok found = sym blocks-at ∙ is in (
            sym (ap outcome blocks),
            closed-is found new last (subst (λ (n : ℕ). HasBlocks n found lo new) at put) shut
                ∙ sym (ap (λ o. assembled o old) blocks),
          )

      -- and there are no more units than before
      pub no-more : (new last : Desktop) → JoinsAll front (Ok tt) lo new → used last ≡ used new → used last ≤ used old
      no-more new last (found, is, put) same =
          omega (arith, same, put.few, ap units_in put.records, loosened.same_use)
