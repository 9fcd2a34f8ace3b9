-- The next member of a tile: its units are loaded, and it becomes a record or is dropped.
use Rattle.std.proofs.Common.{◌≡◌, ℕ, ◌+◌, ◌-◌, ◌≤◌, ◌<◌, ◌^◌, true, List, [], ◌∷◌, ◌++◌, length, take, drop}
use Rattle.std.proofs.Common.{Some, None, sym, ap, subst, ◌∙◌, arith, append_assoc, inl, inr, ◌⊎◌}
use Rattle.std.specs.Prelude.{Bool, map, nat_le, Option}
use Rattle.std.specs.List.{AllByRecursion}
use Rattle.std.proofs.lemmas.Bool.{leb-true, le-leb}
use Rattle.std.proofs.lemmas.List.{length-map, length-take, take-append-drop, map-append}
use Rattle.mf_base.specs.declared.tile.TilePlace.{TilePlace}
use Rattle.feature_model.proofs.Rising.{all-after}
use Rattle.map_model.specs.NumberedMembers.{members_by}
use Rattle.mf_rows.specs.Desks.{Desktop, used, units_in, closed, closed_as}
use Rattle.mf_rows.specs.Records.{Record}
use Rattle.mf_rows.specs.RecordUnits.{record_in}
use Rattle.mf_rows.specs.Units.{Unit16}
use Rattle.mf_rows.specs.declared.kinds.TileRow.{TileRow}
use Rattle.spill_parts.specs.Join.{rest_of}
use Rattle.spill_parts.specs.Shaped.{Spelled, IsLight}
use Rattle.tile_rows.specs.TileRows.{shown}
use Rattle.tile_rows.specs.Reading.{is_row_of, BeginsMember}
use Rattle.tile_rows.proofs.RowCount.{members-light}
use Rattle.tile_rows.proofs.RowReading.{row-begins}
use Rattle.unit_rows.specs.Runs.{going_on, next_on}
use Rattle.unit_rows.proofs.Loads.{take-all}
use Rattle.tile_load.specs.Loading.{AreRead, holds_row_of, weight_of}
use Rattle.tile_load.proofs.Heads.{ten-units}
use Rattle.tile_load.proofs.Sums.{sum-parts, sum-more, members-within}

abbrev place : TileRow → ℕ
place row = row.place

abbrev own : Spelled → ℕ
own s = s.told.head.weight

abbrev unit : TileRow → Unit16
unit row = row.unit

module _ (limit : ℕ) (list : List Spelled) (tile : TilePlace) (later : List TilePlace) (weight : ℕ) (row : TileRow)
    (left : List TileRow) (before : Desktop) (held : Option TileRow) (held-is : held ≡ Some row)
    (read-before : AreRead limit list tile later weight (rest_of held left) before.records)
    (of-tile : holds_row_of tile held ≡ true)
  where
    abbrev read : AreRead limit list tile later weight (row ∷ left) before.records
    read = subst (λ (h : Option TileRow). AreRead limit list tile later weight (rest_of h left) before.records) held-is
        read-before

    of : is_row_of tile row ≡ true
    of = sym (ap (holds_row_of tile) held-is) ∙ of-tile

    -- the member that the row begins
    abbrev next : BeginsMember list tile read.more later row left
    next = row-begins list tile read.more later row left read.order read.rows_are of

    abbrev m : Spelled
    m = next.member

    members-are : members_by shown list tile ≡ read.done ++ m ∷ next.more
    members-are = read.members_are ∙ ap (λ ms. read.done ++ ms) next.rest_are

    light : IsLight limit m
    light = (all-after (IsLight limit) read.done (m ∷ next.more)
        (subst (AllByRecursion (IsLight limit)) members-are (members-light limit list tile read.light))).0

    -- the weights fit
    fits : weight + m.told.head.weight < 2 ^ 63
    fits =
        let parts = sum-parts own read.done next.more m in
        let all = ap weight_of members-are in
        let within = members-within shown own list tile in
        let few = read.few in
        let so_far = read.weight_is in
        omega (arith, parts, all, within, few, so_far)

    ten : 10 ≤ length m.units
    ten = ten-units m.units m.told m.spells

    ten-room : 10 ≤ limit
    ten-room = let few = light.units in let within = light.weight in let many = ten in omega (arith, few, within, many)

    -- how many units it has
    counted : (units : ℕ) → units ≡ 1 + length (going_on place left) → units ≡ length m.units
    counted units is =
        let same : length (map unit (row ∷ going_on place left)) ≡ length m.units = ap length next.units_are in
        let all = length-map (row ∷ going_on place left) unit in
        omega (arith, is, same, all)

    -- They were loaded to a desk, as far as there is room for them.
    module _ (desk loaded : Desktop) (spare units : ℕ)
        (capacity : desk.capacity ≡ limit)
        (empty : desk.loose ≡ [])
        (spare-is : spare + used desk ≡ desk.capacity)
        (head : 10 ≤ limit → used desk + 10 ≤ limit)
        (loose : loaded.loose ≡ take (desk.capacity - units_in desk.records) (map unit (row ∷ going_on place left)))
        (units-are : units ≡ 1 + length (going_on place left))
      where
        room : desk.capacity - units_in desk.records ≡ spare
        room = let none : length desk.loose ≡ 0 = ap length empty in omega (arith, none, spare-is)

        ten-spare : 10 ≤ spare
        ten-spare = let some = head ten-room in omega (arith, some, spare-is, capacity)

        loose-are : loaded.loose ≡ take spare m.units
        loose-are = loose ∙ (λ i. take (room i) (next.units_are i))

        -- with those for which there was no room they spell the member
        front-spelled : record_in (loaded.loose ++ drop spare m.units) ≡ Some m.told
        front-spelled = ap record_in (ap (λ us. us ++ drop spare m.units) loose-are ∙ take-append-drop spare m.units)
            ∙ m.spells

        two-loose : 2 ≤ length loaded.loose
        two-loose =
            let many : length loaded.loose ≡ length (take spare m.units) = ap length loose-are in
            let taken = length-take spare m.units in
            let some = ten in
            let free = ten-spare in
            omega (arith, many, taken, some, free)

        -- where there was room they are all its units
        all-loose : units ≤ spare → loaded.loose ≡ m.units
        all-loose enough =
            let same = counted units units-are in loose-are ∙ take-all spare m.units (omega (arith, same, enough))

        whole-spelled : units ≤ spare → record_in loaded.loose ≡ Some m.told
        whole-spelled enough = ap record_in (all-loose enough) ∙ m.spells

        no-cause : (whole : Bool) → whole ≡ nat_le units spare
            → (length loaded.loose < 2) ⊎ (2 ^ 64 ≤ weight + m.told.head.weight)
            ⊎ ((whole ≡ true) × (record_in loaded.loose ≡ None)) → ⊥
        no-cause whole is (inl short) = let two = two-loose in omega (arith, short, two)
        no-cause whole is (inr (inl wide)) = let small = fits in omega (arith, wide, small)
        no-cause whole is (inr (inr (all, none))) =
            let some : ◌≡◌ {A = Option Record} None (Some m.told) =
            sym none ∙ whole-spelled (leb-true units spare (sym is ∙ all)) in
            cc some

        -- so there is an answer
        pub never-none : (whole : Bool) → whole ≡ nat_le units spare
            → ((rest : List Unit16) (r : Record) → record_in (loaded.loose ++ rest) ≡ Some r
            → (length loaded.loose < 2) ⊎ (2 ^ 64 ≤ weight + r.head.weight)
            ⊎ ((whole ≡ true) × (record_in loaded.loose ≡ None))) → ⊥
        never-none whole is cause = no-cause whole is (cause (drop spare m.units) m.told front-spelled)

        -- It became a record, or was dropped.
        module _ (after : Desktop) (whole : Bool) (sum : ℕ) (rows : List TileRow)
            (none-loose : before.loose ≡ [])
            (same-loaded : loaded.records ≡ desk.records)
            (kept : weight ≤ limit → used before + 10 ≤ limit → desk ≡ before)
            (whole-is : whole ≡ nat_le units spare)
            (close : whole ≡ true → after ≡ closed loaded)
            (same-use : whole ≡ true → used after ≡ used loaded)
            (sum-told : (rest : List Unit16) (r : Record) → record_in (loaded.loose ++ rest) ≡ Some r
            → sum ≡ weight + r.head.weight)
            (behind : rows ≡ next_on place left)
          where
            sum-is : sum ≡ weight + m.told.head.weight
            sum-is = sum-told (drop spare m.units) m.told front-spelled

            -- where all members have room, it does not lack room
            desk-same : sum ≤ limit → desk ≡ before
            desk-same within =
                let units_few = read.units_are (omega (arith, within, sum-is)) in
                let none : length before.loose ≡ 0 = ap length none-loose in
                let few = light.units in
                let many = ten in
                kept (omega (arith, within, sum-is)) (omega (arith, within, sum-is, units_few, none, few, many))

            units-before : sum ≤ limit → units_in desk.records ≤ weight
            units-before within =
                let units_few = read.units_are (omega (arith, within, sum-is)) in
                let same : units_in desk.records ≡ units_in before.records =
                ap (λ (d : Desktop). units_in d.records) (desk-same within) in
                omega (arith, units_few, same)

            enough : sum ≤ limit → units ≤ spare
            enough within =
                let units_few = units-before within in
                let none : length desk.loose ≡ 0 = ap length empty in
                let few = light.units in
                let same = counted units units-are in
                omega (arith, within, sum-is, units_few, none, few, same, spare-is, capacity)

            is-whole : sum ≤ limit → whole ≡ true
            is-whole within = whole-is ∙ le-leb units spare (enough within)

            after-is : sum ≤ limit → after.records ≡ before.records ++ m.told ∷ []
            after-is within =
                ap (λ (d : Desktop). d.records) (close (is-whole within))
                ∙ ap (λ o. (closed_as o loaded).records) (whole-spelled (enough within))
                ∙ ap (λ rs. rs ++ m.told ∷ []) (same-loaded ∙ ap (λ (d : Desktop). d.records) (desk-same within))

            units-after : sum ≤ limit → units_in after.records ≤ sum
            units-after within =
                let taken : used after ≡ used loaded = same-use (is-whole within) in
                let same : units_in loaded.records ≡ units_in desk.records = ap units_in same-loaded in
                let units_few = units-before within in
                let many : length loaded.loose ≡ length m.units = ap length (all-loose (enough within)) in
                let few = light.units in
                omega (arith, taken, same, units_few, many, few, sum-is)

            pub one-more : AreRead limit list tile later sum rows after.records
            one-more = record {
              light = read.light;
              few = read.few;
              order = read.order;
              done = read.done ++ m ∷ [];
              more = next.more;
              members_are = members-are ∙ sym (append_assoc read.done (m ∷ []) next.more);
              rows_are = behind ∙ next.left_are;
              weight_is = sum-is ∙ ap (λ n. n + m.told.head.weight) read.weight_is ∙ sym (sum-more own read.done m);
              records_are = λ within. after-is within
                  ∙ ap (λ rs. rs ++ m.told ∷ []) (read.records_are (omega (arith, within, sum-is)))
                  ∙ sym (map-append (λ (s : Spelled). s.told) read.done (m ∷ []));
              units_are = units-after;
            }
