-- A whole tile: what is put one after another, what holds of each member, and that the tile is read again.
use Rattle.std.proofs.Common.{◌≡◌, ℕ, ◌+◌, ◌*◌, ◌^◌, ◌≤◌, ◌<◌, List, [], ◌∷◌, ◌++◌, length, map, refl}
use Rattle.std.proofs.Common.{sym, zero, suc}
use Rattle.std.proofs.Common.{ap, ◌∙◌, arith, length-append, Bool, true, false, Ok, subst, inl, inr}
use Rattle.std.specs.Prelude.{nat_lt, min, ◌==◌}
use Rattle.std.specs.List.{AllByRecursion}
use Rattle.std.proofs.lemmas.Bool.{cases_lt, lt-ltb, le-ltb}
use Rattle.std.proofs.lemmas.List.{length-map}
use Rattle.mf_base.specs.Buffer.{Buffer, AppendsTo}
use Rattle.mf_base.specs.Spelling.{vbe_unsigned}
use Rattle.mf_base.specs.declared.place.Place.{Place}
use Rattle.mf_base.specs.declared.tile.TilePlace.{TilePlace}
use Rattle.feature_model.specs.Mapping.{Mapping}
use Rattle.feature_model.specs.Entries.{IsMapping}
use Rattle.map_model.specs.Room.{rows_limit, IsWritten}
use Rattle.map_model.specs.Members.{in_tile_order}
use Rattle.map_model.specs.Bitmap.{sub_tile_bits}
use Rattle.map_model.specs.Layout.{sized}
use Rattle.map_model.specs.TileBytes.{tile_corner, tile_bytes, coordinate_size, is_double}
use Rattle.map_model.specs.TileReading.{read_tile, read_tile_from}
use Rattle.map_model.specs.TagLists.{tag_lists}
use Rattle.map_model.specs.Listed.{listed}
use Rattle.map_model.proofs.LevelLemmas.{tile_bytes-flat}
use Rattle.map_model.proofs.CornerLemmas.{tile_corner-in_range}
use Rattle.map_model.proofs.RecordsAgain.{reads_written}
use Rattle.map_model.proofs.WrittenLevels.{levels-told}
use Rattle.mf_rows.specs.Desks.{Desktop, units_in, used}
use Rattle.mf_rows.specs.Records.{Record, candidate_told}
use Rattle.mf_rows.specs.RecordUnits.{unit_count}
use Rattle.mf_rows.specs.Shapes.{feature_told}
use Rattle.way_delta.specs.Rings.{blocks_told, blocks_bytes}
use Rattle.way_delta.proofs.Writing.{puts-two}
use Rattle.tile_body.proofs.ShapeRoom.{blocks-within}
use Rattle.tile_body.specs.declared.way.Drawn.{Drawn}
use Rattle.tile_body.specs.Members.{IsTile, IsMember, HoldsMembers}
use Rattle.tile_body.specs.Tiles.{features_told, table_bytes, class_bytes, pois_bytes, ways_bytes}
use Rattle.tile_body.specs.Tables.{AreLow}
use Rattle.tile_body.specs.Ways.{IsWayIn, IsDrawn, way_told, body_of}
use Rattle.tile_body.proofs.DeskRoom.{in-order, way-room-told, few-records}
use Rattle.tile_body.proofs.Bodies.{way-parts}

-- ---- one member

pub body-fits : (tile : TilePlace) (r : Record) (d : Drawn) → IsWayIn tile r → IsDrawn tile r d
    → length (body_of r d) < 2 ^ 32
unfolding way_told
body-fits tile r d way drawn =
    let light = way.light in
    let room = way-room-told (tile_corner tile) (sub_tile_bits (feature_told r) tile) r
    (tile_corner-in_range tile way.place.column) way.member way.light in
    let parts = ap length (way-parts tile r d drawn) in
    let sum = length-append (vbe_unsigned (length (body_of r d))) (body_of r d) in
    omega (arith, light, room, parts, sum)

-- the smaller of two sizes is that of the delta kind which takes fewer bytes
pub smaller-size : (size : Bool → ℕ) (single double least : ℕ) → single ≡ size false → double ≡ size true
    → least ≡ min single double → least ≡ size (nat_lt double single)
smaller-size size single double least one two is =
    elim (cases_lt double single) [
      | inl less ↦ rw (lt-ltb double single less) (omega (arith, is, two, less))
      | inr more ↦ rw (le-ltb double single more) (omega (arith, is, one, more))
    ]

pub double-is : (tile : TilePlace) (r : Record) (corner : Place) (single double : ℕ) → corner ≡ tile_corner tile
    → single ≡ coordinate_size corner false (feature_told r) → double ≡ coordinate_size corner true (feature_told r)
    → nat_lt double single ≡ is_double (tile_corner tile) (feature_told r)
unfolding is_double
double-is tile r corner single double at one two =
    (λ i. nat_lt (two i) (one i))
    ∙ ap (λ p. nat_lt (coordinate_size p true (feature_told r)) (coordinate_size p false (feature_told r))) at

pub drawn-size : (r : Record) (corner : Place) (counts single double least : ℕ)
    → ((p : Place) (b : Bool) → counts + coordinate_size p b (feature_told r)
    ≡ length (blocks_bytes p b (blocks_told r)))
    → single ≡ coordinate_size corner false (feature_told r) → double ≡ coordinate_size corner true (feature_told r)
    → least ≡ min single double
    → counts + least ≡ length (blocks_bytes corner (nat_lt double single) (blocks_told r))
drawn-size r corner counts single double least all one two is =
    let size = smaller-size (λ b. coordinate_size corner b (feature_told r)) single double least one two is in
    let sum = all corner (nat_lt double single) in
    omega (arith, size, sum)

-- a feature has at most as many blocks as units
pub few-blocks : (r : Record) → IsMember r → unit_count r ≤ rows_limit → length (blocks_told r) < 2 ^ 32
few-blocks r m light =
    let few = blocks-within r.head.kind r.spot r.parts m.feature in omega (arith, few, light)

-- ---- all of them

abbrev whole : TilePlace → List Record → List ℕ
whole tile records =
    (table_bytes tile.interval (features_told records)
    ++ (vbe_unsigned (length (pois_bytes (tile_corner tile) (features_told records)))
    ++ pois_bytes (tile_corner tile) (features_told records))) ++ ways_bytes tile (features_told records)

parts-of : (tile : TilePlace) (records : List Record)
    → features_told records ≡ in_tile_order tile.interval (features_told records) → 0 < length records
    → tile_bytes tile (features_told records) ≡ whole tile records
unfolding table_bytes class_bytes sized
parts-of tile [] ordered some = absurd (omega (arith, some))
parts-of tile (r ∷ records) ordered some =
    tile_bytes-flat tile (feature_told r) (features_told records) ordered

module _ (tile : TilePlace) (d : Desktop) (is : IsTile tile) (h : HoldsMembers tile d) (some : 0 < length d.records)
  where
    pub tile-parts : tile_bytes tile (features_told d.records) ≡ whole tile d.records
    tile-parts = parts-of tile d.records (in-order tile d is h) some

    pub tile-length : length (tile_bytes tile (features_told d.records))
        ≡ length (table_bytes tile.interval (features_told d.records))
        + length (vbe_unsigned (length (pois_bytes (tile_corner tile) (features_told d.records))))
        + length (pois_bytes (tile_corner tile) (features_told d.records))
        + length (ways_bytes tile (features_told d.records))
    tile-length =
        let t = table_bytes tile.interval (features_told d.records) in
        let p = pois_bytes (tile_corner tile) (features_told d.records) in
        let v = vbe_unsigned (length p) in
        let w = ways_bytes tile (features_told d.records) in
        ap length tile-parts ∙ omega (
          arith,
          length-append (t ++ (v ++ p)) w,
          length-append t (v ++ p),
          length-append v p,
        )

    pub puts-tile : (b0 b1 b2 b3 b4 : Buffer) (size : ℕ)
        → AppendsTo b0 b1 (table_bytes tile.interval (features_told d.records)) → AppendsTo b1 b2 (vbe_unsigned size)
        → size ≡ length (pois_bytes (tile_corner tile) (features_told d.records))
        → AppendsTo b2 b3 (pois_bytes (tile_corner tile) (features_told d.records))
        → AppendsTo b3 b4 (ways_bytes tile (features_told d.records))
        → AppendsTo b0 b4 (tile_bytes tile (features_told d.records))
    puts-tile b0 b1 b2 b3 b4 size table offset size_is pois ways =
        let t = table_bytes tile.interval (features_told d.records) in
        let p = pois_bytes (tile_corner tile) (features_told d.records) in
        let w = ways_bytes tile (features_told d.records) in
        subst (AppendsTo b0 b4) (sym tile-parts)
        (puts-two b0 b3 b4 (t ++ (vbe_unsigned (length p) ++ p)) w
        (puts-two b0 b1 b3 t (vbe_unsigned (length p) ++ p) table
        (puts-two b1 b2 b3 (vbe_unsigned (length p)) p
        (subst (λ n. AppendsTo b1 b2 (vbe_unsigned n)) size_is offset) pois)) ways)

pub no-members : (tile : TilePlace) (records : List Record) → length records ≡ 0
    → tile_bytes tile (features_told records) ≡ []
unfolding tile_bytes
no-members tile [] none = refl
no-members tile (r ∷ records) none = absurd (omega (arith, none))

low-of : (tile : TilePlace) (records : List Record)
    → AllByRecursion (λ f. f.zoom ≤ tile.interval.max) (features_told records) → AreLow tile.interval records
unfolding feature_told candidate_told
low-of tile [] all = tt
low-of tile (r ∷ records) all = (all.0, low-of tile records all.1)

pub are-low : (tile : TilePlace) (d : Desktop) → HoldsMembers tile d → AreLow tile.interval d.records
are-low tile d h = low-of tile d.records h.order.zooms

pub few-members : (tile : TilePlace) (d : Desktop) → HoldsMembers tile d → used d ≤ d.capacity
    → (length d.records < 2 ^ 28) × (units_in d.records ≤ rows_limit)
few-members tile d h within =
    let room = h.room in
    let few = few-records d.records in
    (omega (arith, room, few, within), omega (arith, room, within))

-- ---- reading it again

read-whole : (mapping : Mapping) (tile : TilePlace) (records : List Record) → IsTile tile
    → features_told records ≡ in_tile_order tile.interval (features_told records) → IsMapping mapping
    → AllByRecursion (IsWritten mapping) (features_told records) → length records < 2 ^ 63
    → length (tile_bytes tile (features_told records)) < 2 ^ 63
    → read_tile (tag_lists mapping) tile (tile_bytes tile (features_told records))
    ≡ Ok (map (listed (tag_lists mapping) tile) (features_told records))
unfolding tile_bytes read_tile read_tile_from
read-whole mapping tile [] is ordered m all few short = refl
read-whole mapping tile (r ∷ records) is ordered m all few short =
    let same = length-map (r ∷ records) feature_told in
    reads_written (tag_lists mapping) tile (feature_told r) (features_told records) is.column ordered
    (levels-told mapping tile (features_told (r ∷ records)) m all (omega (arith, few, same))) short

pub read-told : (mapping : Mapping) (tile : TilePlace) (d : Desktop) → IsTile tile → HoldsMembers tile d
    → used d ≤ d.capacity → length (tile_bytes tile (features_told d.records)) + 10 ≤ 16 * d.capacity + 256
    → IsMapping mapping → AllByRecursion (IsWritten mapping) (features_told d.records)
    → read_tile (tag_lists mapping) tile (tile_bytes tile (features_told d.records))
    ≡ Ok (map (listed (tag_lists mapping) tile) (features_told d.records))
read-told mapping tile d is h within room m all =
    let most = h.room in
    let few = few-members tile d h within in
    let count = few.0 in
    read-whole mapping tile d.records is (in-order tile d is h) m all (omega (arith, count))
    (omega (arith, room, most))

-- a test for none that fails
pub some-there : (n : ℕ) → (n == 0) ≡ false → 0 < n
some-there zero e = absurd (cc e)
some-there (suc n) e = omega arith
