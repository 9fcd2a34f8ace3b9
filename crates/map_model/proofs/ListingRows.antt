-- Tiles of maps of base zoom 0, as a reader sees them.
use Rattle.std.proofs.Common.{◌≡◌, ℕ, List, [], ◌∷◌, ◌+◌, length, refl, ap, ◌∙◌, set, false}
use Rattle.std.specs.Prelude.{Ok, Err, slice_range}
use Rattle.mf_base.specs.Steps.{◌>>=◌, told_as}
use Rattle.map_model.specs.HeaderReading.{Header, read_header}
use Rattle.map_model.specs.TileReading.{tile_fault_at, read_tile_from, read_tile}
use Rattle.map_model.specs.declared.fault.TileKind.{TileKind}
use Rattle.map_model.specs.Listing.{ShowFault, Band, IndexEntry, band_of, index_entry_at, tile_end, show_tile, show}
use Rattle.map_model.specs.Listing.{listing}
use Rattle.map_model.specs.Samples.{world_corner, world_tile, settings_to, degree_box, bench_tags, bench_map, empty_map}
use Rattle.map_model.specs.Samples.{listed_bench}
use Rattle.map_model.proofs.World.{corner-world, tile_rect-zero}
use Rattle.map_model.proofs.Compute.{compute}

abbrev bench_header : Header
bench_header = record {
  bounds = degree_box;
  date = 1700000000000;
  intervals = (settings_to 7).intervals;
  subs = record { start = 110; size = 34 } ∷ [];
  names = bench_tags;
}

abbrev bench_band : Band
bench_band = record {
  interval = (world_tile 7).interval;
  sub = record { start = 110; size = 34 };
  span = record { z = 0; first_x = 0; last_x = 0; first_y = 0; last_y = 0 };
}

bench_band-is : band_of bench_header 0 ≡ Ok bench_band
unfolding band_of
bench_band-is = rw (tile_rect-zero degree_box) refl

shown : (file : List ℕ) (x y : ℕ) → read_header (length file) file ≡ Ok bench_header
    → show file 0 x y ≡ show_tile file bench_header bench_band 0 x y
unfolding show
shown file x y head = rw (head, bench_band-is) refl

tile_shown : (file : List ℕ) (e : IndexEntry) → index_entry_at file bench_band 0 0 ≡ Ok e
    → show_tile file bench_header bench_band 0 0 0
    ≡ (told_as ShowFault.tile (read_tile_from world_corner bench_tags (world_tile 7).interval
    (slice_range file (110 + e.offset) (110 + 34)))
    >>= λ records. Ok (record { water = e.water; records = records }))
unfolding show_tile tile_end read_tile
tile_shown file e entry = rw (entry, corner-world) refl

pub tile_listing : listing bench_map 0 0 0 ≡ Ok (listed_bench ∷ [])
unfolding compute
tile_listing = ap (λ s. s >>= λ one. Ok one.records) (shown bench_map 0 0 refl
    ∙ tile_shown bench_map (record { water = false; offset = 5 }) refl)

pub no_such_tile : show bench_map 0 1 0 ≡ Err ShowFault.no_tile
unfolding compute
no_such_tile = shown bench_map 1 0 refl

pub before_index_end : show (set bench_map 114 0x04) 0 0 0 ≡ Err (ShowFault.index 110)
unfolding compute
before_index_end = shown (set bench_map 114 0x04) 0 0 refl

pub past_sub_file : show (set bench_map 114 0x23) 0 0 0 ≡ Err (ShowFault.index 110)
unfolding compute
past_sub_file = shown (set bench_map 114 0x23) 0 0 refl

pub wrong_offset : show (set bench_map 114 0x06) 0 0 0 ≡ Err (ShowFault.tile (tile_fault_at 16 TileKind.Offset))
unfolding compute
wrong_offset = shown (set bench_map 114 0x06) 0 0 refl
    ∙ tile_shown (set bench_map 114 0x06) (record { water = false; offset = 6 }) refl

pub bad_way_offset : show (set bench_map 131 0x0D) 0 0 0 ≡ Err (ShowFault.tile (tile_fault_at 16 TileKind.Offset))
unfolding compute
bad_way_offset = shown (set bench_map 131 0x0D) 0 0 refl
    ∙ tile_shown (set bench_map 131 0x0D) (record { water = false; offset = 5 }) refl

-- ---- the map without features

abbrev empty_header : Header
empty_header = record bench_header { subs = record { start = 110; size = 5 } ∷ [] }

abbrev empty_band : Band
empty_band = record bench_band { sub = record { start = 110; size = 5 } }

empty_band-is : band_of empty_header 0 ≡ Ok empty_band
unfolding band_of
empty_band-is = rw (tile_rect-zero degree_box) refl

empty_shown : read_header 115 empty_map ≡ Ok empty_header
    → show empty_map 0 0 0 ≡ show_tile empty_map empty_header empty_band 0 0 0
unfolding show
empty_shown head = rw (head, empty_band-is) refl

pub empty_listing : listing empty_map 0 0 0 ≡ Ok []
unfolding compute
empty_listing = ap (λ s. s >>= λ one. Ok one.records) (empty_shown refl)

pub ruleset listing_rows =
    (tile_listing, no_such_tile, before_index_end, past_sub_file, wrong_offset, bad_way_offset, empty_listing)
