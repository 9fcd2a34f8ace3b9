-- Tags that are all the same: a header's tags in tests.
use Rattle.std.proofs.Common.{◌≡◌, ℕ, ◌<◌, List, [], ◌∷◌, ◌++◌, length, ap, ◌∙◌, arith}
use Rattle.std.specs.Prelude.{codes, replicate}
use Rattle.std.proofs.lemmas.List.{get_or-replicate, length-replicate}
use Rattle.mf_base.specs.declared.kind.List as kinds
use Rattle.mf_base.specs.declared.kind.List.TheVariants.{Poi, Way}
use Rattle.mf_base.specs.Spelling.{string}
use Rattle.mf_base.proofs.OneSpelling.{vbe-small}
use Rattle.map_model.specs.TagLists.{TagLists, tag_at}
use Rattle.map_header.specs.Shown.{tags_in}

-- so many benches for POIs and for ways
abbrev pub benches : ℕ → ℕ → TagLists
benches poi way = record { poi = replicate poi (codes "amenity=bench"); way = replicate way (codes "amenity=bench") }

pub poi_count : (poi way : ℕ) → length (tags_in Poi (benches poi way)) ≡ poi
poi_count poi way = length-replicate poi (codes "amenity=bench")

pub way_count : (poi way : ℕ) → length (tags_in Way (benches poi way)) ≡ way
way_count poi way = length-replicate way (codes "amenity=bench")

tag-is : (list : kinds.List) (poi way i : ℕ) → i < length (tags_in list (benches poi way))
    → tag_at (tags_in list (benches poi way)) i ≡ codes "amenity=bench"
tag-is Poi poi way i lt = get_or-replicate poi i (codes "amenity=bench") [] (omega (arith, lt, poi_count poi way))
tag-is Way poi way i lt = get_or-replicate way i (codes "amenity=bench") [] (omega (arith, lt, way_count poi way))

string-is : string (codes "amenity=bench") ≡ 13 ∷ codes "amenity=bench"
unfolding string
string-is = ap (λ (l : List ℕ). l ++ codes "amenity=bench") (vbe-small 128 0 13 (omega arith))

-- each has this string, of 14 bytes
pub bench-string : (list : kinds.List) (poi way i : ℕ) → i < length (tags_in list (benches poi way))
    → string (tag_at (tags_in list (benches poi way)) i) ≡ 13 ∷ codes "amenity=bench"
bench-string list poi way i lt = ap string (tag-is list poi way i lt) ∙ string-is
