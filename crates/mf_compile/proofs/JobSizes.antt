-- What bounds the work of the passes is within the size of the job.
use Rattle.std.proofs.Common.{◌+◌, ◌≤◌, ℕ, List, [], ◌∷◌, Option, Some, None, arith, length}
use Rattle.std.specs.Prelude.{map, filter_map, option_map, sum_by}
use Rattle.std.specs.List.{cons_option}
use Rattle.std.proofs.lemmas.List.Sums.{sum_by-cons}
use Rattle.mf_base.specs.declared.place.Rect.{Rect}
use Rattle.osm_model.specs.Entities.{Entity}
use Rattle.feature_model.specs.Mapping.{Mapping}
use Rattle.feature_model.specs.Candidates.{Candidate, candidates}
use Rattle.feature_model.specs.Weights.{weight}
use Rattle.feature_model.specs.Features.{Shape, Feature, shape, shaped, feature_of, features}
use Rattle.map_model.specs.Header.{HeadSettings}
use Rattle.mf_layout.specs.Layouts.{layout_size}
use Rattle.map_model.specs.MapFile.{shape_size, job_size, all_tiles, tile_weight}

abbrev weights : List Feature → ℕ
weights fs = sum_by (λ (f : Feature). f.weight) fs

one-light : (c : Candidate) (o : Option Shape) (cs : List (Candidate × Shape))
    → weights (map feature_of (cons_option (option_map (λ s. (c, s)) o) cs)) ≤ weight c + weights (map feature_of cs)
one-light c None cs = omega arith
one-light c (Some s) cs = omega (arith, sum_by-cons (λ (f : Feature). f.weight) (feature_of (c, s)) (map feature_of cs))

all-light : (cs : List Candidate) → weights (map feature_of (filter_map shaped cs)) ≤ sum_by weight cs
all-light [] = omega arith
all-light (c ∷ cs) =
    omega (arith, one-light c (shape c) (filter_map shaped cs), all-light cs, sum_by-cons weight c cs)

-- features weigh no more than candidates
features-light : (mapping : Mapping) (entities : List Entity)
    → weights (features mapping entities) ≤ sum_by weight (candidates mapping entities)
unfolding features
features-light mapping entities = all-light (candidates mapping entities)

pub shape-within : (set : HeadSettings) (mapping : Mapping) (box : Rect) (entities : List Entity)
    → shape_size mapping entities ≤ job_size set mapping box entities
unfolding job_size
shape-within set mapping box entities = omega arith

pub layout-within : (set : HeadSettings) (mapping : Mapping) (box : Rect) (entities : List Entity)
    → sum_by (λ (f : Feature). f.weight) (features mapping entities) + length (all_tiles set box)
    + sum_by (tile_weight (features mapping entities)) (all_tiles set box) ≤ job_size set mapping box entities
unfolding job_size shape_size
layout-within set mapping box entities = omega (arith, features-light mapping entities)

pub tiles-within : (set : HeadSettings) (mapping : Mapping) (box : Rect) (entities : List Entity)
    → length (all_tiles set box) + sum_by (tile_weight (features mapping entities)) (all_tiles set box)
    ≤ job_size set mapping box entities
unfolding job_size
tiles-within set mapping box entities = omega arith

pub size-within : (set : HeadSettings) (mapping : Mapping) (box : Rect) (entities : List Entity)
    → layout_size set box (features mapping entities) ≤ job_size set mapping box entities
unfolding layout_size
size-within set mapping box entities = layout-within set mapping box entities
