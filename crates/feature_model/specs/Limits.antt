-- The limit on the weight of a candidate: this project's profile.
use Rattle.std.specs.Prelude.{ℕ, nat_lt, max, map, fold, List, find, Option, option_map}
use Rattle.osm_model.specs.Entities.{Entity}
use Rattle.feature_model.specs.declared.fault.LimitFault.{LimitFault}
use Rattle.feature_model.specs.Mapping.{Mapping}
use Rattle.feature_model.specs.Candidates.{Candidate, candidates}
use Rattle.feature_model.specs.Weights.{weight}

-- the fault of a candidate over the limit
abbrev pub candidate_over : Candidate → LimitFault
candidate_over c = LimitFault.Feature c.description.kind c.description.id (weight c)

-- The first candidate that weighs more than the limit, even where it gives no feature.
unfoldable pub candidate_fault : ℕ → Mapping → List Entity → Option LimitFault
candidate_fault limit mapping entities =
    option_map candidate_over (find (λ c. nat_lt limit (weight c)) (candidates mapping entities))

-- the greatest weight of all candidates, or 0
unfoldable pub largest_candidate : Mapping → List Entity → ℕ
largest_candidate mapping entities = fold max 0 (map weight (candidates mapping entities))
