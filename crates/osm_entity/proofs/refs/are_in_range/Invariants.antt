use Rattle.std.proofs.Common.{◌≡◌, true, length, pos}
use Rattle.mf_base.specs.Packed.{are_varints, packed_numbers}
use Rattle.osm_entity.specs.Sums.{are_signed}
use Rattle.osm_entity.proofs.refs.are_in_range.Given as goal

-- the sums before are in range
abbrev pub invariant-loop-difference : goal.invariant-loop-difference
invariant-loop-difference l = record {
  same : are_signed (pos 0) l.differences ≡ are_signed l.sum l.rest;
  whole : are_varints l.rest ≡ true;
}

abbrev pub decreases-loop-difference : goal.decreases-loop-difference
decreases-loop-difference l = length (packed_numbers l.rest)
