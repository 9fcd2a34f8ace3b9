use Rattle.tile_assign.proofs.Meeting.{meets-one, meets-both, meets-none}
use Rattle.tile_assign.proofs.laws.tiles_of_box_and_feature.Goals as goal

pub returns : goal.returns
returns c = record { one = meets-one; both = meets-both; none = meets-none }
