use Rattle.std.proofs.Common.{refl}
use Rattle.map_model.specs.Mercator.{raw_lat, tangent_at}
use Rattle.mercator_rows.proofs.latitude.Roots.latitude.Goals as goal

pub returns : goal.returns
unfolding raw_lat tangent_at
returns c = rw (c.from.ensures, c.arc_tangent-angle.ensures.value, c.tangent.ensures.value, c.scale.ensures.value) refl
