use Rattle.std.proofs.Common.{w32, subst, sym, FitsSigned}
use Rattle.std.proofs.lemmas.Int.{to_z-of_z}
use Rattle.map_model.specs.Mercator.{corner_lon}
use Rattle.mercator_rows.proofs.Signed.{western, corner_lon-fits}
use Rattle.mercator_rows.proofs.rows.western_edge.Goals as goal

pub overflow_cast-result : goal.overflow_cast-result
overflow_cast-result c =
    subst (FitsSigned w32)
    (sym (western c.args.z c.args.x c.from.result c.from-columns.result c.requires.zoom c.requires.x c.from.ensures
    c.from-columns.ensures)) (corner_lon-fits c.args.z c.args.x c.requires.x)

pub returns : goal.returns
returns c =
    rw (western c.args.z c.args.x c.from.result c.from-columns.result c.requires.zoom c.requires.x c.from.ensures
    c.from-columns.ensures)
    (to_z-of_z w32 (corner_lon c.args.z c.args.x) (corner_lon-fits c.args.z c.args.x c.requires.x))
