use Rattle.std.proofs.Common.{◌≡◌, ◌<◌, ◌∙◌, ap, arith, length, w32}
use Rattle.std.specs.Prelude.{pos}
use Rattle.std.specs.Int.{cast_signed}
use Rattle.map_model.specs.Mercator.{north_lat}
use Rattle.mercator_rows.proofs.Found.{edges-at}
use Rattle.mercator_rows.proofs.Signed.{again_32}
use Rattle.mercator_rows.proofs.Corners.{north_lat-le}
use Rattle.mercator_rows.proofs.rows.Rows.edge.Goals as goal

pub overflow_cast-result : goal.overflow_cast-result
overflow_cast-result c =
    let inside : c.args.k < length c.self.inside.edges.items = omega (arith, c.requires, c.self.invariant.count) in
    record {
      sfits = omega (
        arith,
        c.index.ensures,
        edges-at c.self.inside.edges.items c.args.k c.index.result.now
            c.self.invariant inside,
        north_lat-le c.args.k,
      );
    }

pub returns : goal.returns
returns c =
    let inside : c.args.k < length c.self.inside.edges.items = omega (arith, c.requires, c.self.invariant.count) in
    let is : c.index.result.now ≡ north_lat c.args.k =
    c.index.ensures ∙ edges-at c.self.inside.edges.items c.args.k c.index.result.now c.self.invariant inside in
    ap (cast_signed w32) is ∙ again_32 (pos (north_lat c.args.k)) (omega (arith, north_lat-le c.args.k))
