use Rattle.std.proofs.Common.{◌+◌, ◌≤◌, arith, length}
use Rattle.mf_layout.proofs.Stretches.{stretch-length, none-put}
use Rattle.mf_layout.proofs.tiles_out.put_piece.Goals as goal

pub returns-in_default-clause-front : goal.returns-in_default-clause-front
returns-in_default-clause-front g c = λ told.
    let bytes = (g.P.Spill.state c.args.spill.now).bytes c.args.part.now.part in
    let fits : c.args.at + c.args.n ≤ length bytes = omega (arith, c.requires.range, c.requires.whole told) in
    none-put (g.K.Sink.state c.args.out.now).taken _
    (omega (arith, c.requires.some, stretch-length bytes c.args.at c.args.n fits))
