use Rattle.std.proofs.Common.{rules, ◌∙◌}
use Rattle.spill_parts.proofs.Spelled.{rows_put}
use Rattle.spill_parts.proofs.writer.Writer.put_all.Goals as goal

pub returns-clause-put : goal.returns-clause-put
returns-clause-put g c =
    rows_put g.K.RowKind.kind g.met.K.RowKind.laws.long c.args.rows.now c.args.self.now c.add_all.new.self
    c.number.result c.front.result.now (g.P.Spill.state c.args.spill.now) (g.P.Spill.state c.append.new.self)
    (search rules) (search rules) (search rules) c.requires.held (c.front.ensures ∙ c.spell-n.ensures.bytes)
    c.in_ok-append.ensures.appended c.append.ensures.only.same.tells
