use Rattle.spill_parts.proofs.uses.copy.Goals as goal

pub copy_rest-requires-clause-reading : goal.copy_rest-requires-clause-reading
copy_rest-requires-clause-reading g c =
    c.start-reader.ensures.reading c.args.page.now (g.P.Spill.state c.make.new.spill)
    (c.in_ok-to.ensures.kept _ c.requires.held)
