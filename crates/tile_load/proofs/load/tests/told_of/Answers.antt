use Rattle.tile_load.proofs.load.tests.told_of.Goals as goal

pub next-requires-clause-reading : goal.next-requires-clause-reading
next-requires-clause-reading g c =
    c.start-reader.ensures.reading c.args.page.now (g.P.Spill.state c.args.spill.now) c.requires.held
