use Rattle.mf_ingest.proofs.sample.are_units.Goals as goal

pub loop-row-init : goal.loop-row-init
loop-row-init g c = record {
  started = c.requires.started;
  reading = c.start-reader.ensures.reading c.args.page.now (g.P.Spill.state c.args.spill.now) c.requires.held;
  there = λ p is. is;
}
