use Rattle.std.proofs.Common.{◌∷◌, []}
use Rattle.std.specs.Prelude.{codes}
use Rattle.map_model.specs.MapFile.{report_line, worded}
use Rattle.run_texts.proofs.Putting.{puts-five, puts-behind}
use Rattle.run_texts.proofs.report.put_report.Goals as goal

pub returns-clause-appends : goal.returns-clause-appends
unfolding report_line
returns-clause-appends c =
    let r = c.args.report.now in
    puts-behind _ _ _ _ _ _ _ _ (worded (codes " tiles") r.tiles) (worded (codes " water") r.water)
    (worded (codes " bytes") r.bytes) (worded (codes " largest") r.largest) (10 ∷ [])
    (puts-five _ _ _ _ _ _ (worded (codes "nodes") r.nodes) (worded (codes " ways") r.ways)
    (worded (codes " relations") r.relations) (worded (codes " features") r.features)
    (worded (codes " skipped") r.skipped)
    c.put_worded.ensures.appends c.put_worded-2.ensures.appends c.put_worded-3.ensures.appends
    c.put_worded-4.ensures.appends c.put_worded-5.ensures.appends)
    c.put_worded-6.ensures.appends c.put_worded-7.ensures.appends c.put_worded-8.ensures.appends
    c.put_worded-9.ensures.appends c.put.ensures
