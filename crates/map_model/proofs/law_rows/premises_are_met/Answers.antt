use Rattle.map_model.proofs.LawRows.{settings-are, mapping-is, bench-written, bench-writable, bench-stands}
use Rattle.map_model.proofs.LawRows.{tiles-follow}
use Rattle.map_model.proofs.law_rows.premises_are_met.Goals as goal

pub returns-clause-settings : goal.returns-clause-settings
returns-clause-settings c = settings-are

pub returns-clause-mapping : goal.returns-clause-mapping
returns-clause-mapping c = mapping-is

pub returns-clause-written : goal.returns-clause-written
returns-clause-written c = bench-written

pub returns-clause-writable : goal.returns-clause-writable
returns-clause-writable c = bench-writable

pub returns-clause-stands : goal.returns-clause-stands
returns-clause-stands c = bench-stands

pub returns-clause-tiles : goal.returns-clause-tiles
returns-clause-tiles c = tiles-follow
