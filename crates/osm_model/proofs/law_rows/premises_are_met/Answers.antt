use Rattle.osm_model.proofs.LawRows.{bench-bytes, other-passes, header-leads, bench-leads, bench-sound, bench-reads}
use Rattle.osm_model.proofs.law_rows.premises_are_met.Goals as goal

pub returns-clause-bytes : goal.returns-clause-bytes
returns-clause-bytes c = bench-bytes

pub returns-clause-passes : goal.returns-clause-passes
returns-clause-passes c = other-passes

pub returns-clause-leads : goal.returns-clause-leads
returns-clause-leads c = header-leads

pub returns-clause-leads_on : goal.returns-clause-leads_on
returns-clause-leads_on c = bench-leads

pub returns-clause-blobs : goal.returns-clause-blobs
returns-clause-blobs c = bench-sound

pub returns-clause-reads : goal.returns-clause-reads
returns-clause-reads c = bench-reads
