use Rattle.std.proofs.Common.{◌-◌, ap}
use Rattle.mf_rows.specs.Records.{Record}
use Rattle.mf_rows.specs.Changes.{TakesPart}
use Rattle.mf_rows.proofs.LastRecord.{last-of}
use Rattle.mf_rows.proofs.records.Records.takes_part.Goals as goal

pub returns : goal.returns
returns c =
    let records = c.args.self.now.records in
    let last = last-of (λ (r : Record). TakesPart c.args.role r.head.kind r.parts) records (c.len.result - 1)
    c.view.result (ap (λ n. n - 1) c.len.ensures) c.view.ensures in
    (λ holds. last.1 (c.part_fits.ensures.0 holds), λ holds. c.part_fits.ensures.1 (last.0 holds))
