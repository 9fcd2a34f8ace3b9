use Rattle.std.proofs.Common.{◌<◌, ap, length, vec_capacity}
use Rattle.std.specs.Prelude.{option_map}
use Rattle.mf_rows.specs.Records.{Record}
use Rattle.mf_rows.proofs.KeptLaws.{below-kept, at-record}
use Rattle.mf_rows.proofs.records.Records.head.Goals as goal

pub returns : goal.returns
returns c =
    let s = c.self.inside in
    let v = c.self.invariant in
    let k = c.index.result.now in
    let below : c.args.i < length s.kept.items =
    below-kept s.units.items s.kept.items s.closed (vec_capacity s.units) c.args.self.now v.0 v.1 c.self.view_is
    c.args.i c.requires in
    ap (option_map (λ (r : Record). r.head))
    (at-record s.units.items s.kept.items s.closed (vec_capacity s.units) c.args.self.now v.0 v.1 c.self.view_is
    c.args.i k below c.index.ensures)
