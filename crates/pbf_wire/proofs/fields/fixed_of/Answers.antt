use Rattle.std.proofs.Common.{le-leb, length, refl, take, zero-add}
use Rattle.pbf_wire.proofs.fields.fixed_of.Goals as goal

pub returns-clause-front : goal.returns-clause-front
returns-clause-front c kind shows = (
  kind (take c.args.count c.args.bytes.now),
  shows (take c.args.count c.args.bytes.now),
  rw (zero-add c.args.count) (rw (le-leb c.args.count (length c.args.bytes.now) c.if-bytes-count.false) refl),
)
