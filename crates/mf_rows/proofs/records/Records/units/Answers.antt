use Rattle.std.proofs.Common.{◌<◌, length, vec_capacity}
use Rattle.mf_rows.proofs.KeptLaws.{below-kept, at-within, at-head, at-spelled, at-counted}
use Rattle.mf_rows.proofs.records.Records.units.Goals as goal

pub units_of-requires : goal.units_of-requires
units_of-requires c =
    let s = c.self.inside in
    let v = c.self.invariant in
    let below : c.args.i < length s.kept.items =
    below-kept s.units.items s.kept.items s.closed (vec_capacity s.units) c.args.self.now v.0 v.1 c.self.view_is
    c.args.i c.requires in
    rw c.deref.ensures.value
    (at-within s.units.items s.kept.items s.closed (vec_capacity s.units) c.args.self.now v.0 v.1 c.self.view_is
    c.args.i c.index.result.now below c.index.ensures)

pub returns-clause-spelled : goal.returns-clause-spelled
returns-clause-spelled c =
    let s = c.self.inside in
    let v = c.self.invariant in
    let below : c.args.i < length s.kept.items =
    below-kept s.units.items s.kept.items s.closed (vec_capacity s.units) c.args.self.now v.0 v.1 c.self.view_is
    c.args.i c.requires in
    rw (c.units_of.ensures, c.deref.ensures.value)
    (at-spelled s.units.items s.kept.items s.closed (vec_capacity s.units) c.args.self.now v.0 v.1 c.self.view_is
    c.args.i c.index.result.now below c.index.ensures)

pub returns-clause-first : goal.returns-clause-first
returns-clause-first c =
    let s = c.self.inside in
    let v = c.self.invariant in
    let below : c.args.i < length s.kept.items =
    below-kept s.units.items s.kept.items s.closed (vec_capacity s.units) c.args.self.now v.0 v.1 c.self.view_is
    c.args.i c.requires in
    rw (c.units_of.ensures, c.deref.ensures.value)
    (at-head s.units.items s.kept.items s.closed (vec_capacity s.units) c.args.self.now v.0 v.1 c.self.view_is
    c.args.i c.index.result.now below c.index.ensures)

pub returns-clause-many : goal.returns-clause-many
returns-clause-many c =
    let s = c.self.inside in
    let v = c.self.invariant in
    let below : c.args.i < length s.kept.items =
    below-kept s.units.items s.kept.items s.closed (vec_capacity s.units) c.args.self.now v.0 v.1 c.self.view_is
    c.args.i c.requires in
    rw (c.units_of.ensures, c.deref.ensures.value)
    (at-counted s.units.items s.kept.items s.closed (vec_capacity s.units) c.args.self.now v.0 v.1 c.self.view_is
    c.args.i c.index.result.now below c.index.ensures)
