use Rattle.std.proofs.Common.{◌≡◌, ◌≤◌, ◌<◌, ◌∙◌, ap, sym, subst, length, vec_capacity, drop, Some}
use Rattle.std.specs.Prelude.{IsSome, take}
use Rattle.std.specs.List.{AllByRecursion}
use Rattle.mf_rows.specs.Records.{LiesIn, drawn_parts}
use Rattle.mf_rows.specs.RecordUnits.{bytes_in, spans_from, slot_sizes}
use Rattle.mf_rows.specs.Told.{units_at, head_told, record_told}
use Rattle.mf_rows.proofs.KeptLaws.{below-kept, at-within, at-head, at-told, at-record}
use Rattle.mf_rows.proofs.records.Records.view.Goals as goal

pub units_of-requires : goal.units_of-requires
units_of-requires c =
    let s = c.self.inside in
    let v = c.self.invariant in
    let below : c.args.i < length s.kept.items =
    below-kept s.units.items s.kept.items s.closed (vec_capacity s.units) c.args.self.now v.0 v.1 c.self.view_is
    c.args.i c.requires in
    rw c.deref.ensures.value
    (at-within s.units.items s.kept.items s.closed (vec_capacity s.units) c.args.self.now v.0 v.1 c.self.view_is
    c.args.i c.index-kept.result.now below c.index-kept.ensures)

pub split_at-requires : goal.split_at-requires
split_at-requires c =
    let s = c.self.inside in
    let v = c.self.invariant in
    let below : c.args.i < length s.kept.items =
    below-kept s.units.items s.kept.items s.closed (vec_capacity s.units) c.args.self.now v.0 v.1 c.self.view_is
    c.args.i c.requires in
    rw (c.units_of.ensures, c.deref.ensures.value)
    (at-head s.units.items s.kept.items s.closed (vec_capacity s.units) c.args.self.now v.0 v.1 c.self.view_is
    c.args.i c.index-kept.result.now below c.index-kept.ensures)

pub lend-requires-clause-room : goal.lend-requires-clause-room
lend-requires-clause-room c =
    let s = c.self.inside in
    let v = c.self.invariant in
    let k = c.index-kept.result.now in
    let below : c.args.i < length s.kept.items =
    below-kept s.units.items s.kept.items s.closed (vec_capacity s.units) c.args.self.now v.0 v.1 c.self.view_is
    c.args.i c.requires in
    let told = at-told s.units.items s.kept.items s.closed (vec_capacity s.units) c.args.self.now v.0 v.1 c.self.view_is
    c.args.i k below c.index-kept.ensures in
    let rest : c.split_at.result.1.now ≡ drop 10 (units_at s.units.items k) =
    c.split_at.ensures.back ∙ ap (drop 10) (c.units_of.ensures ∙ ap (λ us. units_at us k) c.deref.ensures.value) in
    subst (λ us. k.told.texts ≤ length us) (sym rest) told.room

pub lend-requires-clause-lies : goal.lend-requires-clause-lies
lend-requires-clause-lies c =
    let s = c.self.inside in
    let v = c.self.invariant in
    let k = c.index-kept.result.now in
    let below : c.args.i < length s.kept.items =
    below-kept s.units.items s.kept.items s.closed (vec_capacity s.units) c.args.self.now v.0 v.1 c.self.view_is
    c.args.i c.requires in
    let told = at-told s.units.items s.kept.items s.closed (vec_capacity s.units) c.args.self.now v.0 v.1 c.self.view_is
    c.args.i k below c.index-kept.ensures in
    let rest : c.split_at.result.1.now ≡ drop 10 (units_at s.units.items k) =
    c.split_at.ensures.back ∙ ap (drop 10) (c.units_of.ensures ∙ ap (λ us. units_at us k) c.deref.ensures.value) in
    subst (λ us. AllByRecursion (LiesIn (length (bytes_in (take k.told.texts us))))
    (spans_from 0 (slot_sizes (head_told k.told)))) (sym rest) told.lies

pub lend-requires-clause-drawn : goal.lend-requires-clause-drawn
lend-requires-clause-drawn c =
    let s = c.self.inside in
    let v = c.self.invariant in
    let k = c.index-kept.result.now in
    let below : c.args.i < length s.kept.items =
    below-kept s.units.items s.kept.items s.closed (vec_capacity s.units) c.args.self.now v.0 v.1 c.self.view_is
    c.args.i c.requires in
    let told = at-told s.units.items s.kept.items s.closed (vec_capacity s.units) c.args.self.now v.0 v.1 c.self.view_is
    c.args.i k below c.index-kept.ensures in
    let rest : c.split_at.result.1.now ≡ drop 10 (units_at s.units.items k) =
    c.split_at.ensures.back ∙ ap (drop 10) (c.units_of.ensures ∙ ap (λ us. units_at us k) c.deref.ensures.value) in
    subst (λ us. IsSome (drawn_parts k.told.head.kind (drop k.told.texts us))) (sym rest) told.drawn

pub returns : goal.returns
returns c =
    let s = c.self.inside in
    let v = c.self.invariant in
    let k = c.index-kept.result.now in
    let below : c.args.i < length s.kept.items =
    below-kept s.units.items s.kept.items s.closed (vec_capacity s.units) c.args.self.now v.0 v.1 c.self.view_is
    c.args.i c.requires in
    let rest : c.split_at.result.1.now ≡ drop 10 (units_at s.units.items k) =
    c.split_at.ensures.back ∙ ap (drop 10) (c.units_of.ensures ∙ ap (λ us. units_at us k) c.deref.ensures.value) in
    ap Some (c.lend.ensures ∙ ap (record_told k.told) rest)
    ∙ at-record s.units.items s.kept.items s.closed (vec_capacity s.units) c.args.self.now v.0 v.1 c.self.view_is
    c.args.i k below c.index-kept.ensures
