use Rattle.std.proofs.Common.{arith, sym, ap, subst}
use Rattle.mf_base.specs.Buffer.{Buffer}
use Rattle.mf_edge.specs.Device.{Gained, GainedFront}
use Rattle.map_header.specs.Shown.{settings_of}
use Rattle.mf_layout.specs.SubFiles.{Fit, sub_files_told}
use Rattle.mf_layout.proofs.Answered.{on_err}
use Rattle.mf_layout.proofs.Mapped.{head-bytes, map-put, map-front, head-front, whole-part, fit-told, five-bytes}
use Rattle.mf_layout.proofs.emit.emit.Goals as goal

pub returns-in_err-flush-clause-front : goal.returns-in_err-flush-clause-front
returns-in_err-flush-clause-front g c = on_err c.from_residual.result (λ all told holds.
    let set = settings_of c.args.set.now in
    let names = g.T.TagSource.names c.args.tags.now in
    let box = c.args.bounds.now in
    let head = head-bytes set names box c.clear.new.self c.put_head.new.out c.deref.result.now c.args.subs.sizes.items
    (ap (λ (b : Buffer). b.bytes) c.clear.ensures) c.put_head.ensures c.deref.ensures.0 in
    head-front _ _ set names box all c.args.subs (g.P.Spill.state c.args.spill.now) holds
    (subst (λ bs. GainedFront (g.K.Sink.state c.args.out.now) bs (g.K.Sink.state c.flush.new.out)) head
    c.in_err-flush.ensures.front))

pub put_sub_files-requires-clause-reading : goal.put_sub_files-requires-clause-reading
put_sub_files-requires-clause-reading g c =
    c.start-rows.ensures.reading c.args.page.now (g.P.Spill.state c.args.spill.now) c.requires.index

pub put_sub_files-requires-clause-whole : goal.put_sub_files-requires-clause-whole
put_sub_files-requires-clause-whole g c = λ told.
    let found = c.requires.found told in
    whole-part _ found.0 c.args.subs (g.P.Spill.state c.args.spill.now) c.requires.subs found.1

pub put_sub_files-requires-clause-fits : goal.put_sub_files-requires-clause-fits
put_sub_files-requires-clause-fits g c = λ told.
    let found = c.requires.found told in
    let fit = fit-told found.0 c.args.subs (g.P.Spill.state c.args.spill.now) found.1 in
    subst (Fit c.deref-2.result.now) (sym c.start-rows.ensures.left)
    (subst (λ sizes. Fit sizes c.args.subs.index.rows) (sym c.deref-2.ensures.0) fit)

pub put_sub_files-requires-clause-room : goal.put_sub_files-requires-clause-room
put_sub_files-requires-clause-room g c =
    let e = c.clear.ensures in
    let h = c.put_head.ensures in
    let f = c.flush.ensures.capacity in
    omega (
      arith,
      five-bytes (settings_of c.args.set.now) (g.T.TagSource.names c.args.tags.now),
      c.requires.room,
      ap (λ (b : Buffer). b.capacity) e,
      ap (λ (b : Buffer). b.capacity) h,
      f,
    )

pub returns-in_err-put_sub_files-clause-front : goal.returns-in_err-put_sub_files-clause-front
returns-in_err-put_sub_files-clause-front g c = on_err c.from_residual-in_err-put_sub_files.result (λ all told holds.
    let set = settings_of c.args.set.now in
    let names = g.T.TagSource.names c.args.tags.now in
    let box = c.args.bounds.now in
    let store = g.P.Spill.state c.args.spill.now in
    let tiles = store.bytes c.args.subs.tiles.part in
    let head = head-bytes set names box c.clear.new.self c.put_head.new.out c.deref.result.now c.args.subs.sizes.items
    (ap (λ (b : Buffer). b.bytes) c.clear.ensures) c.put_head.ensures c.deref.ensures.0 in
    map-front _ _ _ set names box all c.args.subs store holds
    (subst (λ bs. Gained (g.K.Sink.state c.args.out.now) bs (g.K.Sink.state c.flush.new.out)) head
    c.in_ok-flush.ensures.all)
    (subst (λ bs. GainedFront (g.K.Sink.state c.flush.new.out) bs (g.K.Sink.state c.put_sub_files.new.out))
    (λ i. sub_files_told (c.deref-2.ensures.0 i) (c.start-rows.ensures.left i) tiles)
    (c.in_err-put_sub_files.ensures.front told)))

pub returns-clause-ok : goal.returns-clause-ok
returns-clause-ok g c = λ all told holds.
    let set = settings_of c.args.set.now in
    let names = g.T.TagSource.names c.args.tags.now in
    let box = c.args.bounds.now in
    let store = g.P.Spill.state c.args.spill.now in
    let tiles = store.bytes c.args.subs.tiles.part in
    let head = head-bytes set names box c.clear.new.self c.put_head.new.out c.deref.result.now c.args.subs.sizes.items
    (ap (λ (b : Buffer). b.bytes) c.clear.ensures) c.put_head.ensures c.deref.ensures.0 in
    map-put _ _ _ set names box all c.args.subs store holds
    (subst (λ bs. Gained (g.K.Sink.state c.args.out.now) bs (g.K.Sink.state c.flush.new.out)) head
    c.in_ok-flush.ensures.all)
    (subst (λ bs. Gained (g.K.Sink.state c.flush.new.out) bs (g.K.Sink.state c.put_sub_files.new.out))
    (λ i. sub_files_told (c.deref-2.ensures.0 i) (c.start-rows.ensures.left i) tiles)
    (c.in_ok-put_sub_files.ensures.all told))
