use Rattle.std.proofs.Common.{◌≡◌, ℕ, ◌∙◌, Some, None, Err, sym, ap, subst, arith}
use Rattle.std.specs.Prelude.{IsErrAnd}
use Rattle.std.specs.List.{AllByRecursion}
use Rattle.mf_rows.specs.declared.desk.Desk.{Desk}
use Rattle.job_words.specs.Shown.{settings_of}
use Rattle.mf_compile.proofs.Rooms.{rooms-paged, rooms-kept, rooms-count}
use Rattle.feature_model.specs.Features.{features}
use Rattle.mf_compile.proofs.JobSizes.{shape-within, size-within}
use Rattle.feature_model.specs.Limits.{candidate_fault}
use Rattle.map_model.specs.MapFile.{layout_fault}
use Rattle.mf_compile.specs.declared.fault.Fault.{Fault}
use Rattle.mf_compile.specs.Faults.{shape_told, layout_told}
use Rattle.mf_compile.proofs.Limits.{limit-of_candidate, limit-of_layout, shape-limit, laying-limit}
use Rattle.spill_parts.specs.Shaped.{IsShapeOf}
use Rattle.mf_layout.specs.Layouts.{IsLayoutOf}
use Rattle.mf_layout.specs.SubFiles.{bytes_in}
use Rattle.mf_compile.proofs.LaidOut.{features-are, laid-told}
use Rattle.mf_compile.proofs.lay_out.lay_out.Goals as goal

pub shape_first-requires-clause-rooms : goal.shape_first-requires-clause-rooms
shape_first-requires-clause-rooms g c =
    rooms-paged c.args.settings.now.workers c.args.settings.now.rows c.args.desks.now c.args.page.now c.requires.rooms

pub returns-in_err-shapes-clause-steps : goal.returns-in_err-shapes-clause-steps
returns-in_err-shapes-clause-steps g c entities is told =
    let job = settings_of c.args.settings.now in
    let within = shape-within job.head job.mapping c.args.bounds.now entities in
    let steps = c.shape_first.ensures.size job.mapping entities is c.requires.no_ways in omega (arith, within, steps)

pub returns-in_err-shapes-clause-rooms : goal.returns-in_err-shapes-clause-rooms
returns-in_err-shapes-clause-rooms g c =
    rooms-kept c.args.settings.now.workers c.args.settings.now.rows c.args.desks.now c.shape_first.new.desks
    c.args.page.now c.shape_first.new.page c.requires.rooms c.shape_first.ensures.many c.shape_first.ensures.same_room
    c.shape_first.ensures.rooms

pub layout-requires-clause-some : goal.layout-requires-clause-some
layout-requires-clause-some g c =
    let count = rooms-count c.args.settings.now.workers c.args.settings.now.rows c.args.desks.now
    c.requires.rooms.desks_have in
    omega (arith, count, c.shape_first.ensures.many, c.requires.job.some_workers.0)

pub layout-requires-clause-rooms : goal.layout-requires-clause-rooms
layout-requires-clause-rooms g c =
    subst (λ (n : ℕ). AllByRecursion (λ (d : Desk). d.records.capacity ≡ n) c.shape_first.new.desks)
    (sym c.shape_first.ensures.same_room) c.shape_first.ensures.rooms

pub returns-in_err-subs-clause-rooms : goal.returns-in_err-subs-clause-rooms
returns-in_err-subs-clause-rooms g c =
    rooms-kept c.args.settings.now.workers c.args.settings.now.rows c.shape_first.new.desks c.layout.new.desks
    c.shape_first.new.page c.layout.new.page
    (rooms-kept c.args.settings.now.workers c.args.settings.now.rows c.args.desks.now c.shape_first.new.desks
    c.args.page.now c.shape_first.new.page c.requires.rooms c.shape_first.ensures.many c.shape_first.ensures.same_room
    c.shape_first.ensures.rooms) c.layout.ensures.many c.layout.ensures.same_room c.layout.ensures.rooms

pub returns-clause-rooms : goal.returns-clause-rooms
returns-clause-rooms g c =
    rooms-kept c.args.settings.now.workers c.args.settings.now.rows c.shape_first.new.desks c.layout.new.desks
    c.shape_first.new.page c.layout.new.page
    (rooms-kept c.args.settings.now.workers c.args.settings.now.rows c.args.desks.now c.shape_first.new.desks
    c.args.page.now c.shape_first.new.page c.requires.rooms c.shape_first.ensures.many c.shape_first.ensures.same_room
    c.shape_first.ensures.rooms) c.layout.ensures.many c.layout.ensures.same_room c.layout.ensures.rooms

pub returns-in_err-subs-clause-within : goal.returns-in_err-subs-clause-within
returns-in_err-subs-clause-within g c entities is told fits =
    let job = settings_of c.args.settings.now in
    let shaped = c.in_ok-shapes.ensures.features job.mapping entities is c.requires.no_ways told in
    let are = features-are c.args.page.now.room c.shape_first.new.page.room job.mapping entities c.in_ok-shapes.shapes
    c.requires.mapping c.shape_first.ensures.same_room shaped in
    let size = size-within job.head job.mapping c.args.bounds.now entities in
    c.layout.ensures.within job.mapping (features job.mapping entities) (c.shape_first.ensures.same.tells ∙ told) are
    (omega (arith, size, fits)) ∙ c.shape_first.ensures.same_overrun

pub returns-in_err-subs-clause-steps : goal.returns-in_err-subs-clause-steps
returns-in_err-subs-clause-steps g c entities is told =
    let job = settings_of c.args.settings.now in
    let shaped = c.in_ok-shapes.ensures.features job.mapping entities is c.requires.no_ways told in
    let are = features-are c.args.page.now.room c.shape_first.new.page.room job.mapping entities c.in_ok-shapes.shapes
    c.requires.mapping c.shape_first.ensures.same_room shaped in
    let size = size-within job.head job.mapping c.args.bounds.now entities in
    let before = shape-within job.head job.mapping c.args.bounds.now entities in
    let shaping = c.shape_first.ensures.size job.mapping entities is c.requires.no_ways in
    let laying = c.layout.ensures.size job.mapping (features job.mapping entities)
    (c.shape_first.ensures.same.tells ∙ told) are in
    omega (arith, size, before, shaping, laying)

pub returns-clause-within : goal.returns-clause-within
returns-clause-within g c entities is told fits =
    let job = settings_of c.args.settings.now in
    let shaped = c.in_ok-shapes.ensures.features job.mapping entities is c.requires.no_ways told in
    let are = features-are c.args.page.now.room c.shape_first.new.page.room job.mapping entities c.in_ok-shapes.shapes
    c.requires.mapping c.shape_first.ensures.same_room shaped in
    let size = size-within job.head job.mapping c.args.bounds.now entities in
    c.layout.ensures.within job.mapping (features job.mapping entities) (c.shape_first.ensures.same.tells ∙ told) are
    (omega (arith, size, fits)) ∙ c.shape_first.ensures.same_overrun

pub returns-clause-steps : goal.returns-clause-steps
returns-clause-steps g c entities is told =
    let job = settings_of c.args.settings.now in
    let shaped = c.in_ok-shapes.ensures.features job.mapping entities is c.requires.no_ways told in
    let are = features-are c.args.page.now.room c.shape_first.new.page.room job.mapping entities c.in_ok-shapes.shapes
    c.requires.mapping c.shape_first.ensures.same_room shaped in
    let size = size-within job.head job.mapping c.args.bounds.now entities in
    let before = shape-within job.head job.mapping c.args.bounds.now entities in
    let shaping = c.shape_first.ensures.size job.mapping entities is c.requires.no_ways in
    let laying = c.layout.ensures.size job.mapping (features job.mapping entities)
    (c.shape_first.ensures.same.tells ∙ told) are in
    omega (arith, size, before, shaping, laying)

pub returns-in_err-shapes-clause-limit : goal.returns-in_err-shapes-clause-limit
returns-in_err-shapes-clause-limit g c entities f is told err =
    let job = settings_of c.args.settings.now in
    let why = c.in_err-shapes.field-0.0 in
    let same = subst (λ r. IsErrAnd r (λ (e : Fault). e ≡ shape_told why)) err c.from_residual.ensures.1 in
    limit-of_candidate job.rows job.head job.mapping c.args.bounds.now entities f
    (subst (λ (n : ℕ). candidate_fault n job.mapping entities ≡ Some f) c.requires.rooms.page_has
    (c.shape_first.ensures.limit f job.mapping entities is c.requires.no_ways told
    (c.in_err-shapes.was ∙ ap Err (shape-limit why f same))))

pub returns-in_err-subs-clause-limit : goal.returns-in_err-subs-clause-limit
returns-in_err-subs-clause-limit g c entities f is told err =
    let job = settings_of c.args.settings.now in
    let why = c.in_err-subs.field-0.0 in
    let same = subst (λ r. IsErrAnd r (λ (e : Fault). e ≡ layout_told why)) err c.from_residual-in_err-subs.ensures.1 in
    let shaped = c.in_ok-shapes.ensures.features job.mapping entities is c.requires.no_ways told in
    let are = features-are c.args.page.now.room c.shape_first.new.page.room job.mapping entities c.in_ok-shapes.shapes
    c.requires.mapping c.shape_first.ensures.same_room shaped in
    limit-of_layout job.rows job.head job.mapping c.args.bounds.now entities (Some f)
    (subst (λ (n : ℕ). candidate_fault n job.mapping entities ≡ None) c.requires.rooms.page_has shaped.no_fault)
    (subst (λ (n : ℕ). layout_fault n job.head c.args.bounds.now (features job.mapping entities) ≡ Some f)
    (c.shape_first.ensures.same_room ∙ c.requires.rooms.page_has)
    (c.layout.ensures.limit f job.mapping (features job.mapping entities)
    (c.in_err-subs.was ∙ ap Err (laying-limit why f same)) (c.shape_first.ensures.same.tells ∙ told) are))

pub returns-clause-laid : goal.returns-clause-laid
returns-clause-laid g c entities is told =
    let job = settings_of c.args.settings.now in
    let list = features job.mapping entities in
    let shapes = c.in_ok-shapes.shapes in
    let subs = c.in_ok-subs.subs in
    let store = g.P.Spill.state c.layout.new.spill in
    let shaped = c.in_ok-shapes.ensures.features job.mapping entities is c.requires.no_ways told in
    let are = features-are c.args.page.now.room c.shape_first.new.page.room job.mapping entities shapes
    c.requires.mapping c.shape_first.ensures.same_room shaped in
    let shape = subst (λ (n : ℕ). IsShapeOf n job.mapping entities shapes) c.requires.rooms.page_has shaped in
    let layout = subst (λ (n : ℕ). IsLayoutOf n job.head c.args.bounds.now list shapes.largest subs store)
    (c.shape_first.ensures.same_room ∙ c.requires.rooms.page_has)
    (c.in_ok-subs.ensures.laid (c.shape_first.ensures.same.tells ∙ told) job.mapping list are) in
    let sizes = c.size_of_all.ensures.size ∙ ap bytes_in c.deref.ensures.0 in
    laid-told job c.args.bounds.now entities shapes subs store shape layout c.counted-counted.result _ _
    c.counted-counted.ensures (omega (arith, c.header_size.ensures.size, sizes)) c.requires.mapping
    c.requires.job.head.intervals c.requires.job.some_rows.1 c.in_ok-subs.ensures.sub_files
