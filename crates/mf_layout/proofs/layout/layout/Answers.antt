use Rattle.std.proofs.Common.{◌≡◌, ℕ, Some, subst, sym}
use Rattle.map_header.specs.Shown.{settings_of}
use Rattle.map_model.specs.MapFile.{layout_fault}
use Rattle.mf_layout.specs.Layouts.{AreFeatures}
use Rattle.mf_layout.proofs.LayoutSize.{first-room}
use Rattle.mf_layout.proofs.layout.layout.Goals as goal

pub returns-clause-limit : goal.returns-clause-limit
returns-clause-limit g c f mapping list err told are =
    let room = first-room c.args.desks.now c.args.page.now.room c.index-desks-0.result c.requires.some c.requires.rooms in
    subst (λ (n : ℕ). layout_fault n (settings_of c.args.set.now) c.args.bounds.now list ≡ Some f) room
    (c.lay_features.ensures.limit f mapping list err told
    (subst (λ (n : ℕ). AreFeatures n mapping list c.args.shapes.shapes.rows) (sym room) are))
