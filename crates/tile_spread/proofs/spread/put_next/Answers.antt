use Rattle.std.proofs.Common.{◌≡◌, true, sym, ap, ◌∙◌}
use Rattle.mf_edge.specs.Spill.{SpillState}
use Rattle.tile_spread.proofs.SoFar.{light-left, may-be-put, room-left, so-far-next}
use Rattle.tile_spread.proofs.spread.put_next.Goals as goal

pub load_feature-requires-clause-found : goal.load_feature-requires-clause-found
load_feature-requires-clause-found g c told =
    let found = c.requires.found told in
    (found.2.left, light-left _ _ _ found.0 _ _ _ found.1 found.2, found.2.rest_is)

pub put_feature-requires-clause-feature : goal.put_feature-requires-clause-feature
put_feature-requires-clause-feature g c told r is =
    let told_before : (g.P.Spill.state c.args.spill.now).tells ≡ true =
    sym (ap (λ (s : SpillState). s.tells) c.in_ok-next.ensures.same) ∙ told in
    let found = c.requires.found told_before in
    let light = light-left _ _ _ found.0 _ _ _ found.1 found.2 in
    let loaded = c.in_ok-next.ensures.told told_before found.2.left light found.2.rest_is in
    may-be-put _ _ _ found.0 _ _ _ found.1 found.2 _ _ loaded r is

pub returns-clause-so_far : goal.returns-clause-so_far
returns-clause-so_far g c told list may was =
    let light = light-left _ _ _ list _ _ _ may was in
    let loaded = c.in_ok-next.ensures.told told was.left light was.rest_is in
    so-far-next _ _ _ list _ _ _ may was _ _ loaded _
    (c.in_ok-put_feature.ensures.put loaded.feature.told loaded.record_is)

pub returns-clause-within : goal.returns-clause-within
returns-clause-within g c told list may was fits =
    let light = light-left _ _ _ list _ _ _ may was in
    let loaded = c.in_ok-next.ensures.told told was.left light was.rest_is in
    c.in_ok-put_feature.ensures.within loaded.feature loaded.record_is loaded.many
    (room-left _ _ _ list _ _ _ may was _ _ loaded fits)
    ∙ ap (λ (s : SpillState). s.is_overrun) c.in_ok-next.ensures.same

pub returns-in_err-put_feature-clause-within : goal.returns-in_err-put_feature-clause-within
returns-in_err-put_feature-clause-within g c told list may was fits =
    let light = light-left _ _ _ list _ _ _ may was in
    let loaded = c.in_ok-next.ensures.told told was.left light was.rest_is in
    c.in_err-put_feature.ensures.within loaded.feature loaded.record_is loaded.many
    (room-left _ _ _ list _ _ _ may was _ _ loaded fits)
    ∙ ap (λ (s : SpillState). s.is_overrun) c.in_ok-next.ensures.same
