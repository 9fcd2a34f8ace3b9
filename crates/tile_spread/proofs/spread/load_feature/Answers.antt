use Rattle.std.proofs.Common.{◌≡◌, ◌-◌, ◌≤◌, true, sym, ap, ◌∙◌, arith}
use Rattle.std.proofs.lemmas.Bool.{false≢true}
use Rattle.mf_edge.specs.Spill.{SpillState}
use Rattle.mf_rows.specs.Desks.{Desktop, used, units_in}
use Rattle.tile_spread.proofs.Loading.{untold, fits, closes, loaded}
use Rattle.tile_spread.proofs.spread.load_feature.Goals as goal

pub damaged-requires-clause-untold : goal.damaged-requires-clause-untold
damaged-requires-clause-untold g c =
    let limit = c.args.records.now.capacity in
    let none : used c.clear.new.self ≡ 0 = ap used c.clear.ensures in
    let room : c.clear.new.self.capacity ≡ limit = ap (λ (d : Desktop). d.capacity) c.clear.ensures in
    let loaded = c.in_ok-loaded.ensures in
    untold (g.P.Spill.state c.load_record.new.spill).tells (λ told.
    let told_before = sym (ap (λ (s : SpillState). s.tells) loaded.same) ∙ told in
    let found = c.requires.found told_before in
    let few = fits limit found.0 c.args.first.now c.args.reader.now.left found.1 found.2
    c.in_ok-loaded.loaded.units (loaded.units told_before) in
    omega (arith, few, c.if-loaded-from.true, c.from.ensures, c.spare-limit.ensures.rest, none, room))

pub damaged-requires-then-not-close_record-clause-untold :
    goal.damaged-requires-then-not-close_record-clause-untold
damaged-requires-then-not-close_record-clause-untold g c =
    let limit = c.args.records.now.capacity in
    let empty : units_in c.clear.new.self.records ≡ 0 = ap (λ (d : Desktop). units_in d.records) c.clear.ensures in
    let room : c.clear.new.self.capacity ≡ limit = ap (λ (d : Desktop). d.capacity) c.clear.ensures in
    let all : limit ≤ c.clear.new.self.capacity - units_in c.clear.new.self.records = omega (arith, empty, room) in
    let loaded = c.in_ok-loaded.ensures in
    untold (g.P.Spill.state c.load_record.new.spill).tells (λ told.
    let told_before = sym (ap (λ (s : SpillState). s.tells) loaded.same) ∙ told in
    let found = c.requires.found told_before in
    let closed : c.close_record.result ≡ true = c.close_record.ensures.is
    ∙ closes limit found.0 c.args.first.now c.args.reader.now.left found.1 found.2
    c.load_record.new.records c.close_record.new.self _ all (loaded.loose told_before) in
    false≢true (sym c.if-not-close_record.true ∙ closed))

pub returns-clause-told : goal.returns-clause-told
returns-clause-told g c told list light is =
    let left = c.args.reader.now.left in
    let limit = c.args.records.now.capacity in
    let was = c.load_record.new.records in
    let empty : units_in c.clear.new.self.records ≡ 0 = ap (λ (d : Desktop). units_in d.records) c.clear.ensures in
    let room : c.clear.new.self.capacity ≡ limit = ap (λ (d : Desktop). d.capacity) c.clear.ensures in
    let all : limit ≤ c.clear.new.self.capacity - units_in c.clear.new.self.records = omega (arith, empty, room) in
    loaded limit list c.args.first.now left light is was c.close_record.new.self _ all
    (c.in_ok-loaded.ensures.loose told)
    (c.in_ok-loaded.ensures.records ∙ ap (λ (d : Desktop). d.records) c.clear.ensures)
    c.close_record.ensures.closed c.close_record.ensures.used _ (c.in_ok-loaded.ensures.rest told)
