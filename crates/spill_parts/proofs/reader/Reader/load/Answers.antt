use Rattle.std.proofs.Common.{rules, arith, ◌≡◌, ◌+◌, ◌≤◌, length, ap}
use Rattle.mf_rows.specs.RowKinds.{IsOf}
use Rattle.spill_parts.specs.Parts.{Part}
use Rattle.spill_parts.proofs.Paged.{steps_most, loaded_reading}
use Rattle.spill_parts.proofs.reader.Reader.load.Goals as goal

pub returns-in_err-load-clause-most : goal.returns-in_err-load-clause-most
returns-in_err-load-clause-most g c =
    steps_most g.K.RowKind.kind.width c.args.self.now.loaded c.rows_to_load-n.result
    (length c.args.self.now.source.rows) c.args.steps.now c.load.new.steps (search rules) (search rules)

within : (g : _) (c : goal.After-self-2-1 g)
    → c.args.self.now.loaded + c.rows_to_load-n.result ≤ length c.args.self.now.source.rows
within g c =
    let source : c.self.inside.source ≡ c.args.self.now.source = search rules in
    let loaded : c.self.inside.loaded ≡ c.args.self.now.loaded = search rules in
    let rows : length c.self.inside.source.rows ≡ length c.args.self.now.source.rows =
    ap (λ (p : Part _). length p.rows) source in
    omega (arith, rows, loaded, c.requires.more, c.rows_to_load-n.ensures.left, c.len.ensures.many)

pub returns-clause-most : goal.returns-clause-most
returns-clause-most g c =
    steps_most g.K.RowKind.kind.width c.args.self.now.loaded c.rows_to_load-n.result
    (length c.args.self.now.source.rows) c.args.steps.now c.load.new.steps (search rules) (within g c)

pub returns-clause-reading : goal.returns-clause-reading
returns-clause-reading g c =
    let source : c.self.inside.source ≡ c.args.self.now.source = search rules in
    let loaded : c.self.inside.loaded ≡ c.args.self.now.loaded = search rules in
    loaded_reading {kind =
    g.K.RowKind.kind}
    (IsOf g.K.RowKind.kind) g.met.K.RowKind.laws.long g.met.K.RowKind.laws.reads_back c.args.self.now _
    c.args.page.now c.load.new.self (g.P.Spill.state c.args.spill.now) (g.P.Spill.state c.load.new.spill)
    (rw (← source) c.len.ensures.known) c.requires.reading c.requires.none (within g c)
    (omega (arith, c.load.ensures.same_room, c.rows_to_load-n.ensures.room, c.len-2.ensures.many)) source
    (search rules) (ap (λ n. n + c.rows_to_load-n.result) loaded) c.load.ensures.same
    (λ told. rw (c.load.ensures.same_room, ← source, ← loaded) (c.in_ok-load.ensures.loaded told))
