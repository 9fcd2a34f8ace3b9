use Rattle.std.proofs.Common.{sym, ap, ◌∙◌}
use Rattle.map_header.specs.Shown.{settings_of}
use Rattle.mf_rows.specs.Kinds.{tile_kind}
use Rattle.mf_rows.specs.declared.kinds.TileRow.{TileRow}
use Rattle.spill_parts.specs.Parts.{Part, ordered_rows}
use Rattle.tile_rows.proofs.RowOrder.{rows-ordered}
use Rattle.mf_layout.proofs.member_rows.order_members.Goals as goal

pub returns-clause-ordered : goal.returns-clause-ordered
returns-clause-ordered g c told list may =
    let set = settings_of c.args.set.now in
    let spreads = c.in_ok-spread.ensures.put (c.make.ensures.same.tells ∙ told) set list (sym c.deref.ensures.0) may in
    record {
      made = spreads.made;
      told = spreads.told;
      light = spreads.light;
      numbered = spreads.numbered;
      rows_are = c.in_ok-ordered.ensures.ordered.rows
          ∙ ap (λ (p : Part TileRow). ordered_rows tile_kind p.rows) c.finish.ensures
          ∙ ap (ordered_rows tile_kind) spreads.rows_are
          ∙ rows-ordered set c.args.bounds.now spreads.made c.requires.intervals spreads.numbered;
    }
