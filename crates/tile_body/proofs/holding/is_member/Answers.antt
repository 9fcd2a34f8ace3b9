use Rattle.std.proofs.Common.{◌∙◌, sym, subst}
use Rattle.mf_rows.specs.FirstUnits.{IsHead}
use Rattle.tile_body.proofs.Admitted.{spelled-is, is-spelled}
use Rattle.tile_body.proofs.holding.is_member.Goals as goal

pub returns-then-lies_on_earth : goal.returns-then-lies_on_earth
returns-then-lies_on_earth c = (
  λ e. record {
    feature = c.is_feature.ensures.0 c.if-not-is_feature.false;
    places = c.lies_on_earth.ensures.0 c.if-lies_on_earth.true;
    spelled = spelled-is c.args.view.now (subst IsHead c.head.ensures c.known.ensures)
        (sym c.is_spelled.ensures ∙ e);
  },
  λ m. c.is_spelled.ensures ∙ is-spelled c.args.view.now m.spelled,
)
