use Rattle.mf_base.proofs.Ordered.{ascending-is, ascending-only}
use Rattle.mf_base.proofs.order_laws.one_order.Goals as goal

pub returns-clause-some : goal.returns-clause-some
returns-clause-some c = ascending-is

pub returns-clause-only : goal.returns-clause-only
returns-clause-only c = ascending-only
