use Rattle.mf_base.proofs.RootSteps.{guess-above, guess-fits}
use Rattle.mf_base.proofs.isqrt.first_guess.Goals as goal

pub returns-clause-above : goal.returns-clause-above
returns-clause-above c =
    rw (guess-fits c.ilog2.result c.ilog2.ensures.bound)
    (guess-above c.args.v c.ilog2.result c.ilog2.ensures.next_power_gt)
