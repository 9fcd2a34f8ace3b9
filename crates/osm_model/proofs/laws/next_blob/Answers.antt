use Rattle.osm_model.proofs.NextLaws.{leads, led, passes, passed_over, at_most}
use Rattle.osm_model.proofs.laws.next_blob.Goals as goal

pub returns-clause-leads : goal.returns-clause-leads
returns-clause-leads c = leads

pub returns-clause-led : goal.returns-clause-led
returns-clause-led c = led

pub returns-clause-passes : goal.returns-clause-passes
returns-clause-passes c = passes

pub returns-clause-passed : goal.returns-clause-passed
returns-clause-passed c = passed_over

pub returns-clause-size : goal.returns-clause-size
returns-clause-size c = at_most
