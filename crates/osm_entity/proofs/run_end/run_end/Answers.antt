use Rattle.std.proofs.Common.{subst}
use Rattle.std.proofs.lemmas.List.{take_rest}
use Rattle.osm_entity.specs.TagRun.{IsRunFault}
use Rattle.osm_entity.proofs.RunEnds.{run-start, run-more, run-ends, run-faults, pair_there, zero_there}
use Rattle.osm_entity.proofs.run_end.run_end.Goals as goal

pub loop-size-init : goal.loop-size-init
loop-size-init c = run-start c.args.count c.args.list.now c.requires

pub loop-size-preserved : goal.loop-size-preserved
loop-size-preserved c =
    run-more c.args.count c.args.list.now c.loop-size.at c.in-Ok-Pair.size c.loop-size.invariant
    (pair_there c.args.count c.loop-size.at c.args.list.now c.in-Ok-Pair.field-0 c.in-Ok-Pair.size
    c.in-Ok-Pair.field-0-is c.in-Ok-Pair.ensures)

pub returns-in-Ok-Zero : goal.returns-in-Ok-Zero
returns-in-Ok-Zero c =
    run-ends c.args.count c.args.list.now c.loop-size.at c.in-Ok-Zero.size c.loop-size.invariant
    (zero_there c.args.count c.loop-size.at c.args.list.now c.in-Ok-Zero.field-0 c.in-Ok-Zero.size
    c.in-Ok-Zero.field-0-is c.in-Ok-Zero.ensures)

pub returns-in-Err : goal.returns-in-Err
returns-in-Err c =
    run-faults c.args.count c.args.list.now c.loop-size.at c.in-Err.fault c.loop-size.invariant
    (subst (λ b. IsRunFault c.args.count b c.in-Err.fault) (take_rest c.args.list.now c.loop-size.at)
    c.in-Err.ensures)
