use Rattle.std.proofs.Common.{ap, refl, Err, []}
use Rattle.std.specs.Prelude.{option_map}
use Rattle.osm_model.specs.declared.faults.EntityFault.TheVariants as faults
use Rattle.osm_entity.specs.DenseColumns.{numbers_shown}
use Rattle.osm_entity.proofs.DenseReads.{end-none, end-empty, end-more}
use Rattle.osm_entity.proofs.dense.Dense.end.Goals as goal

pub returns-in-None-clause-gives : goal.returns-in-None-clause-gives
returns-in-None-clause-gives c before b = (
  end-none b (numbers_shown c.args.self.now.before) _ (ap (option_map (λ list. list.now)) c.in-None.is),
  refl,
)

pub returns-in-None-first_packed-clause-gives : goal.returns-in-None-first_packed-clause-gives
returns-in-None-first_packed-clause-gives c before b = (
  end-empty b (numbers_shown c.args.self.now.before) _ c.in-Some.list.now
      (ap (option_map (λ list. list.now)) c.in-Some.is) c.in-None-first_packed.ensures.numbers,
  refl,
)

pub returns-in-Some-first_packed-clause-gives : goal.returns-in-Some-first_packed-clause-gives
returns-in-Some-first_packed-clause-gives c before b = (
  Err faults.Columns,
  [],
  end-more b (numbers_shown c.args.self.now.before) _ c.in-Some.list.now _ _
      (ap (option_map (λ list. list.now)) c.in-Some.is) c.in-Some-first_packed.ensures.numbers,
  refl,
)
