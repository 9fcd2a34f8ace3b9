use Rattle.std.proofs.Common.{rules, w64}
use Rattle.std.specs.Prelude.{codes, ◌++◌, FitsSigned}
use Rattle.std.proofs.lemmas.Int.{to_z-of_z}
use Rattle.map_model.specs.MapFile.{worded}
use Rattle.run_texts.specs.Texts.{worded_signed}
use Rattle.run_texts.proofs.Putting.{puts-both}
use Rattle.run_texts.proofs.input.put_entity.Goals as goal

pub returns-in-OutOfOrder-clause-appends : goal.returns-in-OutOfOrder-clause-appends
returns-in-OutOfOrder-clause-appends c =
    let fits : FitsSigned w64 c.in-OutOfOrder.id = search rules in
    let code = codes "out-of-order" ++ worded (codes " at") c.args.at in
    let last = worded (codes " last") c.in-OutOfOrder.last in
    let id = worded_signed (codes " id") c.in-OutOfOrder.id in
    let told = rw (to_z-of_z w64 c.in-OutOfOrder.id fits) at c.put_worded-in-OutOfOrder.ensures.appends in
    rw c.in-OutOfOrder.is
    (puts-both _ _ _ code (last ++ id) c.put_code-in-OutOfOrder.ensures.appends
    (puts-both _ _ _ last id c.put_worded.ensures.appends told))
