use Rattle.std.proofs.Common.{refl}
use Rattle.pbf_block.proofs.BlockReads.{box-refused, box-is}
use Rattle.pbf_block.proofs.header.box_in.Goals as goal

pub returns-in-Err : goal.returns-in-Err
returns-in-Err c = box-refused c.args.bytes.now _ c.in-Err.ensures.message

pub returns-in-Ok : goal.returns-in-Ok
returns-in-Ok c =
    let found = c.in-Ok.ensures.found in
    box-is c.args.bytes.now _ _ _ _ _ _ c.in-Ok.ensures.message (found 1 0 refl).number (found 2 1 refl).number
    (found 3 2 refl).number (found 4 3 refl).number c.box_of_sides.ensures
