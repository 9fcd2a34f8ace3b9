use Rattle.std.proofs.Common.{◌∙◌, ◌++◌, ap}
use Rattle.ring_assembly.proofs.RowBytes.{room-put, rows-laid}
use Rattle.ring_assembly.proofs.rows.lay.Goals as goal

pub put-requires : goal.put-requires
put-requires c =
    room-put c.args.out.now c.args.units.now _ c.requires.whole c.requires.room c.as_flattened.ensures.len

pub returns : goal.returns
returns c =
    rows-laid c.args.out.now c.put.new.self c.args.units.now c.requires.whole c.are_wide.ensures
    (c.put.ensures
    ∙ ap (λ bytes. record { bytes = c.args.out.now.bytes ++ bytes; capacity = c.args.out.now.capacity })
    c.as_flattened.ensures.value)
