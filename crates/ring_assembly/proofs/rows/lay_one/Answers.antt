use Rattle.std.proofs.Common.{◌≡◌, ◌∙◌, ◌++◌, ◌∷◌, [], ap, sym, length, rules, append-nil}
use Rattle.ring_assembly.proofs.RowBytes.{wide-one, rows-laid}
use Rattle.ring_assembly.proofs.rows.lay_one.Goals as goal

pub returns : goal.returns
returns c =
    let long : length c.args.unit.now ≡ 16 = search rules in
    rows-laid c.args.out.now c.put.new.self (c.args.unit.now ∷ []) c.requires.whole (wide-one c.args.unit.now long)
    (c.put.ensures
    ∙ ap (λ bytes. record { bytes = c.args.out.now.bytes ++ bytes; capacity = c.args.out.now.capacity })
    (sym (append-nil c.args.unit.now)))
