use Rattle.std.proofs.Common.{◌≡◌, ◌∙◌, length, rules, sym}
use Rattle.std.proofs.lemmas.List.{nil_from_length}
use Rattle.ring_assembly.proofs.Relations.{holds-by}
use Rattle.ring_assembly.proofs.assemble.holds_relation.Goals as goal

pub returns : goal.returns
returns c =
    let one : length c.args.records.now.records ≡ 1 = search rules in
    let none : length c.loose.result.now ≡ 0 = search rules in
    holds-by c.args.records.now c.head.result.now c.is_relation.result one
    (sym c.loose.ensures ∙ nil_from_length c.loose.result.now none) c.head.ensures c.is_relation.ensures
