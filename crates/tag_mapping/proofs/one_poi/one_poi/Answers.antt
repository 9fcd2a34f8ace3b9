use Rattle.std.proofs.Common.{◌≡◌, rules, Err}
use Rattle.tag_mapping.proofs.Lists.{passed, told-text}
use Rattle.tag_mapping.proofs.OneWord.{word-ok, word-fault, word-is}
use Rattle.tag_mapping.proofs.one_poi.one_poi.Goals as goal

pub returns-in_err-add-clause-refused : goal.returns-in_err-add-clause-refused
returns-in_err-add-clause-refused c =
    let e : c.from_residual.result ≡ Err c.in_err-add.field-0.0 = search rules in
    rw e (passed _ _ _ (word-fault c.args.word.now _)
    (rw (c.new-poi.ensures, c.told_poi.ensures.told) at c.in_err-add.ensures.refused))

pub new-requires-2 : goal.new-requires-2
new-requires-2 c =
    let added = rw c.new-poi.ensures at c.in_ok-add.ensures.added in
    rw (added.2, c.new.ensures) (word-is _ added.0 added.1 (told-text c.told_poi.result c.told_poi.ensures.text))

pub returns-clause-mapping : goal.returns-clause-mapping
returns-clause-mapping c =
    let added = rw (c.new-poi.ensures, c.told_poi.ensures.told) at c.in_ok-add.ensures.added in
    rw (c.new-2.ensures, added.2, c.new.ensures) (word-ok c.args.word.now added.0 added.1)
