use Rattle.tag_mapping.proofs.Lists.{tables-right, tables-wrong}
use Rattle.tag_mapping.proofs.file.tables_in.Goals as goal

pub returns-then-are_tables : goal.returns-then-are_tables
returns-then-are_tables c =
    rw c.in-Some.is (tables-right _ c.in_ok-items.items.now c.in_ok-items.ensures c.if-are_tables.ensures)

pub returns-else-are_tables : goal.returns-else-are_tables
returns-else-are_tables c =
    rw c.in-Some.is (tables-wrong _ c.in_ok-items.items.now c.in_ok-items.ensures c.if-are_tables.ensures)
