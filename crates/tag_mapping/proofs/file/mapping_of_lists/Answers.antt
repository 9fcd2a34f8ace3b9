use Rattle.std.proofs.Common.{◌≡◌, arith, rules, inr, Err}
use Rattle.tag_mapping.proofs.Lists.{lists-many-poi, lists-many-way, lists-poi-fault, lists-way-fault, lists-told}
use Rattle.tag_mapping.proofs.Lists.{lists-are, passed}
use Rattle.tag_mapping.proofs.file.mapping_of_lists.Goals as goal

pub returns-then-poi-gt-ENTRIES_LIMIT-clause-refused : goal.returns-then-poi-gt-ENTRIES_LIMIT-clause-refused
returns-then-poi-gt-ENTRIES_LIMIT-clause-refused c = inr (lists-many-poi c.args.poi.now c.args.way.now (omega arith))

pub returns-then-way-gt-ENTRIES_LIMIT-clause-refused : goal.returns-then-way-gt-ENTRIES_LIMIT-clause-refused
returns-then-way-gt-ENTRIES_LIMIT-clause-refused c =
    inr (lists-many-way c.args.poi.now c.args.way.now (omega arith) (omega arith))

pub returns-in_err-poi_entries-clause-refused : goal.returns-in_err-poi_entries-clause-refused
returns-in_err-poi_entries-clause-refused c =
    let e : c.from_residual.result ≡ Err c.in_err-poi_entries.field-0.0 = search rules in
    rw e (passed _ _ _
    (lists-poi-fault c.args.poi.now c.args.way.now _ (omega arith) (omega arith))
    c.in_err-poi_entries.ensures.refused)

pub returns-in_err-way_entries-clause-refused : goal.returns-in_err-way_entries-clause-refused
returns-in_err-way_entries-clause-refused c =
    let e : c.from_residual-in_err-way_entries.result ≡ Err c.in_err-way_entries.field-0.0 = search rules in
    rw e (passed _ _ _
    (lists-way-fault c.args.poi.now c.args.way.now c.in_ok-poi_entries.poi_entries _ (omega arith)
    (omega arith) c.in_ok-poi_entries.ensures.entries) c.in_err-way_entries.ensures.refused)

pub new-requires : goal.new-requires
new-requires c =
    lists-are c.args.poi.now c.args.way.now c.in_ok-poi_entries.poi_entries c.in_ok-way_entries.way_entries
    (omega arith) (omega arith)
    c.in_ok-poi_entries.ensures.entries c.in_ok-way_entries.ensures.entries c.in_ok-poi_entries.ensures.told
    c.in_ok-way_entries.ensures.told

pub returns-clause-mapping : goal.returns-clause-mapping
returns-clause-mapping c =
    rw c.new.ensures
    (lists-told c.args.poi.now c.args.way.now c.in_ok-poi_entries.poi_entries c.in_ok-way_entries.way_entries
    (omega arith) (omega arith)
    c.in_ok-poi_entries.ensures.entries c.in_ok-way_entries.ensures.entries)
