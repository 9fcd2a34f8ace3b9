-- An entry behind others, by what is found of it.
use Rattle.std.proofs.Common.{◌≡◌, List, length, refl, true, false, Ok, Err, Some, None}
use Rattle.mf_base.specs.declared.kind.List as which
use Rattle.feature_model.specs.declared.fault.MappingFault.{MappingFault}
use Rattle.feature_model.specs.Mapping.{Entry}
use Rattle.feature_model.specs.Entries.{keeps_entry_rule, keeps_kind_rule, is_there, entry_behind}

pub behind-none : (list : which.List) (before : List Entry)
    → entry_behind list before None ≡ Err (MappingFault.Entry list (length before))
unfolding entry_behind
behind-none list before = refl

pub behind-entry : (list : which.List) (before : List Entry) (e : Entry) → keeps_entry_rule list e ≡ false
    → entry_behind list before (Some e) ≡ Err (MappingFault.Entry list (length before))
unfolding entry_behind
behind-entry list before e rule = rw rule refl

pub behind-kind : (list : which.List) (before : List Entry) (e : Entry) → keeps_entry_rule list e ≡ true
    → keeps_kind_rule e ≡ false → entry_behind list before (Some e) ≡ Err (MappingFault.Kind list (length before))
unfolding entry_behind
behind-kind list before e rule kind = rw (rule, kind) refl

pub behind-twice : (list : which.List) (before : List Entry) (e : Entry) → keeps_entry_rule list e ≡ true
    → keeps_kind_rule e ≡ true → is_there before e ≡ true
    → entry_behind list before (Some e) ≡ Err (MappingFault.Twice list (length before))
unfolding entry_behind
behind-twice list before e rule kind there = rw (rule, kind, there) refl

pub behind-ok : (list : which.List) (before : List Entry) (e : Entry) → keeps_entry_rule list e ≡ true
    → keeps_kind_rule e ≡ true → is_there before e ≡ false → entry_behind list before (Some e) ≡ Ok e
unfolding entry_behind
behind-ok list before e rule kind new = rw (rule, kind, new) refl
