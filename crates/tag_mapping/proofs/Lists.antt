-- The lists of a file, and the mapping that they tell.
use Rattle.std.proofs.Common.{◌≡◌, ℕ, zero, suc, ◌+◌, ◌≤◌, ◌<◌, List, [], ◌∷◌, ◌++◌, map, length, take, drop, get_or}
use Rattle.std.proofs.Common.{refl, sym, ap, ◌∙◌, inl, inr, true, false, Bool, ◌&&◌, Option, Some, None, option_map}
use Rattle.std.proofs.Common.{Result, Ok, Err, arith, add-one, length-append}
use Rattle.std.specs.Prelude.{is_some, option_and_then, IfSome}
use Rattle.std.specs.List.{list_all, AllByRecursion}
use Rattle.std.proofs.lemmas.Bool.{le-leb, lt-leb}
use Rattle.std.proofs.lemmas.List.{length-map}
use Rattle.std.proofs.Math.Seq.{take-length, drop-length}
use Rattle.toml.specs.Data.{Data, as_table}
use Rattle.toml.specs.View.{view, items_of}
use Rattle.toml.specs.declared.value.Value.{Value}
use Rattle.mf_base.specs.declared.kind.List as which
use Rattle.feature_model.specs.declared.fault.MappingFault.{MappingFault}
use Rattle.feature_model.specs.Mapping.{Entry, Mapping}
use Rattle.feature_model.specs.Entries.{entry_behind, entries_behind, mapping_told, IsTold, IsEntryText, IsMapping}
use Rattle.feature_model.proofs.EntryLaws.{mapping_told-ok}
use Rattle.tag_mapping.specs.declared.told.Told.{Told}
use Rattle.tag_mapping.specs.Shown.{IsFaultOf, told_shown}
use Rattle.tag_mapping.specs.File.{data_of, told_items, entry_of, items_in, tables_in}

-- ---- arrays

pub data-items : (ds : List Data) → data_of (items_of ds) ≡ ds
data-items [] = refl
data-items (d ∷ ds) = ap (λ (x : List Data). d ∷ x) (data-items ds)

pub all-tables : (vs : List Value)
    → list_all (λ v. is_some (as_table (view v))) vs ≡ list_all (λ d. is_some (as_table d)) (map view vs)
all-tables [] = refl
all-tables (v ∷ vs) = ap (λ (b : Bool). is_some (as_table (view v)) && b) (all-tables vs)

pub told-length : (list : which.List) (vs : List Value) → length (told_items list (map view vs)) ≡ length vs
told-length list vs = length-map (map view vs) (λ value. option_and_then (entry_of list) (as_table value))
    ∙ length-map vs view

-- ---- entry by entry

-- what the entries so far tell of the list
pub record HasAdded (list : which.List) (vs : List Value) (at : ℕ) (entries : List Entry) : Type 0 where
  pub count : length entries ≡ at
  pub same : entries_behind list [] (told_items list (map view vs))
      ≡ entries_behind list entries (told_items list (map view (drop at vs)))
  pub told : AllByRecursion IsTold (told_items list (map view (take at vs)))

pub added-none : (list : which.List) (vs : List Value) → HasAdded list vs 0 []
added-none list vs = record { count = refl; same = refl; told = tt }

drop-here : (vs : List Value) (at : ℕ) (v : Value) → at < length vs → v ≡ get_or vs at v
    → drop at vs ≡ v ∷ drop (suc at) vs
drop-here [] at v within here = absurd (omega (arith, within))
drop-here (x ∷ vs) zero v within here = ap (λ (y : Value). y ∷ vs) (sym here)
drop-here (x ∷ vs) (suc at) v within here = drop-here vs at v (omega (arith, within)) here

take-here : (vs : List Value) (at : ℕ) (v : Value) → at < length vs → v ≡ get_or vs at v
    → take (suc at) vs ≡ take at vs ++ v ∷ []
take-here [] at v within here = absurd (omega (arith, within))
take-here (x ∷ vs) zero v within here = ap (λ (y : Value). y ∷ []) (sym here)
take-here (x ∷ vs) (suc at) v within here =
    ap (λ (ys : List Value). x ∷ ys) (take-here vs at v (omega (arith, within)) here)

-- what an item tells
abbrev pub told_of : which.List → Value → Option Entry
told_of list v = option_and_then (entry_of list) (as_table (view v))

all-more : (list : which.List) (vs : List Value) (v : Value) → AllByRecursion IsTold (told_items list (map view vs))
    → IsTold (told_of list v) → AllByRecursion IsTold (told_items list (map view (vs ++ v ∷ [])))
all-more list [] v all is = (is, tt)
all-more list (x ∷ vs) v all is = (all.0, all-more list vs v all.1 is)

next : (list : which.List) (vs : List Value) (at : ℕ) (entries : List Entry) (v : Value) (e : Entry) → at < length vs
    → v ≡ get_or vs at v → entry_behind list entries (told_of list v) ≡ Ok e
    → entries_behind list entries (told_items list (map view (drop at vs)))
    ≡ entries_behind list (entries ++ e ∷ []) (told_items list (map view (drop (suc at) vs)))
unfolding entries_behind
next list vs at entries v e within here is = rw (drop-here vs at v within here, is) refl

pub added-more : (list : which.List) (vs : List Value) (at : ℕ) (entries after : List Entry) (v : Value)
    → at < length vs → v ≡ get_or vs at v → HasAdded list vs at entries
    → (e : Entry) × (entry_behind list entries (told_of list v) ≡ Ok e) × (after ≡ entries ++ e ∷ [])
    → IsTold (told_of list v) → HasAdded list vs (at + 1) after
added-more list vs at entries after v within here so_far (e, is, grown) told = rw (grown, add-one) record {
  count = omega (arith, so_far.count, length-append entries (e ∷ []));
  same = so_far.same ∙ next list vs at entries v e within here is;
  told = rw (take-here vs at v within here) (all-more list (take at vs) v so_far.told told);
}

pub added-fault : (list : which.List) (vs : List Value) (at : ℕ) (entries : List Entry) (v : Value)
    (fault : MappingFault) → at < length vs → v ≡ get_or vs at v → HasAdded list vs at entries
    → entry_behind list entries (told_of list v) ≡ Err fault
    → entries_behind list [] (told_items list (map view vs)) ≡ Err fault
unfolding entries_behind
added-fault list vs at entries v fault within here so_far is = so_far.same ∙ rw (drop-here vs at v within here, is) refl

pub added-all : (list : which.List) (vs : List Value) (entries : List Entry) → HasAdded list vs (length vs) entries
    → (entries_behind list [] (told_items list (map view vs)) ≡ Ok entries)
    × AllByRecursion IsTold (told_items list (map view vs))
unfolding entries_behind
added-all list vs entries all = (all.same ∙ rw drop-length refl, rw take-length at all.told)

-- ---- both lists

pub many-poi : (poi way : List (Option Entry)) → 4096 < length poi
    → mapping_told poi way ≡ Err (MappingFault.TooMany which.List.Poi)
unfolding mapping_told
many-poi poi way many = rw (lt-leb (length poi) 4096 many) refl

pub many-way : (poi way : List (Option Entry)) → length poi ≤ 4096 → 4096 < length way
    → mapping_told poi way ≡ Err (MappingFault.TooMany which.List.Way)
unfolding mapping_told
many-way poi way few many = rw (le-leb (length poi) 4096 few, lt-leb (length way) 4096 many) refl

pub poi-fault : (poi way : List (Option Entry)) (fault : MappingFault) → length poi ≤ 4096 → length way ≤ 4096
    → entries_behind which.List.Poi [] poi ≡ Err fault → mapping_told poi way ≡ Err fault
unfolding mapping_told
poi-fault poi way fault few few_way is = rw (le-leb (length poi) 4096 few, le-leb (length way) 4096 few_way, is) refl

pub way-fault : (poi way : List (Option Entry)) (es : List Entry) (fault : MappingFault) → length poi ≤ 4096
    → length way ≤ 4096 → entries_behind which.List.Poi [] poi ≡ Ok es
    → entries_behind which.List.Way [] way ≡ Err fault → mapping_told poi way ≡ Err fault
unfolding mapping_told
way-fault poi way es fault few few_way is wrong =
    rw (le-leb (length poi) 4096 few, le-leb (length way) 4096 few_way, is, wrong) refl

pub both-told : (poi way : List (Option Entry)) (es fs : List Entry) → length poi ≤ 4096 → length way ≤ 4096
    → entries_behind which.List.Poi [] poi ≡ Ok es → entries_behind which.List.Way [] way ≡ Ok fs
    → mapping_told poi way ≡ Ok (record { poi = es; way = fs })
unfolding mapping_told
both-told poi way es fs few few_way is also =
    rw (le-leb (length poi) 4096 few, le-leb (length way) 4096 few_way, is, also) refl

pub both-are : (poi way : List (Option Entry)) (es fs : List Entry) → length poi ≤ 4096 → length way ≤ 4096
    → entries_behind which.List.Poi [] poi ≡ Ok es → entries_behind which.List.Way [] way ≡ Ok fs
    → AllByRecursion IsTold poi → AllByRecursion IsTold way → IsMapping (record { poi = es; way = fs })
both-are poi way es fs few few_way is also told told_way =
    (mapping_told-ok poi way (record { poi = es; way = fs }) told told_way
    (both-told poi way es fs few few_way is also)).0

-- A fault that is told by a part is told by the whole.
pub passed : {A B : Type 0} (inner : Result A MappingFault) (outer : Result B MappingFault) (fault : MappingFault)
    → (inner ≡ Err fault → outer ≡ Err fault) → IsFaultOf inner fault → IsFaultOf outer fault
passed inner outer fault told (inl memory) = inl memory
passed inner outer fault told (inr is) = inr (told is)

-- ---- the same of the lists of a file

abbrev pub lists_told : List Value → List Value → Result Mapping MappingFault
lists_told poi way = mapping_told (told_items which.List.Poi (map view poi)) (told_items which.List.Way (map view way))

few_told : (list : which.List) (vs : List Value) → length vs ≤ 4096 → length (told_items list (map view vs)) ≤ 4096
few_told list vs few = omega (arith, few, told-length list vs)

pub lists-many-poi : (poi way : List Value) → 4096 < length poi
    → lists_told poi way ≡ Err (MappingFault.TooMany which.List.Poi)
lists-many-poi poi way many =
    many-poi (told_items which.List.Poi (map view poi)) (told_items which.List.Way (map view way))
    (omega (arith, many, told-length which.List.Poi poi))

pub lists-many-way : (poi way : List Value) → length poi ≤ 4096 → 4096 < length way
    → lists_told poi way ≡ Err (MappingFault.TooMany which.List.Way)
lists-many-way poi way few many =
    many-way (told_items which.List.Poi (map view poi)) (told_items which.List.Way (map view way))
    (few_told which.List.Poi poi few) (omega (arith, many, told-length which.List.Way way))

pub lists-poi-fault : (poi way : List Value) (fault : MappingFault) → length poi ≤ 4096 → length way ≤ 4096
    → entries_behind which.List.Poi [] (told_items which.List.Poi (map view poi)) ≡ Err fault
    → lists_told poi way ≡ Err fault
lists-poi-fault poi way fault few few_way is =
    poi-fault (told_items which.List.Poi (map view poi)) (told_items which.List.Way (map view way)) fault
    (few_told which.List.Poi poi few) (few_told which.List.Way way few_way) is

pub lists-way-fault : (poi way : List Value) (es : List Entry) (fault : MappingFault) → length poi ≤ 4096
    → length way ≤ 4096 → entries_behind which.List.Poi [] (told_items which.List.Poi (map view poi)) ≡ Ok es
    → entries_behind which.List.Way [] (told_items which.List.Way (map view way)) ≡ Err fault
    → lists_told poi way ≡ Err fault
lists-way-fault poi way es fault few few_way is wrong =
    way-fault (told_items which.List.Poi (map view poi)) (told_items which.List.Way (map view way)) es fault
    (few_told which.List.Poi poi few) (few_told which.List.Way way few_way) is wrong

pub lists-told : (poi way : List Value) (es fs : List Entry) → length poi ≤ 4096 → length way ≤ 4096
    → entries_behind which.List.Poi [] (told_items which.List.Poi (map view poi)) ≡ Ok es
    → entries_behind which.List.Way [] (told_items which.List.Way (map view way)) ≡ Ok fs
    → lists_told poi way ≡ Ok (record { poi = es; way = fs })
lists-told poi way es fs few few_way is also =
    both-told (told_items which.List.Poi (map view poi)) (told_items which.List.Way (map view way)) es fs
    (few_told which.List.Poi poi few) (few_told which.List.Way way few_way) is also

pub lists-are : (poi way : List Value) (es fs : List Entry) → length poi ≤ 4096 → length way ≤ 4096
    → entries_behind which.List.Poi [] (told_items which.List.Poi (map view poi)) ≡ Ok es
    → entries_behind which.List.Way [] (told_items which.List.Way (map view way)) ≡ Ok fs
    → AllByRecursion IsTold (told_items which.List.Poi (map view poi))
    → AllByRecursion IsTold (told_items which.List.Way (map view way))
    → IsMapping (record { poi = es; way = fs })
lists-are poi way es fs few few_way is also told told_way =
    both-are (told_items which.List.Poi (map view poi)) (told_items which.List.Way (map view way)) es fs
    (few_told which.List.Poi poi few) (few_told which.List.Way way few_way) is also told told_way

-- ---- one list, and one item

pub tables-right : (value : Data) (vs : List Value) → Some (map view vs) ≡ items_in value
    → true ≡ list_all (λ v. is_some (as_table (view v))) vs → Some (map view vs) ≡ tables_in (Some value)
tables-right value vs items all = rw (← items, ← all-tables vs, ← all) refl

pub tables-wrong : (value : Data) (vs : List Value) → Some (map view vs) ≡ items_in value
    → false ≡ list_all (λ v. is_some (as_table (view v))) vs → None ≡ tables_in (Some value)
tables-wrong value vs items other = rw (← items, ← all-tables vs, ← other) refl

pub told-text : (o : Option Told) → IfSome o (λ t. IsEntryText (told_shown t)) → IsTold (option_map told_shown o)
told-text None text = tt
told-text (Some t) text = text
