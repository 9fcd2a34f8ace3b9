-- What is accepted is a mapping as it was told, and each mapping is accepted.
use Rattle.std.proofs.Common.{◌≡◌, ℕ, suc, ◌≤◌, List, [], ◌∷◌, ◌++◌, map, length, true, false, not, ◌||◌, ◌&&◌, Option}
use Rattle.std.proofs.Common.{Some, Ok, refl, sym, ap, ◌∙◌, subst, arith}
use Rattle.std.specs.Prelude.{nat_le, ok_or}
use Rattle.std.specs.List.{AllByRecursion, IsDistinct}
use Rattle.std.proofs.lemmas.Bool.{le-leb, leb-true, and_parts, or_parts, not-true}
use Rattle.std.proofs.lemmas.List.{append-nil, append_assoc}
use Rattle.std.proofs.lemmas.Map.Keys.{IsDistinct-cons, IsDistinct-head, IsDistinct-tail}
use Rattle.std.proofs.lemmas.List.Folds.{list_any-append}
use Rattle.mf_base.specs.declared.kind.EntityKind.{EntityKind}
use Rattle.mf_base.specs.Texts.{Text, has_byte}
use Rattle.mf_base.specs.Steps.{◌>>=◌, require}
use Rattle.mf_base.proofs.StepLaws.{bind_ok, require_ok, ok_or_ok, ok_is}
use Rattle.mf_base.specs.declared.kind.List as which
use Rattle.feature_model.specs.declared.fault.MappingFault.{MappingFault}
use Rattle.feature_model.specs.Mapping.{Entry, Mapping}
use Rattle.feature_model.specs.Descriptions.{entries_for}
use Rattle.feature_model.specs.Entries.{keeps_entry_rule, keeps_kind_rule, is_short, may_have_marks, is_same_tag}
use Rattle.feature_model.specs.Entries.{is_there, entry_behind, entries_behind, entries_limit, mapping_told, IsTold}
use Rattle.feature_model.specs.Entries.{IsEntry, AreEntries, IsMapping}

-- no entry of a list has the key and value of one that stands before all of them
abbrev pub AreNew : List Entry → List Entry → Type 0
AreNew before entries = AllByRecursion (λ e. is_there before e ≡ false) entries

-- what is behind an entry and those before it
new-behind : (before : List Entry) (e : Entry) (more : List Entry) → AreNew (before ++ e ∷ []) more
    → AreNew before more × AllByRecursion (λ later. is_same_tag e later ≡ false) more
new-behind before e [] new = (tt, tt)
new-behind before e (later ∷ more) new =
    let parts = or_parts (is_there before later) (is_same_tag e later || false)
    (sym (list_any-append (λ earlier. is_same_tag earlier later) before (e ∷ [])) ∙ new.0) in
    let here = or_parts (is_same_tag e later) false parts.1 in
    let others = new-behind before e more new.1 in
    ((parts.0, others.0), (here.0, others.1))

new-after : (before : List Entry) (e : Entry) (more : List Entry) → AreNew before more
    → AllByRecursion (λ later. is_same_tag e later ≡ false) more → AreNew (before ++ e ∷ []) more
new-after before e [] new apart = tt
new-after before e (later ∷ more) new apart = (
  list_any-append (λ earlier. is_same_tag earlier later) before (e ∷ [])
      ∙ rw (new.0, apart.0) refl,
  new-after before e more new.1 apart.1,
)

nothing-distinct : IsDistinct is_same_tag []
unfolding IsDistinct
nothing-distinct = tt

-- ---- one entry

entry_behind-ok : (list : which.List) (before : List Entry) (told : Option Entry) (e : Entry) → IsTold told
    → entry_behind list before told ≡ Ok e → (told ≡ Some e) × IsEntry list e × (is_there before e ≡ false)
unfolding entry_behind
entry_behind-ok list before told e utf h =
    let index : ℕ = length before in
    let (f, is_told, h1) =
    bind_ok (ok_or told (MappingFault.Entry list index))
    (λ e. require (keeps_entry_rule list e) (MappingFault.Entry list index)
    >>= (λ u. require (keeps_kind_rule e) (MappingFault.Kind list index)
    >>= (λ u. require (not (is_there before e)) (MappingFault.Twice list index) >>= (λ u. Ok e)))) e h in
    let (u, rule, h2) =
    bind_ok (require (keeps_entry_rule list f) (MappingFault.Entry list index))
    (λ u. require (keeps_kind_rule f) (MappingFault.Kind list index)
    >>= (λ u. require (not (is_there before f)) (MappingFault.Twice list index) >>= (λ u. Ok f))) e h1 in
    let (v, kinds, h3) =
    bind_ok (require (keeps_kind_rule f) (MappingFault.Kind list index))
    (λ u. require (not (is_there before f)) (MappingFault.Twice list index) >>= (λ u. Ok f)) e h2 in
    let (w, new, h4) = bind_ok (require (not (is_there before f)) (MappingFault.Twice list index)) (λ u. Ok f) e h3 in
    let same : f ≡ e = ok_is f e h4 in
    subst (λ (e : Entry). (told ≡ Some e) × IsEntry list e × (is_there before e ≡ false)) same (
      ok_or_ok told (MappingFault.Entry list index) f is_told,
      record {
        entry_rule = require_ok (keeps_entry_rule list f) (MappingFault.Entry list index) u rule;
        kind_rule = require_ok (keeps_kind_rule f) (MappingFault.Kind list index) v kinds;
        text =
            subst IsTold (ok_or_ok told (MappingFault.Entry list index) f is_told) utf;
      },
      not-true (is_there before f) (require_ok (not (is_there before f)) (MappingFault.Twice list index) w new),
    )

entry_behind-some : (list : which.List) (before : List Entry) (e : Entry) → IsEntry list e → is_there before e ≡ false
    → entry_behind list before (Some e) ≡ Ok e
unfolding entry_behind
entry_behind-some list before e is new = rw (is.entry_rule, is.kind_rule, new) refl

-- ---- the entries of a list

-- what was told of entries that are accepted behind others
record Accepted (list : which.List) (before : List Entry) (told : List (Option Entry)) (entries : List Entry) : Type
    0 where
  more : List Entry
  told_so : told ≡ map Some more
  whole : entries ≡ before ++ more
  rules : AllByRecursion (IsEntry list) more
  new : AreNew before more
  distinct : IsDistinct is_same_tag more

entries_behind-ok : (list : which.List) (before : List Entry) (told : List (Option Entry)) (entries : List Entry)
    → AllByRecursion IsTold told → entries_behind list before told ≡ Ok entries → Accepted list before told entries
unfolding entries_behind
entries_behind-ok list before [] entries utf h =
    record {
      more = [];
      told_so = refl;
      whole = sym (ok_is before entries h) ∙ sym (append-nil before);
      rules = tt;
      new = tt;
      distinct = nothing-distinct;
    }
entries_behind-ok list before (told ∷ others) entries utf h =
    let (e, first, rest) =
    bind_ok (entry_behind list before told) (λ e. entries_behind list (before ++ e ∷ []) others) entries h in
    let here = entry_behind-ok list before told e utf.0 first in
    let later = entries_behind-ok list (before ++ e ∷ []) others entries utf.1 rest in
    let apart = new-behind before e later.more later.new in
    record {
      more = e ∷ later.more;
      told_so = ap (λ (t : Option Entry). t ∷ others) here.0
          ∙ ap (λ (ts : List (Option Entry)). Some e ∷ ts) later.told_so;
      whole = later.whole ∙ append_assoc before (e ∷ []) later.more;
      rules = (here.1, later.rules);
      new = (here.2, apart.0);
      distinct = IsDistinct-cons is_same_tag e later.more apart.1 later.distinct;
    }

entries_behind-some : (list : which.List) (before more : List Entry) → AllByRecursion (IsEntry list) more
    → AreNew before more → IsDistinct is_same_tag more
    → entries_behind list before (map Some more) ≡ Ok (before ++ more)
unfolding entries_behind
entries_behind-some list before [] rules new distinct = ap Ok (sym (append-nil before))
entries_behind-some list before (e ∷ more) rules new distinct =
    rw (entry_behind-some list before e rules.0 new.0)
    (entries_behind-some list (before ++ e ∷ []) more rules.1
    (new-after before e more new.1 (IsDistinct-head is_same_tag e more distinct))
    (IsDistinct-tail is_same_tag e more distinct) ∙ ap Ok (append_assoc before (e ∷ []) more))

none-there : (entries : List Entry) → AreNew [] entries
none-there [] = tt
none-there (e ∷ entries) = (refl, none-there entries)

length-told : (entries : List Entry) → length (map Some entries) ≡ length entries
length-told [] = refl
length-told (e ∷ entries) = ap suc (length-told entries)

are_entries : (list : which.List) (told : List (Option Entry)) (entries : List Entry) → length told ≤ entries_limit
    → Accepted list [] told entries → AreEntries list entries × (told ≡ map Some entries)
are_entries list told entries few accepted =
    let same : accepted.more ≡ entries = sym accepted.whole in
    let l : length told ≡ length accepted.more = ap length accepted.told_so ∙ length-told accepted.more in
    subst (λ (es : List Entry). AreEntries list es × (told ≡ map Some es)) same
    (record { few = omega (arith, l, few); rules = accepted.rules; distinct = accepted.distinct }, accepted.told_so)

-- ---- mappings

pub mapping_told-ok : (poi way : List (Option Entry)) (m : Mapping) → AllByRecursion IsTold poi
    → AllByRecursion IsTold way → mapping_told poi way ≡ Ok m
    → IsMapping m × (poi ≡ map Some m.poi) × (way ≡ map Some m.way)
unfolding mapping_told
mapping_told-ok poi way m utf_poi utf_way h =
    let (u, few_poi, h1) = bind_ok (require (nat_le (length poi) entries_limit) (MappingFault.TooMany which.List.Poi))
    (λ u. require (nat_le (length way) entries_limit) (MappingFault.TooMany which.List.Way)
    >>= (λ u. entries_behind which.List.Poi [] poi
    >>= (λ p. entries_behind which.List.Way [] way >>= (λ w. Ok (record { poi = p; way = w }))))) m h in
    let (v, few_way, h2) = bind_ok (require (nat_le (length way) entries_limit) (MappingFault.TooMany which.List.Way))
    (λ u. entries_behind which.List.Poi [] poi
    >>= (λ p. entries_behind which.List.Way [] way >>= (λ w. Ok (record { poi = p; way = w })))) m h1 in
    let (p, ps, h3) =
    bind_ok (entries_behind which.List.Poi [] poi) (λ p. entries_behind which.List.Way [] way
    >>= (λ w. Ok (record { poi = p; way = w }))) m h2 in
    let (w, ws, h4) = bind_ok (entries_behind which.List.Way [] way) (λ w. Ok (record { poi = p; way = w })) m h3 in
    let made : Mapping = record { poi = p; way = w } in
    let a = are_entries which.List.Poi poi p
    (leb-true (length poi) entries_limit
    (require_ok (nat_le (length poi) entries_limit) (MappingFault.TooMany which.List.Poi) u few_poi))
    (entries_behind-ok which.List.Poi [] poi p utf_poi ps) in
    let b = are_entries which.List.Way way w
    (leb-true (length way) entries_limit
    (require_ok (nat_le (length way) entries_limit) (MappingFault.TooMany which.List.Way) v few_way))
    (entries_behind-ok which.List.Way [] way w utf_way ws) in
    subst (λ (m : Mapping). IsMapping m × (poi ≡ map Some m.poi) × (way ≡ map Some m.way)) {x = made} (ok_is made m h4)
    (record { poi = a.0; way = b.0 }, a.1, b.1)

few-told : (entries : List Entry) → length entries ≤ entries_limit
    → nat_le (length (map Some entries)) entries_limit ≡ true
few-told entries few = let l =
    length-told entries in le-leb (length (map Some entries)) entries_limit (omega (arith, l, few))

pub mapping_told-some : (m : Mapping) → IsMapping m → mapping_told (map Some m.poi) (map Some m.way) ≡ Ok m
unfolding mapping_told
mapping_told-some m is =
    let a = entries_behind-some which.List.Poi [] m.poi is.poi.rules (none-there m.poi) is.poi.distinct in
    let b = entries_behind-some which.List.Way [] m.way is.way.rules (none-there m.way) is.way.distinct in
    rw (few-told m.poi is.poi.few, few-told m.way is.way.few, a, b) refl

-- ---- what the entry rule says

pub record EntryRule (list : which.List) (e : Entry) : Type 0 where
  pub key : (1 ≤ length e.key) × (length e.key ≤ 255)
  pub no_equals : has_byte 61 e.key ≡ false
  pub value : (1 ≤ length e.value) × (length e.value ≤ 255)
  pub zoom : e.zoom ≤ 21
  pub marks : may_have_marks list e ≡ true

short-is : (text : Text) → is_short text ≡ true → (1 ≤ length text) × (length text ≤ 255)
short-is text h = let bounds = and_parts (nat_le 1 (length text)) (nat_le (length text) 255) h in
    (leb-true 1 (length text) bounds.0, leb-true (length text) 255 bounds.1)

pub entry_rule-is : (list : which.List) (e : Entry) → keeps_entry_rule list e ≡ true → EntryRule list e
unfolding keeps_entry_rule
entry_rule-is list e h =
    let a = and_parts (is_short e.key && not (has_byte 61 e.key) && is_short e.value && nat_le e.zoom 21)
    (may_have_marks list e) h in
    let b = and_parts (is_short e.key && not (has_byte 61 e.key) && is_short e.value) (nat_le e.zoom 21) a.0 in
    let c = and_parts (is_short e.key && not (has_byte 61 e.key)) (is_short e.value) b.0 in
    let d = and_parts (is_short e.key) (not (has_byte 61 e.key)) c.0 in
    record {
      key = short-is e.key d.0;
      no_equals = not-true (has_byte 61 e.key) d.1;
      value = short-is e.value c.1;
      zoom = leb-true e.zoom 21 b.1;
      marks = a.1;
    }

zooms-are : (list : which.List) (entries : List Entry) → AllByRecursion (IsEntry list) entries
    → AllByRecursion (λ (e : Entry). e.zoom ≤ 21) entries
zooms-are list [] rules = tt
zooms-are list (e ∷ entries) rules = ((entry_rule-is list e rules.0.entry_rule).zoom, zooms-are list entries rules.1)

-- the zoom levels of a mapping are those of the map
pub mapping-zooms : (m : Mapping) (kind : EntityKind) → IsMapping m
    → AllByRecursion (λ (e : Entry). e.zoom ≤ 21) (entries_for m kind)
mapping-zooms m EntityKind.Node is = zooms-are which.List.Poi m.poi is.poi.rules
mapping-zooms m EntityKind.Way is = zooms-are which.List.Way m.way is.way.rules
mapping-zooms m EntityKind.Relation is = zooms-are which.List.Way m.way is.way.rules
