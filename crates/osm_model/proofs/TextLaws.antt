-- The strings of a block are UTF-8, and so are the texts that entities have of them: laws on accepted inputs cite this.
use Rattle.std.proofs.Common.{◌≡◌, ◌∙◌, ℕ, List, [], ◌∷◌, length, get_or, refl, sym, ap, subst, arith, inl, inr, true}
use Rattle.std.proofs.Common.{false, Bool, Result, Ok, Err, Option, Some, None, ℤ, nat_lt, nat_le}
use Rattle.std.specs.Prelude.{◌==◌, ◌&&◌, not, position, slice_get, ok_or, option_map, zip}
use Rattle.std.specs.List.{All, AllByRecursion, position_or_len}
use Rattle.std.specs.Str.{is_utf8}
use Rattle.std.proofs.lemmas.Bool.{ltb-false}
use Rattle.std.proofs.lemmas.List.Elements.{All-nil, All-cons}
use Rattle.std.proofs.lemmas.List.Sums.{fails_before_first}
use Rattle.std.proofs.lemmas.Option.{slice_get_within, get_or_from_slice_get}
use Rattle.mf_base.specs.Tags.{Tag, Tags}
use Rattle.mf_base.specs.Ranges.{is_signed_64}
use Rattle.mf_base.specs.Steps.{◌>>=◌, require, refuse, told_as, each}
use Rattle.mf_base.proofs.StepLaws.{err_is_no_ok, bind_ok, require_ok, refuse_ok, ok_or_ok, ok_is, chosen, map_none}
use Rattle.osm_model.specs.declared.faults.BlockFault.{BlockFault}
use Rattle.osm_model.specs.declared.faults.BlockFault.TheVariants as block_faults
use Rattle.osm_model.specs.declared.faults.EntityFault.TheVariants as entity_faults
use Rattle.osm_model.specs.declared.limits.TheConstants.{STRINGS_LIMIT}
use Rattle.osm_model.specs.declared.numbers.TheConstants.{BLOCK_STRINGTABLE, STRINGTABLE_S}
use Rattle.osm_model.specs.declared.tables.TheConstants.{STRING_TABLE, PRIMITIVE_BLOCK}
use Rattle.osm_model.specs.Tables.{message, once_of, bytes_of}
use Rattle.osm_model.specs.Blocks.{PrimitiveBlock, strings_in, strings_of, block_strings, block}
use Rattle.osm_model.specs.Entities.{Member}
use Rattle.osm_model.specs.Accepted.{AreTexts}
use Rattle.osm_model.specs.Objects.{string_at, tag_at, indexed_tags, TagRun, RunEnd, by_zero, behind_key, with_list}
use Rattle.osm_model.specs.Objects.{end_of_run, run_tags, kind_at, member_at, members_of, running_sums, zip_three}
use Rattle.osm_model.proofs.TableLaws.{some_no_none}
use Rattle.osm_model.proofs.BlockLaws.{block-parts}

-- ---- lists

pub all_of : {A : Type 0} (P : A → Type 0) (xs : List A) → AllByRecursion P xs → All P xs
all_of P [] h = All-nil P
all_of P (x ∷ xs) h = All-cons P x xs h.0 (all_of P xs h.1)

-- what each step answers has a property
each_all : {A B F : Type 0} (step : A → Result B F) (P : B → Type 0) → ((x : A) (y : B) → step x ≡ Ok y → P y)
    → (xs : List A) (ys : List B) → each step xs ≡ Ok ys → AllByRecursion P ys
each_all step P holds [] ys e = subst (AllByRecursion P) (ok_is [] ys e) tt
each_all step P holds (x ∷ xs) ys e =
    let (first, is, r1) = bind_ok (step x) (λ f. each step xs >>= λ others. Ok (f ∷ others)) ys e in
    let (others, are, last) = bind_ok (each step xs) (λ o. Ok (first ∷ o)) ys r1 in
    subst (AllByRecursion P) (ok_is (first ∷ others) ys last) (holds x first is, each_all step P holds xs others are)

none_passes : {A : Type 0} (p : A → Bool) (xs : List A) → position p xs ≡ None → All (λ x. p x ≡ false) xs
none_passes p xs e k d lt =
    elim (chosen (nat_lt (position_or_len p xs) (length xs)) (Some (position_or_len p xs)) None None e) [
      | inl some ↦ absurd (some_no_none (position_or_len p xs) some.1)
      | inr none ↦ let past = ltb-false (position_or_len p xs) (length xs) none.0 in
          fails_before_first p xs k d (omega (arith, lt, past))
    ]

not_false : (b : Bool) → not b ≡ false → b ≡ true
not_false true e = refl
not_false false e = sym e

-- ---- strings

-- all are UTF-8
abbrev pub AreStrings : List (List ℕ) → Type 0
AreStrings strings = All (λ s. is_utf8 s ≡ true) strings

abbrev texts_from : List (List ℕ) → Result (List (List ℕ)) BlockFault
texts_from strings =
    refuse (option_map block_faults.NotText (position (λ entry. not (is_utf8 entry)) strings)) >>= λ _. Ok strings

abbrev few_from : List (List ℕ) → Result (List (List ℕ)) BlockFault
few_from strings =
    require (nat_le (length strings) STRINGS_LIMIT) block_faults.TooManyStrings >>= λ _. texts_from strings

strings-from : (table : List ℕ)
    → strings_in table
    ≡ (told_as block_faults.Wire (message STRING_TABLE table) >>= λ fs. few_from (bytes_of STRINGTABLE_S fs))
unfolding strings_in
strings-from table = refl

texts-are : (found strings : List (List ℕ)) → texts_from found ≡ Ok strings → AreStrings strings
texts-are found strings e =
    let bad : Option ℕ = position (λ entry. not (is_utf8 entry)) found in
    let (u, told, last) = bind_ok (refuse (option_map block_faults.NotText bad)) (λ _. Ok found) strings e in
    let none : bad ≡ None =
    map_none block_faults.NotText bad (refuse_ok (option_map block_faults.NotText bad) u told) in
    let all = none_passes (λ entry. not (is_utf8 entry)) found none in
    subst AreStrings (ok_is found strings last) (λ k d lt. not_false (is_utf8 (get_or found k d)) (all k d lt))

table-strings : (table : List ℕ) (strings : List (List ℕ)) → strings_in table ≡ Ok strings → AreStrings strings
table-strings table strings e =
    let (fs, read, r1) =
    bind_ok (told_as block_faults.Wire (message STRING_TABLE table))
    (λ fs. few_from (bytes_of STRINGTABLE_S fs)) strings (sym (strings-from table) ∙ e) in
    let found : List (List ℕ) = bytes_of STRINGTABLE_S fs in
    let (u, few, r2) =
    bind_ok (require (nat_le (length found) STRINGS_LIMIT) block_faults.TooManyStrings)
    (λ _. texts_from found) strings r1 in
    texts-are found strings r2

block_strings-from : (raw : List ℕ)
    → block_strings raw ≡ (told_as block_faults.Wire (message PRIMITIVE_BLOCK raw) >>= strings_of)
unfolding block_strings
block_strings-from raw = refl

pub block-strings : (raw : List ℕ) (b : PrimitiveBlock) → block raw ≡ Ok b → AreStrings b.strings
block-strings raw b e =
    let (fs, read, r1) =
    bind_ok (told_as block_faults.Wire (message PRIMITIVE_BLOCK raw)) strings_of b.strings
    (sym (block_strings-from raw) ∙ (block-parts raw b e).strings) in
    let (table, held, last) =
    bind_ok (ok_or (once_of BLOCK_STRINGTABLE fs) block_faults.NoStrings) strings_in b.strings r1 in
    table-strings table b.strings last

-- ---- the texts of entities

string-text : (strings : List (List ℕ)) → AreStrings strings → (k : ℕ) (text : List ℕ) → string_at strings k ≡ Ok text
    → is_utf8 text ≡ true
string-text strings are k text e =
    let found : slice_get strings k ≡ Some text = ok_or_ok (slice_get strings k) entity_faults.StringIndex text e in
    ap is_utf8 (sym (get_or_from_slice_get strings k text [] found)) ∙ are k [] (slice_get_within strings k text found)

abbrev IsTextTag : Tag → Type 0
IsTextTag t = (is_utf8 t.0 ≡ true) × (is_utf8 t.1 ≡ true)

tag-text : (strings : List (List ℕ)) → AreStrings strings → (pair : ℕ × ℕ) (t : Tag) → tag_at strings pair ≡ Ok t
    → IsTextTag t
tag-text strings are pair t e =
    let (key, k, r1) = bind_ok (string_at strings pair.0) (λ x. string_at strings pair.1 >>= λ v. Ok (x, v)) t e in
    let (value, v, last) = bind_ok (string_at strings pair.1) (λ x. Ok (key, x)) t r1 in
    subst IsTextTag (ok_is (key, value) t last) (
      string-text strings are pair.0 key k,
      string-text strings are pair.1 value v,
    )

each-texts : (strings : List (List ℕ)) → AreStrings strings → (pairs : List (ℕ × ℕ)) (tags : Tags)
    → each (tag_at strings) pairs ≡ Ok tags → AreTexts tags
each-texts strings are pairs tags e =
    all_of IsTextTag tags (each_all (tag_at strings) IsTextTag (tag-text strings are) pairs tags e)

pub indexed-texts : (strings : List (List ℕ)) → AreStrings strings → (keys vals : List ℕ) (tags : Tags)
    → indexed_tags strings keys vals ≡ Ok tags → AreTexts tags
unfolding indexed_tags
indexed-texts strings are keys vals tags e =
    let (u, same, last) =
    bind_ok (require (length keys == length vals) entity_faults.KeyWithoutValue)
    (λ _. each (tag_at strings) (zip keys vals)) tags e in
    each-texts strings are (zip keys vals) tags last

end-same : (strings : List (List ℕ)) (ends : RunEnd) (found tags : Tags) → end_of_run strings ends found ≡ Ok tags
    → found ≡ tags
end-same strings by_zero found tags e = ok_is found tags e
end-same strings (behind_key k) found tags e =
    let (key, is, last) = bind_ok (string_at strings k) (λ _. Err entity_faults.KeyWithoutValue) tags e in
    absurd (err_is_no_ok entity_faults.KeyWithoutValue tags last)
end-same strings with_list found tags e = absurd (err_is_no_ok entity_faults.Columns tags e)

pub run-texts : (strings : List (List ℕ)) → AreStrings strings → (run : TagRun) (tags : Tags)
    → run_tags strings run ≡ Ok tags → AreTexts tags
unfolding run_tags
run-texts strings are run tags e =
    let (found, is, last) = bind_ok (each (tag_at strings) run.pairs) (end_of_run strings run.ends) tags e in
    subst AreTexts (end-same strings run.ends found tags last) (each-texts strings are run.pairs found is)

-- a member has an id of signed 64 bits, and a role that is UTF-8
abbrev pub IsMember : Member → Type 0
IsMember m = (is_signed_64 m.id ≡ true) × (is_utf8 m.role ≡ true)

member-is : (strings : List (List ℕ)) → AreStrings strings → (told : ℕ × ℤ × ℕ) (m : Member)
    → member_at strings told ≡ Ok m → IsMember m
member-is strings are (index, id, type) m e =
    let (role, r, r1) =
    bind_ok (string_at strings index) (λ x. require (is_signed_64 id) entity_faults.Range >>= λ _. kind_at type
    >>= λ k. Ok (record { kind = k; id = id; role = x })) m e in
    let (u, tested, r2) =
    bind_ok (require (is_signed_64 id) entity_faults.Range)
    (λ _. kind_at type >>= λ k. Ok (record { kind = k; id = id; role = role })) m r1 in
    let (kind, k, last) = bind_ok (kind_at type) (λ k. Ok (record { kind = k; id = id; role = role })) m r2 in
    subst IsMember {x =
    record { kind = kind; id = id; role = role }} (ok_is (record { kind = kind; id = id; role = role }) m last)
    (require_ok (is_signed_64 id) entity_faults.Range u tested, string-text strings are index role r)

pub members-are : (strings : List (List ℕ)) → AreStrings strings
    → (roles : List ℕ) (ids : List ℤ) (types : List ℕ) (members : List Member)
    → members_of strings roles ids types ≡ Ok members → All IsMember members
members-are strings are roles ids types members e =
    let (u, same, last) =
    bind_ok (require ((length roles == length ids) && (length roles == length types)) entity_faults.Columns)
    (λ _. each (member_at strings) (zip_three roles (running_sums ids) types)) members e in
    all_of IsMember members
    (each_all (member_at strings) IsMember (member-is strings are)
    (zip_three roles (running_sums ids) types) members last)
