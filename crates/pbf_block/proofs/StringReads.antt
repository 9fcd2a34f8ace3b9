-- The entries of a StringTable, one after another.
use Rattle.std.proofs.Common.{◌≡◌, ◌∙◌, ◌∷◌, ◌++◌, ◌+◌, ◌-◌, ◌<◌, ◌≤◌, ℕ, suc, List, [], Bool, true, false, cond}
use Rattle.std.proofs.Common.{Option, Some, None, Result, Ok, Err, ap, refl, sym, subst, inl, inr, length, take, drop}
use Rattle.std.proofs.Common.{map, arith, append_assoc, length-append, append-nil, nat_lt}
use Rattle.std.specs.Prelude.{OnOk, OnErr, option_map, slice_range, not, position}
use Rattle.std.specs.Option.{option_or}
use Rattle.std.specs.List.{prefix_len}
use Rattle.std.specs.Str.{is_utf8}
use Rattle.std.proofs.lemmas.Bool.{le-leb, lt-leb, lt-ltb, le-ltb, cases_Bool, cases_lt}
use Rattle.std.proofs.lemmas.List.{drop_at, take-append-drop, drop-drop, length-take, length-drop, map-append}
use Rattle.std.proofs.Math.Seq.{drop-append-add}
use Rattle.mf_base.specs.Texts.{Text}
use Rattle.std.proofs.lemmas.Option.{none-some}
use Rattle.mf_base.specs.Entries.{text_at, are_texts}
use Rattle.mf_base.specs.NumberReading.{varint_front}
use Rattle.mf_base.specs.Steps.{◌>>=◌, refuse, fault_of}
use Rattle.mf_base.specs.Spelling.{IsVarint}
use Rattle.mf_base.proofs.EntryLaws.{text-reads}
use Rattle.mf_base.proofs.NumberLemmas.{varint_reads}
use Rattle.mf_base.proofs.StepLaws.{err_is_no_ok}
use Rattle.osm_model.specs.declared.limits.TheConstants.{STRINGS_LIMIT}
use Rattle.osm_model.specs.declared.numbers.TheConstants.{STRINGTABLE_S, BLOCK_STRINGTABLE}
use Rattle.osm_model.specs.declared.tables.TheConstants.{STRING_TABLE, PRIMITIVE_BLOCK}
use Rattle.osm_model.specs.declared.faults.BlockFault.{BlockFault}
use Rattle.osm_model.specs.declared.faults.BlockFault.TheVariants as block_faults
use Rattle.osm_model.specs.declared.faults.MessageFault.{MessageFault}
use Rattle.osm_model.specs.Reading.{then_reads}
use Rattle.osm_model.specs.Wire.{Field, fields, field_front, len, SpellsValue, field_key}
use Rattle.osm_model.specs.Tables.{message, once_of, bytes_of}
use Rattle.osm_model.specs.Blocks.{strings_in, block_strings}
use Rattle.osm_model.proofs.FieldLaws.{field_found}
use Rattle.osm_model.proofs.MessageLaws.{fields-more}
use Rattle.pbf_wire.specs.declared.fields.Field as field
use Rattle.pbf_wire.proofs.FieldWalk.{IsBehind, still_behind}
use Rattle.pbf_wire.proofs.MessageReads.{bytes-next}
use Rattle.pbf_wire.specs.Shown.{BeginsWith}
use Rattle.pbf_block.specs.Strings.{AreAt, unless_refused, checked_strings}

-- ---- the place of an entry

len_spelled : (f : Field) (bytes b : List ℕ) → f.value ≡ len bytes → SpellsValue f.value b
    → (size : List ℕ) × IsVarint (length bytes) size × (b ≡ size ++ bytes)
len_spelled f bytes b value spelled = subst (λ v. SpellsValue v b) value spelled

-- the bytes of a table, and behind them the rest of the block
split_block : (block : List ℕ) (start end : ℕ) → start ≤ end → end ≤ length block
    → block ≡ take start block ++ (slice_range block start end ++ drop end block)
split_block block start end low high =
    sym (take-append-drop start block)
    ∙ ap (λ b. take start block ++ b) (sym (take-append-drop (end - start) (drop start block))
    ∙ ap (λ b. slice_range block start end ++ b) (drop-drop (end - start) start block
    ∙ ap (λ n. drop n block) (omega (arith, low))))

regroup : (a b c d e f : List ℕ) → a ++ ((b ++ (c ++ (d ++ e))) ++ f) ≡ (a ++ b) ++ (c ++ (d ++ (e ++ f)))
regroup a b c d e f = simp append_assoc

-- where the length of an entry stands, and that its text is there
pub record EntryPlace (block : List ℕ) (end : ℕ) (left text : List ℕ) : Type 0 where
  pub number : ℕ
  pub size : ℕ
  pub front : varint_front left ≡ Ok (number, size)
  pub there : text_at block (end - length left + size) ≡ Some text
  pub near : end - length left + size < length block

pub entry_place : (block left : List ℕ) (start end : ℕ) (f : Field) (text : List ℕ) (n : ℕ) → start ≤ end
    → end ≤ length block → IsBehind (slice_range block start end) left → field_front left ≡ Ok (f, n)
    → f.value ≡ len text → EntryPlace block end left text
entry_place block left start end f text n low high (front, behind) read value =
    let (key, spelled, keyed, valued, whole) = (field_found left f n read).spelled.spelled in
    let (size, sized, is) = len_spelled f text spelled value valued in
    let rest = drop n left in
    let left_is : left ≡ key ++ ((size ++ text) ++ rest) = sym (take-append-drop n left)
    ∙ ap (λ b. b ++ rest) (whole ∙ ap (λ b. key ++ b) is) ∙ append_assoc key (size ++ text) rest in
    let x = take start block ++ front in
    let tail = rest ++ drop end block in
    let parts : block ≡ x ++ (key ++ ((size ++ text) ++ tail)) =
    split_block block start end low high
    ∙ ap (λ b. take start block ++ (b ++ drop end block)) (behind ∙ ap (λ b. front ++ b) left_is)
    ∙ regroup (take start block) front key (size ++ text) rest (drop end block) in
    let at : end - length left ≡ length x =
    omega (
      arith,
      ap length behind,
      length-append front left,
      length-append (take start block) front,
      length-take start block,
      length-take (end - start) (drop start block),
      length-drop start block,
    ) in
    record {
      number = field_key f;
      size = length key;
      front = ap varint_front left_is ∙ varint_reads (field_key f) key ((size ++ text) ++ rest) keyed;
      there = text-reads block (end - length left + length key) text (
        size,
        tail,
        sized,
        ap (λ m. drop (m + length key) block) at ∙ ap (drop (length x + length key)) parts
            ∙ drop-append-add x (key ++ ((size ++ text) ++ tail)) (length key)
            ∙ drop_at key ((size ++ text) ++ tail) (length key) refl,
      );
      near = omega (
        arith,
        at,
        ap length parts,
        length-append x (key ++ ((size ++ text) ++ tail)),
        length-append key ((size ++ text) ++ tail),
        length-append (size ++ text) tail,
        length-append size text,
        sized.run,
      );
    }

-- ---- the entries so far

not_text : Text → Bool
not_text entry = not (is_utf8 entry)

pub record IndexedSoFar (block table places : List ℕ) (bad : Option ℕ) (left : List ℕ) : Type 0 where
  pub texts : List Text
  pub all : bytes_of STRINGTABLE_S (fields table).items ≡ texts ++ bytes_of STRINGTABLE_S (fields left).items
  pub there : AreAt block places texts
  pub many : length places ≡ length texts
  pub few : length texts ≤ STRINGS_LIMIT
  pub first : bad ≡ position (λ entry. not (is_utf8 entry)) texts
  pub behind : IsBehind table left

pub indexed-none : (block table places : List ℕ) → places ≡ [] → IndexedSoFar block table places None table
indexed-none block table places e = subst (λ p. IndexedSoFar block table p None table) (sym e) (record {
  texts = [];
  all = refl;
  there = refl;
  many = refl;
  few = omega arith;
  first = refl;
  behind = ([], refl);
})

-- ---- the first that is no text

position-here : {A : Type 0} (p : A → Bool) (x : A) (xs : List A) → p x ≡ true → position p (x ∷ xs) ≡ Some 0
position-here p x xs e = rw e (rw (lt-ltb 0 (suc (length xs)) (omega arith)) refl)

shifted : (p n : ℕ)
    → cond (nat_lt (1 + p) (suc n)) (Some (1 + p)) None ≡ option_map suc (cond (nat_lt p n) (Some p) None)
shifted p n = elim (cases_lt p n) [
  | inl less ↦ rw (lt-ltb (1 + p) (suc n) (omega (arith, less)), lt-ltb p n less) (ap Some (omega arith))
  | inr not_less ↦ rw (le-ltb (1 + p) (suc n) (omega (arith, not_less)), le-ltb p n not_less) refl
]

position-behind : {A : Type 0} (p : A → Bool) (x : A) (xs : List A) → p x ≡ false
    → position p (x ∷ xs) ≡ option_map suc (position p xs)
position-behind p x xs e = rw e (shifted (prefix_len (λ y. not (p y)) xs) (length xs))

-- the index of one more, where it passes
abbrev one_more : Bool → ℕ → Option ℕ
one_more passes index = cond passes (Some index) None

or_shifted : (o : Option ℕ) (passes : Bool) (n : ℕ)
    → option_map suc (option_or o (one_more passes n)) ≡ option_or (option_map suc o) (one_more passes (suc n))
or_shifted None true n = refl
or_shifted None false n = refl
or_shifted (Some k) passes n = refl

position-push : {A : Type 0} (p : A → Bool) (xs : List A) (x : A)
    → position p (xs ++ x ∷ []) ≡ option_or (position p xs) (one_more (p x) (length xs))
position-push p [] x = elim (cases_Bool (p x)) [
  | inl here ↦ position-here p x [] here ∙ ap (λ b. one_more b 0) (sym here)
  | inr other ↦ position-behind p x [] other ∙ ap (λ b. one_more b 0) (sym other)
]
position-push p (y ∷ ys) x = elim (cases_Bool (p y)) [
  | inl here ↦ position-here p y (ys ++ x ∷ []) here
      ∙ ap (λ o. option_or o (one_more (p x) (suc (length ys)))) (sym (position-here p y ys here))
  | inr other ↦ position-behind p y (ys ++ x ∷ []) other ∙ ap (option_map suc) (position-push p ys x)
      ∙ or_shifted (position p ys) (p x) (length ys)
      ∙ ap (λ o. option_or o (one_more (p x) (suc (length ys)))) (sym (position-behind p y ys other))
]

turned : (b : Bool) (n : ℕ) → one_more (not b) n ≡ cond b None (Some n)
turned true n = refl
turned false n = refl

-- one entry more
pub indexed-more : (block table places : List ℕ) (bad : Option ℕ) (left rest text : List ℕ) (place : ℕ) (f : Field)
    (n : ℕ) → (so : IndexedSoFar block table places bad left) → field_front left ≡ Ok (f, n) → rest ≡ drop n left
    → fields left ≡ then_reads f (fields rest) → bytes_of STRINGTABLE_S (f ∷ []) ≡ text ∷ []
    → text_at block place ≡ Some text → length places < STRINGS_LIMIT
    → IndexedSoFar block table (places ++ place ∷ [])
    (option_or bad (cond (is_utf8 text) None (Some (length places)))) rest
indexed-more block table places bad left rest text place f n so read is reads one there room = record {
  texts = so.texts ++ text ∷ [];
  all = so.all ∙ ap (λ b. so.texts ++ b) (bytes-next STRINGTABLE_S left rest f reads
      ∙ ap (λ b. b ++ bytes_of STRINGTABLE_S (fields rest).items) one)
      ∙ sym (append_assoc so.texts (text ∷ []) (bytes_of STRINGTABLE_S (fields rest).items));
  there = map-append (text_at block) places (place ∷ []) ∙ ap (λ b. b ++ text_at block place ∷ []) so.there
      ∙ ap (λ o. map Some so.texts ++ o ∷ []) there ∙ sym (map-append Some so.texts (text ∷ []));
  many = length-append places (place ∷ []) ∙ ap (λ m. m + 1) so.many ∙ sym (length-append so.texts (text ∷ []));
  few = omega (arith, length-append so.texts (text ∷ []), so.many, room);
  first = ap (λ o. option_or o (cond (is_utf8 text) None (Some (length places)))) so.first
      ∙ ap (λ m. option_or (position (λ entry. not (is_utf8 entry)) so.texts) (cond (is_utf8 text) None (Some m)))
      so.many
      ∙ ap (λ o. option_or (position (λ entry. not (is_utf8 entry)) so.texts) o)
      (sym (turned (is_utf8 text) (length so.texts)))
      ∙ sym (position-push (λ entry. not (is_utf8 entry)) so.texts text);
  behind = still_behind table left rest n so.behind is;
}

-- a field that is no entry
pub indexed-pass : (block table places : List ℕ) (bad : Option ℕ) (left rest : List ℕ) (f : Field) (n : ℕ)
    → IndexedSoFar block table places bad left → rest ≡ drop n left
    → fields left ≡ then_reads f (fields rest) → bytes_of STRINGTABLE_S (f ∷ []) ≡ []
    → IndexedSoFar block table places bad rest
indexed-pass block table places bad left rest f n so is reads none = record {
  texts = so.texts;
  all = so.all ∙ ap (λ b. so.texts ++ b) (bytes-next STRINGTABLE_S left rest f reads
      ∙ ap (λ b. b ++ bytes_of STRINGTABLE_S (fields rest).items) none);
  there = so.there;
  many = so.many;
  few = so.few;
  first = so.first;
  behind = still_behind table left rest n so.behind is;
}

-- ---- at the end

pub all_texts : (block table places : List ℕ) (bad : Option ℕ) (left : List ℕ)
    → (so : IndexedSoFar block table places bad left) → bytes_of STRINGTABLE_S (fields left).items ≡ []
    → bytes_of STRINGTABLE_S (fields table).items ≡ so.texts
all_texts block table places bad left so none = so.all ∙ ap (λ b. so.texts ++ b) none ∙ append-nil so.texts

told_so : (r : Result (Unit {0}) BlockFault) (bad : Option ℕ) (texts : List Text)
    → r ≡ refuse (option_map block_faults.NotText bad)
    → unless_refused r texts ≡ (refuse (option_map block_faults.NotText bad) >>= λ u. Ok texts)
told_so r bad texts e = ap (λ r. unless_refused r texts) e

pub indexed-told : (block table places : List ℕ) (bad : Option ℕ) (left : List ℕ) (r : Result (Unit {0}) BlockFault)
    → IndexedSoFar block table places bad left → bytes_of STRINGTABLE_S (fields left).items ≡ []
    → r ≡ refuse (option_map block_faults.NotText bad)
    → unless_refused r (bytes_of STRINGTABLE_S (fields table).items)
    ≡ checked_strings (bytes_of STRINGTABLE_S (fields table).items)
indexed-told block table places bad left r so none e =
    let all = all_texts block table places bad left so none in
    subst (λ ts. unless_refused r ts ≡ checked_strings ts) (sym all)
    (told_so r bad so.texts e ∙ rw (so.first, le-leb (length so.texts) STRINGS_LIMIT so.few) refl)

pub indexed-there : (block table places : List ℕ) (bad : Option ℕ) (left : List ℕ)
    → IndexedSoFar block table places bad left → bytes_of STRINGTABLE_S (fields left).items ≡ []
    → AreAt block places (bytes_of STRINGTABLE_S (fields table).items)
indexed-there block table places bad left so none = so.there
    ∙ ap (map Some) (sym (all_texts block table places bad left so none))

pub indexed-few : (block table places : List ℕ) (bad : Option ℕ) (left : List ℕ)
    → IndexedSoFar block table places bad left → length places ≤ STRINGS_LIMIT
indexed-few block table places bad left so = omega (arith, so.many, so.few)

-- one entry too many
pub indexed-over : (block table places : List ℕ) (bad : Option ℕ) (left rest text : List ℕ) (f : Field)
    → IndexedSoFar block table places bad left → fields left ≡ then_reads f (fields rest)
    → bytes_of STRINGTABLE_S (f ∷ []) ≡ text ∷ [] → STRINGS_LIMIT ≤ length places
    → unless_refused (Err block_faults.TooManyStrings) (bytes_of STRINGTABLE_S (fields table).items)
    ≡ checked_strings (bytes_of STRINGTABLE_S (fields table).items)
indexed-over block table places bad left rest text f so reads one full =
    let all = so.all
    ∙ ap (λ b. so.texts ++ b) (bytes-next STRINGTABLE_S left rest f reads
    ∙ ap (λ b. b ++ bytes_of STRINGTABLE_S (fields rest).items) one) in
    let more = bytes_of STRINGTABLE_S (fields rest).items in
    let count : length (bytes_of STRINGTABLE_S (fields table).items) ≡ length so.texts + suc (length more) =
    ap length all ∙ length-append so.texts (text ∷ more) in
    sym (rw (lt-leb (length (bytes_of STRINGTABLE_S (fields table).items)) STRINGS_LIMIT
    (omega (arith, count, so.many, full))) refl)

-- ---- the whole table

pub table-refused : (table : List ℕ) (fault : MessageFault) → message STRING_TABLE table ≡ Err fault
    → strings_in table ≡ Err (block_faults.Wire fault)
unfolding strings_in
table-refused table fault e = rw (e, strings_in) refl

pub table-checked : (table : List ℕ) (fs : List Field) → message STRING_TABLE table ≡ Ok fs
    → strings_in table ≡ checked_strings (bytes_of STRINGTABLE_S fs)
unfolding strings_in
table-checked table fs e = rw (e, strings_in) refl

pub block-refused : (raw : List ℕ) (fault : MessageFault) → message PRIMITIVE_BLOCK raw ≡ Err fault
    → block_strings raw ≡ Err (block_faults.Wire fault)
unfolding block_strings
block-refused raw fault e = rw (e, block_strings) refl

pub block-none : (raw : List ℕ) (fs : List Field) → message PRIMITIVE_BLOCK raw ≡ Ok fs
    → once_of BLOCK_STRINGTABLE fs ≡ None → block_strings raw ≡ Err block_faults.NoStrings
unfolding block_strings
block-none raw fs e none = rw (e, none, block_strings) refl

pub block-some : (raw : List ℕ) (fs : List Field) (table : List ℕ) → message PRIMITIVE_BLOCK raw ≡ Ok fs
    → once_of BLOCK_STRINGTABLE fs ≡ Some table → block_strings raw ≡ strings_in table
unfolding block_strings
block-some raw fs table e some = rw (e, some, block_strings) refl

-- what was refused has no texts
pub no_texts : {P : Type 0} (r : Result (List Text) BlockFault) (fault : BlockFault) (texts : List Text)
    → r ≡ Err fault → r ≡ Ok texts → P
no_texts r fault texts e f = absurd (err_is_no_ok fault texts (sym e ∙ f))

-- what is told of a table by its answer
pub told-fault : (r : Result (Unit {0}) BlockFault) (texts : List Text) → fault_of r ≡ fault_of (unless_refused r texts)
told-fault (Ok u) texts = refl
told-fault (Err fault) texts = refl

-- the field that the reader gave, and those behind it
pub reads_of : (left rest : List ℕ) (given : field.Field) → (b : BeginsWith left given rest)
    → fields left ≡ then_reads b.field (fields rest)
reads_of left rest given b = fields-more left b.field b.size b.front
    ∙ ap (λ x. then_reads b.field (fields x)) (sym b.behind)

pub on_ok : {T E P : Type 0} (r : Result T E) → P → OnOk r P
on_ok (Ok x) p = p
on_ok (Err e) p = tt

-- ---- a table that was indexed serves its block

some_held : (block places : List ℕ) (texts : List Text) → AreAt block places texts → are_texts block places ≡ true
some_held block [] texts e = refl
some_held block (p ∷ ps) [] e = absurd (cc e)
some_held block (p ∷ ps) (t ∷ ts) e =
    let first : text_at block p ≡ Some t = cc e in
    let others : AreAt block ps ts = cc e in
    rw first (some_held block ps ts others)

pub strings_held : (block places : List ℕ) (r : Result (Unit {0}) BlockFault)
    → fault_of r ≡ fault_of (block_strings block)
    → ((texts : List Text) → block_strings block ≡ Ok texts → AreAt block places texts)
    → OnErr r (places ≡ []) → are_texts block places ≡ true
strings_held block places r refused strings empty = go (block_strings block) refl r refused empty
  where
    go : (told : Result (List Text) BlockFault) → block_strings block ≡ told → (r : Result (Unit {0}) BlockFault)
        → fault_of r ≡ fault_of (block_strings block) → OnErr r (places ≡ []) → are_texts block places ≡ true
    go (Ok texts) e r same none = some_held block places texts (strings texts e)
    go (Err fault) e (Ok u) same none = absurd (none-some fault (same ∙ ap fault_of e))
    go (Err fault) e (Err f) same none = subst (λ p. are_texts block p ≡ true) (sym none) refl
