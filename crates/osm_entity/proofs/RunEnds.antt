-- The end of a run of keys and values.
use Rattle.std.proofs.Common.{◌≡◌, ◌∙◌, ◌∷◌, ◌++◌, ◌&&◌, ◌<◌, ◌≤◌, ◌+◌, ◌-◌, ◌%◌, ℕ, List, [], true}
use Rattle.std.proofs.Common.{Option, Some, None, Result, Ok, Err, ap, refl, sym, subst, length, arith, take, drop}
use Rattle.std.proofs.Common.{nat_lt}
use Rattle.std.proofs.Common.{append_assoc, append-nil, inr}
use Rattle.std.proofs.lemmas.Bool.{and_from, lt-ltb}
use Rattle.std.proofs.lemmas.List.{take_rest, drop-drop, length-drop, length-append}
use Rattle.std.proofs.lemmas.List.Folds.{list_all-append}
use Rattle.std.proofs.Math.Seq.{take-add}
use Rattle.mf_base.specs.Texts.{Text}
use Rattle.mf_base.specs.Packed.{are_varints, packed_numbers}
use Rattle.mf_base.specs.Spelling.{IsVarint}
use Rattle.mf_base.specs.NumberReading.{varint_front}
use Rattle.mf_base.specs.Entries.{are_entries, by_twos}
use Rattle.mf_base.specs.declared.number.VarintFault.{VarintFault}
use Rattle.mf_base.proofs.NumberLemmas.{varint_found}
use Rattle.mf_base.proofs.PackedFront.{numbers-first, whole-first, whole-end, whole-nil, numbers-nil}
use Rattle.osm_model.specs.declared.faults.EntityFault.{EntityFault}
use Rattle.osm_model.specs.declared.faults.EntityFault.TheVariants as faults
use Rattle.osm_model.specs.Wire.{IsPacked}
use Rattle.osm_model.specs.Objects.{TagRun, by_zero, tag_runs, run_tags, next_run, tag_at}
use Rattle.mf_base.specs.Tags.{Tags}
use Rattle.mf_base.specs.Entries.{entry_tags}
use Rattle.mf_base.specs.Steps.{◌>>=◌, each}
use Rattle.osm_entity.specs.declared.run_end.Front.{Front}
use Rattle.osm_entity.specs.declared.run_end.Front.TheVariants.{Pair, Zero}
use Rattle.osm_entity.specs.InBlock.{texts_at}
use Rattle.osm_entity.specs.TagRun.{GivesFront, EndsRun, runs_of_list}
use Rattle.osm_entity.proofs.BlockTexts.{tags-known}
use Rattle.osm_model.proofs.PackedLaws.{packed_is}
use Rattle.osm_entity.specs.TagRun.{run_in, others_in, IsRunFault, IsPair, IsZero, IsRunEnd}
use Rattle.osm_entity.proofs.RunReads.{more-numbers, more-whole, with_pair, run-pair, others-pair, run-zero}
use Rattle.osm_entity.proofs.RunReads.{others-zero}
use Rattle.osm_entity.proofs.RunReads.{fault-none, fault-key, fault-pair, fault-bad_key, fault-behind}

-- ---- what stands in front

-- What the varint in front tells of whole varints.
pub record HasFront (bytes : List ℕ) (n size : ℕ) : Type 0 where
  pub spelled : IsVarint n (take size bytes)
  pub some : 0 < size
  pub within : size ≤ length bytes
  pub numbers : packed_numbers bytes ≡ n ∷ packed_numbers (drop size bytes)
  pub whole : are_varints (drop size bytes) ≡ true

pub has_front : (bytes : List ℕ) (n size : ℕ) → are_varints bytes ≡ true → Ok (n, size) ≡ varint_front bytes
    → HasFront bytes n size
has_front bytes n size whole e =
    let found = varint_found bytes n size (sym e) in record {
      spelled = found.spelled;
      some = found.some;
      within = found.within;
      numbers = numbers-first bytes n size (sym e);
      whole = sym (whole-first bytes n size (sym e)) ∙ whole;
    }

pub front-none : (count : ℕ) (bytes : List ℕ) (fault : VarintFault) → are_varints bytes ≡ true
    → Err fault ≡ varint_front bytes → IsRunFault count bytes faults.Columns
front-none count bytes fault whole e strings many =
    fault-none strings (packed_numbers bytes)
    (ap packed_numbers (whole-end bytes fault whole (sym e)) ∙ numbers-nil)

pub front-zero : (bytes : List ℕ) (n size : ℕ) → are_varints bytes ≡ true → Ok (n, size) ≡ varint_front bytes → n ≡ 0
    → IsZero bytes size
front-zero bytes n size whole e none =
    let front = has_front bytes n size whole e in record {
      within = front.within;
      behind = front.numbers ∙ ap (λ k. k ∷ packed_numbers (drop size bytes)) none;
      behind_whole = front.whole;
    }

pub front-bad_key : (count : ℕ) (bytes : List ℕ) (n size : ℕ) → are_varints bytes ≡ true
    → Ok (n, size) ≡ varint_front bytes → 0 < n → count ≤ n → IsRunFault count bytes faults.StringIndex
front-bad_key count bytes n size whole e above past strings many =
    fault-bad_key strings (packed_numbers bytes) (packed_numbers (drop size bytes)) n above
    (has_front bytes n size whole e).numbers (subst (λ c. c ≤ n) (sym many) past)

-- what stands behind the number in front, as it is handed on
handed : (bytes : List ℕ) (size : ℕ) → take (length bytes - size) (drop size bytes) ≡ drop size bytes
handed bytes size = take_rest bytes size

pub front-key : (count : ℕ) (bytes : List ℕ) (n size : ℕ) (fault : VarintFault) → are_varints bytes ≡ true
    → Ok (n, size) ≡ varint_front bytes → 0 < n → n < count
    → Err fault ≡ varint_front (take (length bytes - size) (drop size bytes))
    → IsRunFault count bytes faults.KeyWithoutValue
front-key count bytes n size fault whole e above known last strings many =
    let front = has_front bytes n size whole e in
    let none : packed_numbers (drop size bytes) ≡ [] =
    ap packed_numbers (whole-end (drop size bytes) fault front.whole (sym (last ∙ ap varint_front (handed bytes size))))
    ∙ numbers-nil in
    fault-key strings (packed_numbers bytes) n above (front.numbers ∙ ap (λ ns. n ∷ ns) none)
    (subst (λ c. n < c) (sym many) known)

pub front-bad_value : (count : ℕ) (bytes : List ℕ) (n size v more : ℕ) → are_varints bytes ≡ true
    → Ok (n, size) ≡ varint_front bytes → 0 < n
    → Ok (v, more) ≡ varint_front (take (length bytes - size) (drop size bytes)) → count ≤ v
    → IsRunFault count bytes faults.StringIndex
front-bad_value count bytes n size v more whole e above f past strings many =
    let front = has_front bytes n size whole e in
    let second = has_front (drop size bytes) v more front.whole (f ∙ ap varint_front (handed bytes size)) in
    fault-pair strings (packed_numbers bytes) (packed_numbers (drop more (drop size bytes))) n v above
    (front.numbers ∙ ap (λ ns. n ∷ ns) second.numbers) (inr (subst (λ c. c ≤ v) (sym many) past))

behind_both : (bytes : List ℕ) (size more : ℕ) → drop more (drop size bytes) ≡ drop (size + more) bytes
behind_both bytes size more = drop-drop more size bytes ∙ ap (λ n. drop n bytes) (omega arith)

pub front-pair : (count : ℕ) (bytes : List ℕ) (n size v more : ℕ) → are_varints bytes ≡ true
    → Ok (n, size) ≡ varint_front bytes → 0 < n → n < count
    → Ok (v, more) ≡ varint_front (take (length bytes - size) (drop size bytes)) → v < count
    → IsPair count bytes (size + more)
front-pair count bytes n size v more whole e above key f val =
    let front = has_front bytes n size whole e in
    let second = has_front (drop size bytes) v more front.whole (f ∙ ap varint_front (handed bytes size)) in
    let one = take size bytes in
    let other = take more (drop size bytes) in
    let both : IsPacked (one ++ other) (n ∷ v ∷ []) =
    (one, other, front.spelled, (other, [], second.spelled, refl, sym (append-nil other)), refl) in
    let read = packed_is (one ++ other) (n ∷ v ∷ []) both in
    record {
      key = n;
      val = v;
      above = above;
      key_known = key;
      val_known = val;
      some = omega (arith, front.some);
      within = omega (arith, front.within, second.within, length-drop size bytes);
      front = ap packed_numbers (take-add size more bytes) ∙ read.1;
      whole = ap are_varints (take-add size more bytes) ∙ read.0;
      behind = front.numbers ∙ ap (λ ns. n ∷ ns) (second.numbers
          ∙ ap (λ x. v ∷ packed_numbers x) (behind_both bytes size more));
      behind_whole = sym (ap are_varints (behind_both bytes size more)) ∙ second.whole;
    }

-- ---- pairs, one after another

-- What is known of a run up to a place in whole varints.
pub record RunSoFar (count : ℕ) (bytes : List ℕ) (at : ℕ) : Type 0 where
  pub within : at ≤ length bytes
  pub whole : are_varints (take at bytes) ≡ true
  pub behind : are_varints (drop at bytes) ≡ true
  pub even : length (packed_numbers (take at bytes)) % 2 ≡ 0
  pub entries : are_entries count (by_twos (packed_numbers (take at bytes))) ≡ true
  pub first : run_in bytes ≡ record {
    pairs = by_twos (packed_numbers (take at bytes)) ++ (run_in (drop at bytes)).pairs;
    ends = (run_in (drop at bytes)).ends;
  }
  pub others : others_in bytes ≡ others_in (drop at bytes)

pub run-start : (count : ℕ) (bytes : List ℕ) → are_varints bytes ≡ true → RunSoFar count bytes 0
run-start count bytes whole = record {
  within = omega arith;
  whole = whole-nil;
  behind = whole;
  even = ap (λ ns. length ns % 2) numbers-nil;
  entries = ap (λ ns. are_entries count (by_twos ns)) numbers-nil;
  first = sym (ap (λ (ns : List ℕ). record {
    pairs = by_twos ns ++ (run_in bytes).pairs;
    ends = (run_in bytes).ends;
  }) numbers-nil);
  others = refl;
}

two-more : (xs ys : List ℕ) (k v : ℕ) → length xs % 2 ≡ 0
    → by_twos (xs ++ (k ∷ v ∷ ys)) ≡ by_twos xs ++ ((k, v) ∷ by_twos ys)
two-more [] ys k v even = refl
two-more (x ∷ []) ys k v even = absurd (omega (arith, even))
two-more (x ∷ y ∷ xs) ys k v even =
    ap (λ ps. (x, y) ∷ ps) (two-more xs ys k v (omega (arith, even)))

pub run-more : (count : ℕ) (bytes : List ℕ) (at size : ℕ) → RunSoFar count bytes at
    → IsPair count (drop at bytes) size → RunSoFar count bytes (at + size)
run-more count bytes at size so pair =
    let front = packed_numbers (take at bytes) in
    let there : drop size (drop at bytes) ≡ drop (at + size) bytes = behind_both bytes at size in
    let cut : take (at + size) bytes ≡ take at bytes ++ take size (drop at bytes) = take-add at size bytes in
    let numbers : packed_numbers (take (at + size) bytes) ≡ front ++ (pair.key ∷ pair.val ∷ []) =
    ap packed_numbers cut ∙ more-numbers (take at bytes) (take size (drop at bytes)) so.whole
    ∙ ap (λ ns. front ++ ns) pair.front in
    let twos : by_twos (packed_numbers (take (at + size) bytes)) ≡ by_twos front ++ ((pair.key, pair.val) ∷ []) =
    ap by_twos numbers ∙ two-more front [] pair.key pair.val so.even in
    let first : run_in (drop at bytes) ≡ with_pair (pair.key, pair.val) (run_in (drop (at + size) bytes)) =
    run-pair (packed_numbers (drop at bytes)) (packed_numbers (drop size (drop at bytes))) pair.key pair.val pair.above
    pair.behind ∙ ap (λ b. with_pair (pair.key, pair.val) (run_in b)) there in
    let others : others_in (drop at bytes) ≡ others_in (drop (at + size) bytes) =
    others-pair (packed_numbers (drop at bytes)) (packed_numbers (drop size (drop at bytes))) pair.key pair.val
    pair.above pair.behind ∙ ap others_in there in
    record {
      within = omega (arith, so.within, pair.within, length-drop at bytes);
      whole = ap are_varints cut ∙ more-whole (take at bytes) (take size (drop at bytes)) so.whole pair.whole;
      behind = sym (ap are_varints there) ∙ pair.behind_whole;
      even = omega (arith, so.even, ap length numbers, length-append front (pair.key ∷ pair.val ∷ []));
      entries = ap (are_entries count) twos
          ∙ list_all-append (λ pair. nat_lt pair.0 count && nat_lt pair.1 count) (by_twos front)
          ((pair.key, pair.val) ∷ [])
          ∙ and_from (are_entries count (by_twos front)) (are_entries count ((pair.key, pair.val) ∷ [])) so.entries
          (and_from (nat_lt pair.key count && nat_lt pair.val count) true
          (and_from (nat_lt pair.key count) (nat_lt pair.val count) (lt-ltb pair.key count pair.key_known)
          (lt-ltb pair.val count pair.val_known)) refl);
      first = so.first
          ∙ ap (λ (r : TagRun). record { pairs = by_twos front ++ r.pairs; ends = r.ends }) first
          ∙ ap (λ ps. record { pairs = ps; ends = (run_in (drop (at + size) bytes)).ends })
          (sym (append_assoc (by_twos front) ((pair.key, pair.val) ∷ []) (run_in (drop (at + size) bytes)).pairs)
          ∙ ap (λ ps. ps ++ (run_in (drop (at + size) bytes)).pairs) (sym twos));
      others = so.others ∙ others;
    }

pub run-ends : (count : ℕ) (bytes : List ℕ) (at size : ℕ) → RunSoFar count bytes at → IsZero (drop at bytes) size
    → IsRunEnd count bytes at (at + size)
run-ends count bytes at size so ended =
    let front = packed_numbers (take at bytes) in
    let there : drop size (drop at bytes) ≡ drop (at + size) bytes = behind_both bytes at size in
    record {
      order = omega arith;
      within = omega (arith, so.within, ended.within, length-drop at bytes);
      whole = so.whole;
      even = so.even;
      entries = so.entries;
      first = so.first
          ∙ ap (λ (r : TagRun). record { pairs = by_twos front ++ r.pairs; ends = r.ends })
          (run-zero (packed_numbers (drop at bytes)) (packed_numbers (drop size (drop at bytes))) ended.behind)
          ∙ ap (λ ps. record { pairs = ps; ends = by_zero }) (append-nil (by_twos front));
      others = so.others
          ∙ others-zero (packed_numbers (drop at bytes)) (packed_numbers (drop size (drop at bytes))) ended.behind
          ∙ ap (λ b. Some (tag_runs (packed_numbers b))) there;
      behind_whole = sym (ap are_varints there) ∙ ended.behind_whole;
    }

pub run-faults : (count : ℕ) (bytes : List ℕ) (at : ℕ) (fault : EntityFault) → RunSoFar count bytes at
    → IsRunFault count (drop at bytes) fault → IsRunFault count bytes fault
run-faults count bytes at fault so told strings many =
    ap (run_tags strings) so.first
    ∙ fault-behind strings (by_twos (packed_numbers (take at bytes))) (run_in (drop at bytes)).pairs
    (run_in (drop at bytes)).ends fault
    (subst (λ n. are_entries n (by_twos (packed_numbers (take at bytes))) ≡ true) (sym many) so.entries)
    (told strings many)

-- ---- what the reader of a run is told

pub pair_there : (count at : ℕ) (bytes : List ℕ) (f : Front) (size : ℕ) → f ≡ Pair size
    → GivesFront count (take (length bytes - at) (drop at bytes)) (Ok f) → IsPair count (drop at bytes) size
pair_there count at bytes f size is told =
    subst (λ b. IsPair count b size) (take_rest bytes at)
    (subst (λ g. GivesFront count (take (length bytes - at) (drop at bytes)) (Ok g)) is told)

pub zero_there : (count at : ℕ) (bytes : List ℕ) (f : Front) (size : ℕ) → f ≡ Zero size
    → GivesFront count (take (length bytes - at) (drop at bytes)) (Ok f) → IsZero (drop at bytes) size
zero_there count at bytes f size is told =
    subst (λ b. IsZero b size) (take_rest bytes at)
    (subst (λ g. GivesFront count (take (length bytes - at) (drop at bytes)) (Ok g)) is told)

abbrev closed : List (ℕ × ℕ) → TagRun
closed pairs = record { pairs = pairs; ends = by_zero }

closed-told : (strings : List Text) (pairs : List (ℕ × ℕ))
    → run_tags strings (closed pairs) ≡ (each (tag_at strings) pairs >>= λ tags. Ok tags)
unfolding run_tags
closed-told strings pairs = refl

pub list-told : (bytes places list : List ℕ) (end behind count : ℕ) (tags : Tags) (r : Result (ℕ × ℕ) EntityFault)
    → count ≡ length places → r ≡ Ok (end, behind) → EndsRun count list r
    → tags ≡ entry_tags bytes places (by_twos (packed_numbers (take end list)))
    → Ok tags ≡ run_tags (texts_at bytes places) (run_in list)
list-told bytes places list end behind count tags r many is ends are =
    let e : IsRunEnd count list end behind = subst (EndsRun count list) is ends in
    let pairs = by_twos (packed_numbers (take end list)) in
    ap Ok are
    ∙ ap (λ r. r >>= λ tags. Ok tags) (sym (tags-known bytes places pairs
    (subst (λ n. are_entries n pairs ≡ true) many e.entries)))
    ∙ sym (closed-told (texts_at bytes places) pairs)
    ∙ ap (run_tags (texts_at bytes places)) (sym e.first)

pub none-told : (strings : List Text) (list : Option (List ℕ)) (tags : Tags) → list ≡ None → tags ≡ []
    → Ok tags ≡ run_tags strings (next_run (runs_of_list list))
none-told strings list tags none are =
    ap Ok are ∙ sym (closed-told strings []) ∙ ap (λ l. run_tags strings (next_run (runs_of_list l))) (sym none)

pub ruleset no_numbers = (whole-nil, numbers-nil)
