-- What is found of a message, field by field.
use Rattle.std.proofs.Common.{◌≡◌, ◌∙◌, ◌∷◌, ◌++◌, ◌+◌, ◌-◌, ◌≤◌, ℕ, List, [], Option, Some, None, Ok, Err, ap, refl}
use Rattle.std.proofs.Common.{sym, subst, inl, inr, get_or, length, drop, arith, append_assoc, length-append}
use Rattle.std.specs.Prelude.{filter_map, slice_get, slice_range, option_map, slice_set, IfSome}
use Rattle.std.specs.List.{last_or}
use Rattle.std.specs.Option.{option_or}
use Rattle.std.proofs.lemmas.Bool.{eq-eqb, ne_eqb, cases_eq}
use Rattle.std.proofs.lemmas.List.{get_or-set_other}
use Rattle.std.proofs.lemmas.Grind.{get_or-set_at}
use Rattle.std.proofs.lemmas.Option.{none-some, same_Some}
use Rattle.osm_model.specs.Reading.{Reading, then_reads, all_read, stops_at}
use Rattle.osm_model.specs.declared.faults.WireFault.{WireFault}
use Rattle.osm_model.specs.declared.faults.MessageFault.{MessageFault}
use Rattle.osm_model.specs.declared.rules.FieldRule.{FieldRule}
use Rattle.osm_model.specs.Wire.{Field, Value, varint, len, i64, i32, field_front, fields}
use Rattle.osm_model.specs.Tables.{values_of, varint_in, counted_bytes, bytes_of, number_of, once_of, Table, message}
use Rattle.osm_model.specs.Tables.{message_fault}
use Rattle.osm_model.proofs.MessageLaws.{fields-more}
use Rattle.pbf_wire.specs.Shown.{ShowsValue, BeginsWith}
use Rattle.pbf_wire.specs.Check.{place_in}
use Rattle.pbf_wire.proofs.ValueLaws.{bytes-append}
use Rattle.pbf_wire.proofs.FieldWalk.{IsBehind, bytes_held, placed, still_behind}
use Rattle.pbf_wire.proofs.CheckReads.{rule_at, one_number}
use Rattle.pbf_wire.specs.Message.{FoundSoFar, IsFound, found_bytes, nothing}
use Rattle.pbf_wire.specs.declared.fields.Field as field
use Rattle.pbf_wire.specs.declared.fields.Value as value
use Rattle.pbf_wire.specs.declared.fields.Value.TheVariants.{Number, Bytes, Fixed}
use Rattle.pbf_wire.specs.declared.message.Found.{Found}

-- ---- where the bytes of a field stand

-- The bytes of a field, behind which the rest of the message stands.
pub record BytesPlace (message rest bytes : List ℕ) : Type 0 where
  pub there : slice_range message (length message - length rest - length bytes) (length message - length rest) ≡ bytes
  pub fits : length rest + length bytes ≤ length message

pub bytes_place : (message left rest : List ℕ) (f : Field) (bytes : List ℕ) (n : ℕ) → IsBehind message left
    → field_front left ≡ Ok (f, n) → rest ≡ drop n left → f.value ≡ len bytes → BytesPlace message rest bytes
bytes_place message left rest f bytes n (front, behind) read is value =
    let held = bytes_held left bytes f n read value in
    let x = front ++ held.before in
    let parts : message ≡ x ++ (bytes ++ rest) = behind
    ∙ ap (λ b. front ++ b) (held.parts ∙ ap (λ b. held.before ++ (bytes ++ b)) (sym is))
    ∙ sym (append_assoc front held.before (bytes ++ rest)) in
    let long : length message ≡ length x + (length bytes + length rest) = ap length parts
    ∙ length-append x (bytes ++ rest) ∙ ap (λ m. length x + m) (length-append bytes rest) in
    record {
      there = placed x bytes rest message (length message - length rest - length bytes)
          (length message - length rest) parts (omega (arith, long)) (omega (arith, long));
      fits = omega (arith, long);
    }

-- ---- one field more

pub values-same : (k : ℕ) (f : Field) (fs : List Field) → f.number ≡ k → values_of k (f ∷ fs) ≡ f.value ∷ values_of k fs
values-same k f fs e = rw (eq-eqb f.number k e) refl

pub values-other : (k : ℕ) (f : Field) (fs : List Field) → (f.number ≡ k → ⊥) → values_of k (f ∷ fs) ≡ values_of k fs
values-other k f fs e = rw (ne_eqb f.number k e) refl

pub so_far-other : (message : List ℕ) (fs rest : List Field) (k : ℕ) (f : Field) (found : Found) → (f.number ≡ k → ⊥)
    → FoundSoFar message fs k found (f ∷ rest) → FoundSoFar message fs k found rest
so_far-other message fs rest k f found e so =
    let same = values-other k f rest e in
    record {
      numbers = so.numbers ∙ ap (λ vs. last_or found.number (filter_map varint_in vs)) same;
      others = so.others
          ∙ ap (λ vs. option_or (found_bytes message found) (slice_get (filter_map counted_bytes vs) 0)) same;
      within = so.within;
    }

-- the values of the field, of which the first is this
record WithFirst (message : List ℕ) (fs rest : List Field) (k : ℕ) (found : Found) (v : Value) : Type 0 where
  numbers : number_of k fs ≡ last_or found.number (filter_map varint_in (v ∷ values_of k rest))
  others : once_of k fs
      ≡ option_or (found_bytes message found) (slice_get (filter_map counted_bytes (v ∷ values_of k rest)) 0)

with_first : (message : List ℕ) (fs rest : List Field) (k : ℕ) (f : Field) (found : Found) (v : Value) → f.number ≡ k
    → f.value ≡ v → FoundSoFar message fs k found (f ∷ rest) → WithFirst message fs rest k found v
with_first message fs rest k f found v e is so =
    let same = values-same k f rest e ∙ ap (λ v. v ∷ values_of k rest) is in
    record {
      numbers = so.numbers ∙ ap (λ vs. last_or found.number (filter_map varint_in vs)) same;
      others = so.others
          ∙ ap (λ vs. option_or (found_bytes message found) (slice_get (filter_map counted_bytes vs) 0)) same;
    }

pub so_far-number : (message : List ℕ) (fs rest : List Field) (k n : ℕ) (f : Field) (found : Found) → f.number ≡ k
    → f.value ≡ varint n → FoundSoFar message fs k found (f ∷ rest)
    → FoundSoFar message fs k (record { number = Some n; place = found.place }) rest
so_far-number message fs rest k n f found e is so =
    let w = with_first message fs rest k f found (varint n) e is so in
    record { numbers = w.numbers; others = w.others; within = so.within }

pub so_far-i64 : (message : List ℕ) (fs rest : List Field) (k : ℕ) (f : Field) (found : Found) (b : List ℕ)
    → f.number ≡ k → f.value ≡ i64 b → FoundSoFar message fs k found (f ∷ rest) → FoundSoFar message fs k found rest
so_far-i64 message fs rest k f found b e is so =
    let w = with_first message fs rest k f found (i64 b) e is so in
    record { numbers = w.numbers; others = w.others; within = so.within }

pub so_far-i32 : (message : List ℕ) (fs rest : List Field) (k : ℕ) (f : Field) (found : Found) (b : List ℕ)
    → f.number ≡ k → f.value ≡ i32 b → FoundSoFar message fs k found (f ∷ rest) → FoundSoFar message fs k found rest
so_far-i32 message fs rest k f found b e is so =
    let w = with_first message fs rest k f found (i32 b) e is so in
    record { numbers = w.numbers; others = w.others; within = so.within }

-- bytes, where there were none before
so_far-first : (message : List ℕ) (fs rest : List Field) (k : ℕ) (f : Field) (number : Option ℕ) (b : List ℕ)
    (place : ℕ × ℕ) → f.number ≡ k → f.value ≡ len b → slice_range message place.0 place.1 ≡ b
    → place.0 ≤ place.1 → place.1 ≤ length message
    → FoundSoFar message fs k (record { number = number; place = None }) (f ∷ rest)
    → FoundSoFar message fs k (record { number = number; place = Some place }) rest
so_far-first message fs rest k f number b place e is there low high so =
    let w = with_first message fs rest k f (record { number = number; place = None }) (len b) e is so in
    record { numbers = w.numbers; others = w.others ∙ ap Some (sym there); within = (low, high) }

so_far-again : (message : List ℕ) (fs rest : List Field) (k : ℕ) (f : Field) (number : Option ℕ) (b : List ℕ)
    (before : ℕ × ℕ) → f.number ≡ k → f.value ≡ len b
    → FoundSoFar message fs k (record { number = number; place = Some before }) (f ∷ rest)
    → FoundSoFar message fs k (record { number = number; place = Some before }) rest
so_far-again message fs rest k f number b before e is so =
    let w = with_first message fs rest k f (record { number = number; place = Some before }) (len b) e is so in
    record { numbers = w.numbers; others = w.others; within = so.within }

pub so_far-bytes : (message : List ℕ) (fs rest : List Field) (k : ℕ) (f : Field) (number : Option ℕ)
    (old : Option (ℕ × ℕ)) (b : List ℕ) (place : ℕ × ℕ) → f.number ≡ k → f.value ≡ len b
    → slice_range message place.0 place.1 ≡ b
    → place.0 ≤ place.1 → place.1 ≤ length message
    → FoundSoFar message fs k (record { number = number; place = old }) (f ∷ rest)
    → FoundSoFar message fs k (record { number = number; place = option_or old (Some place) }) rest
so_far-bytes message fs rest k f number None b place e is there low high so =
    so_far-first message fs rest k f number b place e is there low high so
so_far-bytes message fs rest k f number (Some before) b place e is there low high so =
    so_far-again message fs rest k f number b before e is so

pub so_far-none : (message : List ℕ) (fs : List Field) (k : ℕ) (found : Found) → found ≡ nothing
    → FoundSoFar message fs k found fs
so_far-none message fs k found e =
    subst (λ f. FoundSoFar message fs k f fs) (sym e) (record { numbers = refl; others = refl; within = tt })

or_none : {A : Type 0} (o : Option A) → option_or o None ≡ o
or_none None = refl
or_none (Some x) = refl

pub so_far-all : (message : List ℕ) (fs : List Field) (k : ℕ) (found : Found) → FoundSoFar message fs k found []
    → IsFound message fs k found
so_far-all message fs k found so =
    record {
      number = sym so.numbers;
      bytes = sym (so.others ∙ or_none (found_bytes message found));
      within =
          so.within;
    }

-- ---- all rules

-- for each rule, what was found so far
abbrev pub AreSoFar : List FieldRule → List ℕ → List Field → List Found → List Field → Type 0
AreSoFar rules message fs all rest = (k at : ℕ) → place_in rules k ≡ Some at
    → FoundSoFar message fs k (get_or all at nothing) rest

pub gathered-more : (rules : List FieldRule) (message : List ℕ) (fs rest : List Field) (all : List Found) (f : Field)
    (there : ℕ) (new : Found) → length all ≡ length rules → place_in rules f.number ≡ Some there
    → (FoundSoFar message fs f.number (get_or all there nothing) (f ∷ rest) → FoundSoFar message fs f.number new rest)
    → AreSoFar rules message fs all (f ∷ rest) → AreSoFar rules message fs (slice_set all there new) rest
gathered-more rules message fs rest all f there new same place step so k at e = elim (cases_eq at there) [
  | inl here ↦
      let number = one_number rules f.number k at (place ∙ ap Some (sym here)) e in
      let within = (rule_at rules k at e).within in
      subst (λ x. FoundSoFar message fs k x rest)
      (sym (get_or-set_at all there at new nothing here (omega (arith, within, same, here))))
      (subst (λ j. FoundSoFar message fs j new rest) number (step (so f.number there place)))
  | inr other ↦
      subst (λ x. FoundSoFar message fs k x rest) (sym (get_or-set_other all there at new nothing other))
      (so_far-other message fs rest k f (get_or all at nothing)
      (λ number. other (same_Some at there (sym e ∙ ap (place_in rules) (sym number) ∙ place))) (so k at e))
]

pub gathered-unknown : (rules : List FieldRule) (message : List ℕ) (fs rest : List Field) (all : List Found)
    (f : Field) → place_in rules f.number ≡ None → AreSoFar rules message fs all (f ∷ rest)
    → AreSoFar rules message fs all rest
gathered-unknown rules message fs rest all f unknown so k at e =
    so_far-other message fs rest k f (get_or all at nothing)
    (λ number. none-some at (sym unknown ∙ ap (place_in rules) number ∙ e)) (so k at e)

-- behind the last field nothing more is found
pub items-none : (left : List ℕ) → fields left ≡ all_read → (fields left).items ≡ []
items-none left e = ap (λ (r : Reading Field WireFault). r.items) e

pub items-fault : (left : List ℕ) (fault : WireFault) → fields left ≡ stops_at fault → (fields left).items ≡ []
items-fault left fault e = ap (λ (r : Reading Field WireFault). r.items) e

pub gathered-all : (rules : List FieldRule) (message : List ℕ) (fs rest : List Field) (all : List Found) → rest ≡ []
    → AreSoFar rules message fs all rest → (k at : ℕ) → place_in rules k ≡ Some at
    → IsFound message fs k (get_or all at nothing)
gathered-all rules message fs rest all e so k at place =
    so_far-all message fs k (get_or all at nothing)
    (subst (FoundSoFar message fs k (get_or all at nothing)) e (so k at place))

pub gathered-next : (rules : List FieldRule) (message left rest : List ℕ) (all : List Found) (f : Field)
    → fields left ≡ then_reads f (fields rest) → AreSoFar rules message (fields message).items all (fields left).items
    → AreSoFar rules message (fields message).items all (f ∷ (fields rest).items)
gathered-next rules message left rest all f e so k at place =
    subst (FoundSoFar message (fields message).items k (get_or all at nothing))
    (ap (λ (r : Reading Field WireFault). r.items) e) (so k at place)

-- the field that the reader gave, with the bytes behind it
pub record IsStep (message left rest : List ℕ) (given : field.Field) : Type 0 where
  pub f : Field
  pub number : given.number ≡ f.number
  pub shows : ShowsValue given.value f.value
  pub behind : IsBehind message rest
  pub place : (bytes : List ℕ) → f.value ≡ len bytes → BytesPlace message rest bytes
  pub left_is : fields left ≡ then_reads f (fields rest)

pub step_of : (message left rest : List ℕ) (given : field.Field) → IsBehind message left → BeginsWith left given rest
    → IsStep message left rest given
step_of message left rest given behind begins = record {
  f = begins.field;
  number = begins.shows.0;
  shows = begins.shows.1;
  behind = still_behind message left rest begins.size behind begins.behind;
  place = λ bytes value. bytes_place message left rest begins.field bytes begins.size behind begins.front
      begins.behind value;
  left_is = fields-more left begins.field begins.size begins.front
      ∙ ap (λ b. then_reads begins.field (fields b)) (sym begins.behind);
}

-- what shows bytes shows those alone
pub shows-bytes : (given : value.Value) (v : Value) (bytes : List ℕ) → ShowsValue given v
    → ShowsValue given (len bytes) → v ≡ len bytes
shows-bytes (Number n) v bytes e f = absurd (cc f)
shows-bytes (Bytes b) v bytes e f = e ∙ sym f
shows-bytes Fixed v bytes e (b, inl f) = absurd (cc f)
shows-bytes Fixed v bytes e (b, inr f) = absurd (cc f)

-- ---- the bytes of a field that may stand often

pub bytes-next : (k : ℕ) (left rest : List ℕ) (f : Field) → fields left ≡ then_reads f (fields rest)
    → bytes_of k (fields left).items ≡ bytes_of k (f ∷ []) ++ bytes_of k (fields rest).items
bytes-next k left rest f e = ap (λ (r : Reading Field WireFault). bytes_of k r.items) e
    ∙ bytes-append k (f ∷ []) (fields rest).items

pub bytes-none : (k : ℕ) (left : List ℕ) → fields left ≡ all_read → bytes_of k (fields left).items ≡ []
bytes-none k left e = ap (bytes_of k) (items-none left e)

pub bytes-fault : (k : ℕ) (left : List ℕ) (fault : WireFault) → fields left ≡ stops_at fault
    → bytes_of k (fields left).items ≡ []
bytes-fault k left fault e = ap (bytes_of k) (items-fault left fault e)

pub message-refused : (table : Table) (bytes : List ℕ) (fault : MessageFault) → message_fault table bytes ≡ Some fault
    → message table bytes ≡ Err fault
unfolding message
message-refused table bytes fault e = rw (e, message) refl

-- ---- what was found of a field, by its place

pub none_place : (message : List ℕ) (fs : List Field) {k : ℕ} {found : Found} → IsFound message fs k found
    → found.place ≡ None → once_of k fs ≡ None
none_place message fs is e = sym is.bytes ∙ ap (option_map (λ (p : ℕ × ℕ). slice_range message p.0 p.1)) e

pub some_place : (message : List ℕ) (fs : List Field) (place : ℕ × ℕ) {k : ℕ} {found : Found}
    → IsFound message fs k found → found.place ≡ Some place → once_of k fs ≡ Some (slice_range message place.0 place.1)
some_place message fs place is e = sym is.bytes ∙ ap (option_map (λ (p : ℕ × ℕ). slice_range message p.0 p.1)) e

pub within_place : (message : List ℕ) (fs : List Field) (place : ℕ × ℕ) {k : ℕ} {found : Found}
    → IsFound message fs k found → found.place ≡ Some place → (place.0 ≤ place.1) × (place.1 ≤ length message)
within_place message fs place is e =
    subst (λ o. IfSome o (λ (p : ℕ × ℕ). (p.0 ≤ p.1) × (p.1 ≤ length message))) e is.within
