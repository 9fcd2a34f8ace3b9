-- The check of a message, field by field.
use Rattle.std.proofs.Common.{◌≡◌, ◌∷◌, ◌==◌, ◌+◌, ◌<◌, ◌∙◌, ap, sym, refl, subst, arith, inl, inr, ℕ, suc, List, []}
use Rattle.std.proofs.Common.{Bool, true, false, cond, Option, Some, None, length, get_or, nat_lt, not, ◌≤◌, Result, Ok}
use Rattle.std.proofs.Common.{Err}
use Rattle.std.specs.Option.{option_or}
use Rattle.std.specs.List.{prefix_len}
use Rattle.std.specs.Prelude.{option_map, slice_set}
use Rattle.std.proofs.lemmas.Bool.{cases_Bool, cases_eq, cases_lt, lt-ltb, le-ltb, eqb-true}
use Rattle.std.proofs.lemmas.List.{get_or-set_other, get_or-replicate}
use Rattle.std.proofs.Math.ListN.{replicate}
use Rattle.std.proofs.lemmas.Grind.{get_or-set_at}
use Rattle.std.proofs.lemmas.Option.{none-some, same_Some}
use Rattle.mf_base.specs.Steps.{fault_of}
use Rattle.mf_base.proofs.StepLaws.{map_none}
use Rattle.osm_model.specs.Wire.{fields, Field}
use Rattle.osm_model.specs.declared.faults.WireFault.{WireFault}
use Rattle.osm_model.specs.declared.faults.MessageFault.{MessageFault}
use Rattle.osm_model.specs.declared.faults.MessageFault.TheVariants.{Wire}
use Rattle.osm_model.specs.Reading.{then_reads, stops_at, all_read, Reading}
use Rattle.osm_model.proofs.TableLaws.{or_none, none_fits, any-same, any-other}
use Rattle.osm_model.specs.Tables.{FitsTable, Table, form_of, form_fault, field_fault, fields_fault, message_fault}
use Rattle.osm_model.specs.declared.rules.FieldRule.{FieldRule}
use Rattle.osm_model.specs.declared.rules.Form.TheVariants.{Number}
use Rattle.pbf_wire.specs.Check.{Notes, place_in}
use Rattle.std.specs.Prelude.{OnOk}

-- ---- the place of a rule

place-here : (rule : FieldRule) (rules : List FieldRule) (k : ℕ) → (rule.number == k) ≡ true
    → place_in (rule ∷ rules) k ≡ Some 0
place-here rule rules k e = rw e (rw (lt-ltb 0 (suc (length rules)) (omega arith)) refl)

shifted : (p n : ℕ)
    → cond (nat_lt (1 + p) (suc n)) (Some (1 + p)) None ≡ option_map suc (cond (nat_lt p n) (Some p) None)
shifted p n = elim (cases_lt p n) [
  | inl less ↦ rw (lt-ltb (1 + p) (suc n) (omega (arith, less)), lt-ltb p n less) (ap Some (omega arith))
  | inr not_less ↦ rw (le-ltb (1 + p) (suc n) (omega (arith, not_less)), le-ltb p n not_less) refl
]

place-behind : (rule : FieldRule) (rules : List FieldRule) (k : ℕ) → (rule.number == k) ≡ false
    → place_in (rule ∷ rules) k ≡ option_map suc (place_in rules k)
place-behind rule rules k e = rw e (shifted (prefix_len (λ r. not (r.number == k)) rules) (length rules))

-- The rule at this place is one of field k, and its form is that of the table.
pub record IsRule (rules : List FieldRule) (k at : ℕ) : Type 0 where
  pub within : at < length rules
  pub same : (d : FieldRule) → (get_or rules at d).number ≡ k
  pub known : (d : FieldRule) → form_of rules k ≡ Some (get_or rules at d).form

rule-here : (rule : FieldRule) (rules : List FieldRule) (k : ℕ) → (rule.number == k) ≡ true → IsRule (rule ∷ rules) k 0
rule-here rule rules k e = record { within = omega arith; same = λ d. eqb-true rule.number k e; known = λ d. rw e refl }

rule-behind : (rule : FieldRule) (rules : List FieldRule) (k at : ℕ) → (rule.number == k) ≡ false → IsRule rules k at
    → IsRule (rule ∷ rules) k (suc at)
rule-behind rule rules k at e is =
    record { within = omega (arith, is.within); same = is.same; known = λ d. rw e (is.known d) }

pub rule_at : (rules : List FieldRule) (k at : ℕ) → place_in rules k ≡ Some at → IsRule rules k at
rule_at [] k at e = absurd (none-some at e)
rule_at (rule ∷ rules) k at e = elim (cases_Bool (rule.number == k)) [
  | inl here ↦ subst (IsRule (rule ∷ rules) k) (same_Some 0 at (sym (place-here rule rules k here) ∙ e))
      (rule-here rule rules k here)
  | inr behind ↦
      go rule rules k at behind (λ at e. rule_at rules k at e) (place_in rules k) refl
      (sym (place-behind rule rules k behind) ∙ e)
]
  where
    go : (rule : FieldRule) (rules : List FieldRule) (k at : ℕ) → (rule.number == k) ≡ false
        → ((at : ℕ) → place_in rules k ≡ Some at → IsRule rules k at) → (place : Option ℕ) → place_in rules k ≡ place
        → option_map suc place ≡ Some at → IsRule (rule ∷ rules) k at
    go rule rules k at behind others None e f = absurd (none-some at f)
    go rule rules k at behind others (Some before) e f =
        subst (IsRule (rule ∷ rules) k) (same_Some (suc before) at f)
        (rule-behind rule rules k before behind (others before e))

pub no_rule : (rules : List FieldRule) (k : ℕ) → place_in rules k ≡ None → form_of rules k ≡ None
no_rule [] k e = refl
no_rule (rule ∷ rules) k e = elim (cases_Bool (rule.number == k)) [
  | inl here ↦ absurd (none-some 0 (sym e ∙ place-here rule rules k here))
  | inr behind ↦
      rw behind (no_rule rules k (map_none suc (place_in rules k) (sym (place-behind rule rules k behind) ∙ e)))
]

-- ---- what is noted

any_rule : FieldRule
any_rule = record { number = 0; form = Number }

-- two rules at one place are of one field
pub one_number : (rules : List FieldRule) (k j at : ℕ) → place_in rules k ≡ Some at → place_in rules j ≡ Some at → k ≡ j
one_number rules k j at e f = sym ((rule_at rules k at e).same any_rule) ∙ (rule_at rules j at f).same any_rule

pub notes-more : (rules : List FieldRule) (before : List ℕ) (seen : List Bool) (k at : ℕ) → length seen ≡ length rules
    → Notes rules before seen → place_in rules k ≡ Some at → Notes rules (k ∷ before) (slice_set seen at true)
notes-more rules before seen k at same notes e j place f = elim (cases_eq place at) [
  | inl one ↦
      let within = (rule_at rules k at e).within in
      get_or-set_at seen at place true false one (omega (arith, within, same))
      ∙ sym (any-same j k before (one_number rules k j at e (f ∙ ap Some one)))
  | inr other ↦
      get_or-set_other seen at place true false other ∙ notes j place f
      ∙ sym (any-other j k before
      (λ same_field. other (same_Some place at (sym f ∙ ap (place_in rules) (sym same_field) ∙ e))))
]

-- nothing stood yet
pub notes-none : (rules : List FieldRule) (n : ℕ) → length rules ≤ n → Notes rules [] (replicate n false)
notes-none rules n enough k at e = let within = (rule_at rules k at e).within in
    get_or-replicate n at false false (omega (arith, within, enough))

-- ---- a field

pub field-checked : (rules : List FieldRule) (before : List ℕ) (f : Field) (k at : ℕ) (d : FieldRule)
    (r : Option MessageFault) → k ≡ f.number → place_in rules k ≡ Some at
    → r ≡ form_fault (get_or rules at d).form before k f.value → r ≡ field_fault rules before f
field-checked rules before f k at d r same place checked =
    let known : form_of rules f.number ≡ Some (get_or rules at d).form = ap (form_of rules) (sym same)
    ∙ (rule_at rules k at place).known d in
    checked ∙ ap (λ n. form_fault (get_or rules at d).form before n f.value) same ∙ rw (known, field_fault) refl

pub field-unknown : (rules : List FieldRule) (before : List ℕ) (f : Field) (k : ℕ) → k ≡ f.number
    → place_in rules k ≡ None → None ≡ field_fault rules before f
field-unknown rules before f k same place =
    let unknown : form_of rules f.number ≡ None = ap (form_of rules) (sym same) ∙ no_rule rules k place in
    rw (unknown, field_fault) refl

-- ---- the fields so far

-- The fault of a message is the first of what is left, behind fields that were noted.
pub record CheckedSoFar (rules : List FieldRule) (bytes : List ℕ) (seen : List Bool) (left : List ℕ) : Type 0 where
  pub before : List ℕ
  pub noted : Notes rules before seen
  pub same : message_fault rules bytes
      ≡ option_or (fields_fault rules before (fields left).items) (option_map Wire (fields left).fault)

pub checked-none : (rules : List FieldRule) (bytes : List ℕ) (seen : List Bool) → Notes rules [] seen
    → CheckedSoFar rules bytes seen bytes
unfolding message_fault
checked-none rules bytes seen noted = record { before = []; noted = noted; same = refl }

pub checked-all : (rules : List FieldRule) (bytes : List ℕ) (seen : List Bool) (left : List ℕ)
    → CheckedSoFar rules bytes seen left → fields left ≡ all_read → None ≡ message_fault rules bytes
unfolding fields_fault
checked-all rules bytes seen left so e =
    sym (so.same ∙ ap
    (λ (read : Reading Field WireFault). option_or (fields_fault rules so.before read.items)
    (option_map Wire read.fault)) e)

pub checked-fault : (rules : List FieldRule) (bytes : List ℕ) (seen : List Bool) (left : List ℕ) (fault : WireFault)
    → CheckedSoFar rules bytes seen left → fields left ≡ stops_at fault → Some (Wire fault) ≡ message_fault rules bytes
unfolding fields_fault
checked-fault rules bytes seen left fault so e =
    sym (so.same ∙ ap
    (λ (read : Reading Field WireFault). option_or (fields_fault rules so.before read.items)
    (option_map Wire read.fault)) e)

-- the fault of the next field, and then of those behind it
first_of : (rules : List FieldRule) (before : List ℕ) (f : Field) (fs : List Field) (fault : Option WireFault)
    (o : Option MessageFault) → o ≡ field_fault rules before f
    → option_or (fields_fault rules before (f ∷ fs)) (option_map Wire fault)
    ≡ option_or (option_or o (fields_fault rules (f.number ∷ before) fs)) (option_map Wire fault)
unfolding fields_fault
first_of rules before f fs fault o e =
    ap (λ x. option_or (option_or x (fields_fault rules (f.number ∷ before) fs)) (option_map Wire fault)) (sym e)

parts : (rules : List FieldRule) (bytes : List ℕ) (seen : List Bool) (left rest : List ℕ) (f : Field)
    (o : Option MessageFault) → (so : CheckedSoFar rules bytes seen left) → fields left ≡ then_reads f (fields rest)
    → o ≡ field_fault rules so.before f
    → message_fault rules bytes
    ≡ option_or (option_or o (fields_fault rules (f.number ∷ so.before) (fields rest).items))
    (option_map Wire (fields rest).fault)
parts rules bytes seen left rest f o so e checked =
    so.same ∙ ap (λ (read : Reading Field WireFault). option_or (fields_fault rules so.before read.items)
    (option_map Wire read.fault)) e
    ∙ first_of rules so.before f (fields rest).items (fields rest).fault o checked

pub checked-more : (rules : List FieldRule) (bytes : List ℕ) (seen now : List Bool) (left rest : List ℕ) (f : Field)
    → (so : CheckedSoFar rules bytes seen left) → fields left ≡ then_reads f (fields rest)
    → None ≡ field_fault rules so.before f → Notes rules (f.number ∷ so.before) now → CheckedSoFar rules bytes now rest
checked-more rules bytes seen now left rest f so e checked noted =
    record { before = f.number ∷ so.before; noted = noted; same = parts rules bytes seen left rest f None so e checked }

pub checked-no : (rules : List FieldRule) (bytes : List ℕ) (seen : List Bool) (left rest : List ℕ) (f : Field)
    (fault : MessageFault) → (so : CheckedSoFar rules bytes seen left) → fields left ≡ then_reads f (fields rest)
    → Some fault ≡ field_fault rules so.before f → Some fault ≡ message_fault rules bytes
checked-no rules bytes seen left rest f fault so e checked =
    sym (parts rules bytes seen left rest f (Some fault) so e checked)

-- ---- what is accepted

pub accepted : {P : Type 0} (r : Result (Unit {0}) MessageFault) (fault : Option MessageFault) → fault_of r ≡ fault
    → (fault ≡ None → P) → OnOk r P
accepted (Ok x) fault e holds = holds (sym e)
accepted (Err f) fault e holds = tt

pub message-whole : (table : Table) (bytes : List ℕ) → message_fault table bytes ≡ None → (fields bytes).fault ≡ None
unfolding message_fault
message-whole table bytes e =
    map_none Wire (fields bytes).fault
    (or_none (fields_fault table [] (fields bytes).items) (option_map Wire (fields bytes).fault) e).1

pub message-fits : (table : Table) (bytes : List ℕ) → message_fault table bytes ≡ None
    → FitsTable table (fields bytes).items
unfolding message_fault
message-fits table bytes e =
    none_fits table (fields bytes).items
    (or_none (fields_fault table [] (fields bytes).items) (option_map Wire (fields bytes).fault) e).0
