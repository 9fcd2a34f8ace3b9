-- Whole varints, byte by byte.
use Rattle.std.proofs.Common.{◌≡◌, ◌<◌, ◌≤◌, ◌+◌, ◌*◌, ◌-◌, ◌∙◌, ℕ, List, [], length, drop, get_or, nat_eq, refl, sym}
use Rattle.std.proofs.Common.{ap, arith, inl, inr, false, Ok}
use Rattle.std.proofs.lemmas.Bool.{cases_lt, cases_eq, eq-eqb, ne_eqb}
use Rattle.std.proofs.lemmas.List.{drop-drop, length-drop, get_or-drop, nil_from_length}
use Rattle.mf_base.specs.NumberReading.{varint_front}
use Rattle.mf_base.specs.declared.number.VarintFault.TheVariants.{Short, Long}
use Rattle.mf_base.proofs.VarintRead.{ReadSoFar, read-none, read-more, answer-within, answer-tenth, answer-long}
use Rattle.mf_base.proofs.VarintRead.{answer-short}
use Rattle.mf_base.specs.Packed.{are_varints}
use Rattle.pbf_wire.proofs.PackedReads.{whole-first, whole-no, whole-nil}

-- All varints before a place are whole, and the first bytes of the next stand behind it.
pub record WholeSoFar (bytes : List ℕ) (at run : ℕ) : Type 0 where
  pub start : ℕ
  pub scale : ℕ
  pub value : ℕ
  pub reaches : start + run ≡ at
  pub same : are_varints bytes ≡ are_varints (drop start bytes)
  pub begun : ReadSoFar (drop start bytes) run scale value

pub whole-begin : (bytes : List ℕ) → WholeSoFar bytes 0 0
whole-begin bytes = record { start = 0; scale = 1; value = 0; reaches = refl; same = refl; begun = read-none bytes }

-- the byte at a place, from the start of its varint on
here : (bytes : List ℕ) (start run at : ℕ) → start + run ≡ at → get_or bytes at 0 ≡ get_or (drop start bytes) run 0
here bytes start run at e = ap (λ k. get_or bytes k 0) (sym e) ∙ sym (get_or-drop start bytes run 0)

within : (bytes : List ℕ) (start run at : ℕ) → start + run ≡ at → at < length bytes → run < length (drop start bytes)
within bytes start run at e less = omega (arith, e, less, length-drop start bytes)

before_tenth : (run byte : ℕ) → run ≤ 9 → (run ≡ 9 → byte ≤ 1) → 128 ≤ byte → run < 9
before_tenth run byte few tenth high = elim (cases_lt run 9) [
  | inl less ↦ less
  | inr many ↦ absurd (omega (arith, high, tenth (omega (arith, few, many))))
]

pub whole-high : (bytes : List ℕ) (at run byte : ℕ) → WholeSoFar bytes at run → at < length bytes
    → (run ≡ 9 → byte ≤ 1) → byte ≡ get_or bytes at 0 → 128 ≤ byte → byte < 256 → WholeSoFar bytes (at + 1) (run + 1)
whole-high bytes at run byte so less tenth is high small = record {
  start = so.start;
  scale = so.scale * 128;
  value = so.value + so.scale * (byte - 128);
  reaches = omega (arith, so.reaches);
  same = so.same;
  begun = read-more (drop so.start bytes) run so.scale so.value byte so.begun
      (within bytes so.start run at so.reaches less) (before_tenth run byte so.begun.few tenth high) (is
      ∙ here bytes so.start run at so.reaches) high small;
}

-- a varint ends at this byte
closed : (bytes : List ℕ) (at run n : ℕ) (so : WholeSoFar bytes at run)
    → varint_front (drop so.start bytes) ≡ Ok (n, run + 1) → WholeSoFar bytes (at + 1) 0
closed bytes at run n so front = record {
  start = at + 1;
  scale = 1;
  value = 0;
  reaches = omega arith;
  same = so.same ∙ whole-first (drop so.start bytes) n (run + 1) front
      ∙ ap are_varints (drop-drop (run + 1) so.start bytes ∙ ap (λ k. drop k bytes) (omega (arith, so.reaches)));
  begun = read-none (drop (at + 1) bytes);
}

pub whole-low : (bytes : List ℕ) (at run byte : ℕ) → WholeSoFar bytes at run → at < length bytes
    → (run ≡ 9 → byte ≤ 1) → byte ≡ get_or bytes at 0 → byte < 128 → WholeSoFar bytes (at + 1) 0
whole-low bytes at run byte so less tenth is low =
    let stands = is ∙ here bytes so.start run at so.reaches in
    let inside = within bytes so.start run at so.reaches less in
    elim (cases_lt run 9) [
      | inl few ↦ closed bytes at run _ so
          (sym (answer-within (drop so.start bytes) run so.scale so.value byte so.begun inside few stands low))
      | inr many ↦
          let nine : run ≡ 9 = omega (arith, many, so.begun.few) in
          let front = answer-tenth (drop so.start bytes) run so.scale so.value byte so.begun inside nine stands
          (omega (arith, tenth nine)) in
          closed bytes at run _ so (sym front ∙ ap (λ k. Ok (so.value + so.scale * byte, k)) (omega (arith, nine)))
    ]

pub whole-no_tenth : (bytes : List ℕ) (at run byte : ℕ) → WholeSoFar bytes at run → at < length bytes → run ≡ 9
    → byte ≡ get_or bytes at 0 → 1 < byte → false ≡ are_varints bytes
whole-no_tenth bytes at run byte so less nine is high =
    let stands = is ∙ here bytes so.start run at so.reaches in
    let inside = within bytes so.start run at so.reaches less in
    let fault = answer-long (drop so.start bytes) run so.scale so.value byte so.begun inside nine stands
    (omega (arith, high)) in
    sym (so.same ∙ whole-no (drop so.start bytes) Long (omega (arith, inside)) (sym fault))

-- the bytes end behind a varint, or within one
pub whole-ends : (bytes : List ℕ) (at run : ℕ) → WholeSoFar bytes at run → length bytes ≤ at
    → nat_eq run 0 ≡ are_varints bytes
whole-ends bytes at run so past = elim (cases_eq run 0) [
  | inl none ↦
      let left : drop so.start bytes ≡ [] =
      nil_from_length (drop so.start bytes) (omega (arith, so.reaches, none, past, length-drop so.start bytes)) in
      eq-eqb run 0 none ∙ sym (so.same ∙ ap are_varints left ∙ whole-nil)
  | inr some ↦
      let left : length (drop so.start bytes) ≤ run = omega (arith, so.reaches, past, length-drop so.start bytes) in
      let held : 0 < length (drop so.start bytes) = omega (arith, so.begun.within, some) in
      let fault = answer-short (drop so.start bytes) run so.scale so.value so.begun left in
      ne_eqb run 0 some ∙ sym (so.same ∙ whole-no (drop so.start bytes) Short held (sym fault))
]
