-- What is put to a buffer, part by part: for every writer of a tile.
use Rattle.std.proofs.Common.{◌≡◌, ℕ, ◌+◌, List, [], ◌++◌, length, refl, sym, ap, ◌∙◌, arith}
use Rattle.std.proofs.Common.{append-nil, append_assoc, length-append, subst}
use Rattle.mf_base.specs.Buffer.{Buffer, AppendsTo, HasRoom}

-- What is still to be put completes what is to be put of the first.
pub record Completes (now first : Buffer) (rest all : List ℕ) : Type 0 where
  pub bytes : now.bytes ++ rest ≡ first.bytes ++ all
  pub capacity : now.capacity ≡ first.capacity

pub completes-none : (first : Buffer) (all : List ℕ) → Completes first first all all
completes-none first all = record { bytes = refl; capacity = refl }

pub completes-more : (now next first : Buffer) (part rest all : List ℕ) → Completes now first (part ++ rest) all
    → AppendsTo now next part → Completes next first rest all
completes-more now next first part rest all h put =
    rw put (record { bytes = append_assoc now.bytes part rest ∙ h.bytes; capacity = h.capacity })

-- the same, where what was to be put is known by an equation
pub completes-part : (now next first : Buffer) (before part rest all : List ℕ) → before ≡ part ++ rest
    → Completes now first before all → AppendsTo now next part → Completes next first rest all
completes-part now next first before part rest all is h put =
    completes-more now next first part rest all (rw is at h) put

pub completes-all : (now first : Buffer) (rest all : List ℕ) → rest ≡ [] → Completes now first rest all
    → AppendsTo first now all
completes-all now first rest all none h =
    λ i. record {
      bytes = (sym (append-nil now.bytes) ∙ ap (λ l. now.bytes ++ l) (sym none) ∙ h.bytes) i;
      capacity = h.capacity i;
    }

-- what is still to be put has room, where all had
pub completes-room : (now first : Buffer) (rest all : List ℕ) (more : ℕ) → Completes now first rest all
    → HasRoom first (length all + more) → HasRoom now (length rest + more)
completes-room now first rest all more h room =
    let same = h.capacity in
    let sum = ap length h.bytes in
    let a = length-append now.bytes rest in
    let b = length-append first.bytes all in
    omega (arith, same, sum, a, b, room)

-- the front of what is still to be put has room too
pub completes-front : (now first : Buffer) (before part rest all : List ℕ) (more : ℕ) → before ≡ part ++ rest
    → Completes now first before all → HasRoom first (length all + more) → HasRoom now (length part + more)
completes-front now first before part rest all more is h room =
    let whole = completes-room now first before all more h room in
    let sum = ap length is in
    let a = length-append part rest in
    omega (arith, whole, sum, a)

-- two parts one after the other
pub puts-two : (first middle last : Buffer) (a b : List ℕ) → AppendsTo first middle a → AppendsTo middle last b
    → AppendsTo first last (a ++ b)
puts-two first middle last a b one two =
    rw (two, one) (λ i. record { bytes = append_assoc first.bytes a b i; capacity = first.capacity })

-- ---- a part in front of the rest of a whole

pub room-front : (first : Buffer) (whole part rest : List ℕ) (more : ℕ) → whole ≡ part ++ rest
    → HasRoom first (length whole + more) → HasRoom first (length part + more)
room-front first whole part rest more is room =
    let all = ap length is in let sum = length-append part rest in omega (arith, all, sum, room)

pub room-rest : (first next : Buffer) (whole part rest : List ℕ) (more : ℕ) → whole ≡ part ++ rest
    → AppendsTo first next part → HasRoom first (length whole + more) → HasRoom next (length rest + more)
room-rest first next whole part rest more is put room =
    let all = ap length is in
    let sum = length-append part rest in
    let count = length-append first.bytes part in
    rw put (omega (arith, all, sum, count, room))

pub puts-whole : (first middle last : Buffer) (whole part rest : List ℕ) → whole ≡ part ++ rest
    → AppendsTo first middle part → AppendsTo middle last rest → AppendsTo first last whole
puts-whole first middle last whole part rest is one two =
    subst (AppendsTo first last) (sym is) (puts-two first middle last part rest one two)

pub puts-nothing : (first : Buffer) (whole : List ℕ) → whole ≡ [] → AppendsTo first first whole
puts-nothing first whole none =
    λ i. record { bytes = (sym (append-nil first.bytes) ∙ ap (λ l. first.bytes ++ l) (sym none)) i; capacity = first.capacity }
