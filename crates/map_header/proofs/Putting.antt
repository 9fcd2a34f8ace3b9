-- Parts that are put one after another.
use Rattle.std.proofs.Common.{◌≡◌, ℕ, ◌+◌, List, [], ◌++◌, length, refl, sym, ap}
use Rattle.std.proofs.Common.{append_assoc, append-nil, length-append}
use Rattle.std.specs.Prelude.{ℤ}
use Rattle.mf_base.specs.Buffer.{Buffer, AppendsTo}
use Rattle.mf_base.specs.Spelling.{vbe_unsigned, string}
use Rattle.mf_base.proofs.ByteLaws.{length-big_endian}
use Rattle.map_model.specs.Header.{be_signed}

pub appends-both : (first second third : Buffer) (a b : List ℕ) → AppendsTo first second a → AppendsTo second third b
    → AppendsTo first third (a ++ b)
appends-both first second third a b one two =
    rw (two, one) (λ i. record { bytes = append_assoc first.bytes a b i; capacity = first.capacity })

pub appends-same : (first next : Buffer) (a b : List ℕ) → a ≡ b → AppendsTo first next a → AppendsTo first next b
appends-same first next a b same one = rw one (λ i. record { bytes = first.bytes ++ same i; capacity = first.capacity })

pub appends-none : (b : Buffer) → AppendsTo b b []
appends-none b = λ i. record { bytes = sym (append-nil b.bytes) i; capacity = b.capacity }

pub grown : (b next : Buffer) (bytes : List ℕ) → AppendsTo b next bytes
    → length next.bytes ≡ length b.bytes + length bytes
grown b next bytes puts = rw puts (length-append b.bytes bytes)

pub kept : (b next : Buffer) (bytes : List ℕ) → AppendsTo b next bytes → next.capacity ≡ b.capacity
kept b next bytes puts = ap (λ (b : Buffer). b.capacity) puts

-- a place takes eight bytes
pub length-place : (lat lon : ℤ) → length (be_signed lat ++ be_signed lon) ≡ 8
length-place lat lon = simp (length-append, length-big_endian) refl

pub length-string : (text : List ℕ) → length (string text) ≡ length (vbe_unsigned (length text)) + length text
unfolding string
length-string text = length-append (vbe_unsigned (length text)) text

pub string-is : (text : List ℕ) → string text ≡ vbe_unsigned (length text) ++ text
unfolding string
string-is text = refl

pub puts-four : (b0 b1 b2 b3 b4 : Buffer) (a b c d : List ℕ)
    → AppendsTo b0 b1 a → AppendsTo b1 b2 b → AppendsTo b2 b3 c → AppendsTo b3 b4 d
    → AppendsTo b0 b4 (((a ++ b) ++ c) ++ d)
puts-four b0 b1 b2 b3 b4 a b c d one two three four =
    appends-both b0 b3 b4 _ _ (appends-both b0 b2 b3 _ _ (appends-both b0 b1 b2 _ _ one two) three) four

pub puts-five : (b0 b1 b2 b3 b4 b5 : Buffer) (a b c d e : List ℕ)
    → AppendsTo b0 b1 a → AppendsTo b1 b2 b → AppendsTo b2 b3 c → AppendsTo b3 b4 d → AppendsTo b4 b5 e
    → AppendsTo b0 b5 ((((a ++ b) ++ c) ++ d) ++ e)
puts-five b0 b1 b2 b3 b4 b5 a b c d e one two three four five =
    appends-both b0 b4 b5 _ _ (puts-four b0 b1 b2 b3 b4 a b c d one two three four) five

-- a text behind its length
pub puts-string : (first second last : Buffer) (n : ℕ) (bytes text : List ℕ) → n ≡ length text → bytes ≡ text
    → AppendsTo first second (vbe_unsigned n) → AppendsTo second last bytes → AppendsTo first last (string text)
unfolding string
puts-string first second last n bytes text size is one two =
    appends-both first second last _ _ (appends-same first second _ _ (ap vbe_unsigned size) one)
    (appends-same second last _ _ is two)
