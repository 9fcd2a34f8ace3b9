-- Texts that are put one after another.
use Rattle.std.proofs.Common.{◌≡◌, List, ℕ, ◌++◌, append_assoc}

pub puts-both : (first next last a b : List ℕ) → next ≡ first ++ a → last ≡ next ++ b → last ≡ first ++ (a ++ b)
puts-both first next last a b one two = rw (two, one) (append_assoc first a b)

pub puts-four : (first b2 b3 b4 last a b c d : List ℕ) → b2 ≡ first ++ a → b3 ≡ b2 ++ b → b4 ≡ b3 ++ c → last ≡ b4 ++ d
    → last ≡ first ++ (((a ++ b) ++ c) ++ d)
puts-four first b2 b3 b4 last a b c d one two three four =
    puts-both first b4 last ((a ++ b) ++ c) d
    (puts-both first b3 b4 (a ++ b) c (puts-both first b2 b3 a b one two) three) four

pub puts-five : (first b2 b3 b4 b5 last a b c d e : List ℕ) → b2 ≡ first ++ a → b3 ≡ b2 ++ b → b4 ≡ b3 ++ c
    → b5 ≡ b4 ++ d → last ≡ b5 ++ e → last ≡ first ++ ((((a ++ b) ++ c) ++ d) ++ e)
puts-five first b2 b3 b4 b5 last a b c d e one two three four five =
    puts-both first b5 last (((a ++ b) ++ c) ++ d) e (puts-four first b2 b3 b4 b5 a b c d one two three four) five

-- five more behind a text
pub puts-behind : (first b1 b2 b3 b4 b5 last front a b c d e : List ℕ) → b1 ≡ first ++ front → b2 ≡ b1 ++ a
    → b3 ≡ b2 ++ b → b4 ≡ b3 ++ c → b5 ≡ b4 ++ d → last ≡ b5 ++ e
    → last ≡ first ++ (((((front ++ a) ++ b) ++ c) ++ d) ++ e)
puts-behind first b1 b2 b3 b4 b5 last front a b c d e before one two three four five =
    puts-five first b2 b3 b4 b5 last (front ++ a) b c d e (puts-both first b1 b2 front a before one) two three four five
