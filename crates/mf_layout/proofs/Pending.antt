-- Bytes that are put by way of a buffer: some of them were taken, and others wait.
use Rattle.std.proofs.Common.{◌≡◌, ℕ, ◌<◌, List, ◌++◌, length, sym, ap, ◌∙◌, Option, append_assoc}
use Rattle.mf_edge.specs.Device.{Gains, GainsFront}
use Rattle.mf_layout.proofs.Stretches.{none-put}
use Rattle.mf_edge.proofs.Putting.{Gains-then, GainsFront-then, GainsFront-longer}

-- Of these bytes the first were taken, and those that wait are left.
abbrev pub IsPutOf : Option (List ℕ) → List ℕ → Option (List ℕ) → List ℕ → Type 0
IsPutOf before all now waiting = (done : List ℕ) × Gains before done now × (all ≡ done ++ waiting)

-- the first of those that wait were taken
pub put-more : (before mid now : Option (List ℕ)) (all put waiting : List ℕ) → IsPutOf before all mid (put ++ waiting)
    → Gains mid put now → IsPutOf before all now waiting
put-more before mid now all put waiting first second = (
  first.0 ++ put,
  Gains-then before mid now first.0 put first.1 second,
  first.2 ∙ sym (append_assoc first.0 put waiting),
)

-- some of those that wait were taken, and not all
pub put-front : (before mid now : Option (List ℕ)) (all put waiting : List ℕ) → IsPutOf before all mid (put ++ waiting)
    → GainsFront mid put now → GainsFront before all now
put-front before mid now all put waiting first second =
    rw first.2 (GainsFront-then before mid now first.0 (put ++ waiting) first.1
    (GainsFront-longer mid now put waiting second))

-- no more was taken, and some wait
pub put-none : (before now : Option (List ℕ)) (all waiting : List ℕ) → IsPutOf before all now waiting
    → 0 < length waiting → GainsFront before all now
put-none before now all waiting put some =
    rw put.2 (GainsFront-then before now now put.0 waiting put.1 (none-put now waiting some))

-- the same bytes wait
pub put-same : (before now : Option (List ℕ)) (all waiting others : List ℕ) → waiting ≡ others
    → IsPutOf before all now waiting → IsPutOf before all now others
put-same before now all waiting others e put = (put.0, put.1, put.2 ∙ ap (λ bs. put.0 ++ bs) e)

-- all that wait were taken
pub put-all : (before mid now : Option (List ℕ)) (all waiting : List ℕ) → IsPutOf before all mid waiting
    → Gains mid waiting now → Gains before all now
put-all before mid now all waiting put last = rw put.2 (Gains-then before mid now put.0 waiting put.1 last)

-- room was made in a buffer, by taking some of what it held
pub put-room : (before mid now : Option (List ℕ)) (all waiting left rest : List ℕ)
    → IsPutOf before all mid (waiting ++ rest) → ((put : List ℕ) × (waiting ≡ put ++ left) × Gains mid put now)
    → IsPutOf before all now (left ++ rest)
put-room before mid now all waiting left rest first room =
    put-more before mid now all room.0 (left ++ rest)
    (put-same before mid all (waiting ++ rest) (room.0 ++ (left ++ rest))
    (ap (λ bs. bs ++ rest) room.1 ∙ append_assoc room.0 left rest) first) room.2
