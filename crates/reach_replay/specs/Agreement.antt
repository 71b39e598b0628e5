-- When a record about a walk agrees with what the call makes of its strip. Definitions only.
use Rattle.std.specs.Prelude.{ℕ, ◌+◌, ◌*◌, ◌<◌, min, ◌≡◌, List, ◌++◌, length, take, drop, get_or, replicate}
use Rattle.fields.specs.Bytes.{le_at, over, zeros}
use Rattle.strip.specs.Outcome.{Outcome, shown, left}
use Rattle.answers.specs.Words.{number_of, answer_words}
use Rattle.reach.specs.Reached.{reach_outcome}
use Rattle.reach_entry.specs.Entries.{reach_words}

-- the marks before the call
unfoldable pub untouched_bytes : List ℕ
untouched_bytes = replicate 256 0xD1

-- how many of n bytes the words in lend
abbrev pub lent : List ℕ → ℕ → ℕ
lent i n = min (get_or i 1 0) n

-- what a walk over the strip behind the start and that word comes to, and the marks behind it
abbrev pub outcome_of : List ℕ → ℕ → Outcome ℕ
outcome_of i n = reach_outcome (drop 2 i) (get_or i 0 0) (lent i n)

unfoldable pub marks_behind : List ℕ → List ℕ → List ℕ
marks_behind i old = left (outcome_of i (length old)) (take (lent i (length old)) old) ++ drop (lent i (length old)) old

abbrev pub answer_behind : List ℕ → ℕ → List ℕ
answer_behind i n = over (answer_words reach_words (shown (outcome_of i n))) (zeros 8)

-- the words o out are the number, how many are marked or the place, and the marks, four bytes to a word; what the words don't reach is as it was
pub record WalkAgrees (i o : List ℕ) : Type 0 where
  pub number : number_of (shown (outcome_of i 256)) ≡ get_or o 0 0
  pub first : get_or (answer_behind i 256) 0 0 ≡ get_or o 1 0
  pub marks : (k : ℕ) → k < 64 → le_at 4 (marks_behind i untouched_bytes) (4 * k) ≡ get_or o (k + 2) 0xD1D1D1D1
