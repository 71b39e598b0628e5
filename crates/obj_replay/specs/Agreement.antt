-- When a record about a drawing agrees with what the call makes of its strip. Definitions only.
use Rattle.std.specs.Prelude.{ℕ, ◌+◌, ◌*◌, ◌<◌, min, ◌≡◌, List, ◌++◌, length, take, drop, get_or, replicate}
use Rattle.fields.specs.Bytes.{le_at, over, zeros}
use Rattle.strip.specs.Outcome.{Outcome, shown, left}
use Rattle.answers.specs.Words.{number_of, answer_words}
use Rattle.obj.specs.Obj.{obj_outcome}
use Rattle.obj_entry.specs.Entries.{obj_words}

-- the text before the call
unfoldable pub untouched_bytes : List ℕ
untouched_bytes = replicate 4096 0xD1

-- how many of n bytes the words in lend
abbrev pub lent : List ℕ → ℕ → ℕ
lent i n = min (get_or i 0 0) n

-- what drawing the strip behind that word comes to, and the text behind it
abbrev pub outcome_of : List ℕ → ℕ → Outcome ℕ
outcome_of i n = obj_outcome (drop 1 i) (lent i n)

unfoldable pub text_behind : List ℕ → List ℕ → List ℕ
text_behind i old = left (outcome_of i (length old)) (take (lent i (length old)) old) ++ drop (lent i (length old)) old

abbrev pub answer_behind : List ℕ → ℕ → List ℕ
answer_behind i n = over (answer_words obj_words (shown (outcome_of i n))) (zeros 8)

-- the words o out are the number, the length or the place, and the text, four bytes to a word; what the words don't reach is as it was
pub record DrawingAgrees (i o : List ℕ) : Type 0 where
  pub number : number_of (shown (outcome_of i 4096)) ≡ get_or o 0 0
  pub first : get_or (answer_behind i 4096) 0 0 ≡ get_or o 1 0
  pub text : (k : ℕ) → k < 1024 → le_at 4 (text_behind i untouched_bytes) (4 * k) ≡ get_or o (k + 2) 0xD1D1D1D1
