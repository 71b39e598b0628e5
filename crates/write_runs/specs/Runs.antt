-- The words of a strip that a record's runs stand for. Definitions only.
use Rattle.std.specs.Prelude.{ℕ, zero, suc, ◌+◌, ◌-◌, ◌*◌, ◌/◌, ◌%◌, ◌^◌, ◌≤◌, ◌<◌, min, ◌≡◌, cond, List, [], ◌∷◌, ◌++◌, eqb, ltb, length, take, drop}
use Rattle.replay.specs.Ends.{record_end}
use Rattle.fields.specs.Bytes.{le_at}
use Rattle.write_runs.specs.declared.Run.{Run}

-- which of the given words word k of a run is, and how often they came before it
abbrev pub which : List ℕ → ℕ → ℕ
which ws k = k % (length ws / 4)

abbrev pub before : List ℕ → ℕ → ℕ
before ws k = k / (length ws / 4)

-- word k of a run whose given words are these bytes, and whose word at `grows` is greater by 256 each time
unfoldable pub run_word : List ℕ → (grows k : ℕ) → ℕ
run_word ws grows k = cond (eqb (which ws k) grows) ((le_at 4 ws (4 * which ws k) + 256 * before ws k) % 4294967296) (le_at 4 ws (4 * which ws k))

-- the first n words of it
unfoldable pub run_words : List ℕ → (grows n : ℕ) → List ℕ
run_words ws grows zero = []
run_words ws grows (suc n) = run_words ws grows n ++ (run_word ws grows n ∷ [])

-- where the given words of the run at a place end, and the bytes of them
abbrev pub run_end : List ℕ → ℕ → ℕ
run_end rs at = record_end (length rs) (at + 12) (4 * le_at 4 rs (at + 4))

abbrev pub given_at : List ℕ → ℕ → List ℕ
given_at rs at = take (run_end rs at - (at + 12)) (drop (at + 12) rs)

-- how many words it makes where there is room for so many: none if no word is given
unfoldable pub run_count : List ℕ → (at room : ℕ) → ℕ
run_count rs at room = cond (ltb (run_end rs at - (at + 12)) 4) 0 (min (le_at 4 rs at) room)

unfoldable pub run_of : List ℕ → (at room : ℕ) → List ℕ
run_of rs at room = run_words (given_at rs at) (le_at 4 rs (at + 8)) (run_count rs at room)

pub record RunAt (rs : List ℕ) (at room : ℕ) (r : Run) : Type 0 where
  pub words : r.words ≡ at + 12
  pub end : r.end ≡ run_end rs at
  pub count : r.count ≡ run_count rs at room
  pub goes_on : at + 12 ≤ r.end
  pub inside : r.end ≤ length rs
  pub fits : r.count ≤ room
  pub small : r.count < 2 ^ 32
  pub given : 0 < r.count → 4 ≤ r.end - r.words

-- the runs before a place stand for these words, of which there is room for so many
pub data Runs (rs : List ℕ) (room : ℕ) : ℕ → List ℕ → Type 0 where
  none : Runs rs room 0 []
  more : (at : ℕ) (ws : List ℕ) → Runs rs room at ws → at + 12 ≤ length rs → Runs rs room (run_end rs at) (ws ++ run_of rs at (room - length ws))

-- all of the runs stand for these words
pub record Unrolled (rs : List ℕ) (room : ℕ) (ws : List ℕ) : Type 0 where
  pub end : ℕ
  pub runs : Runs rs room end ws
  pub all : length rs < end + 12
