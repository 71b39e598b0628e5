-- What a record of the list says, what reading its pages comes to, and when the two agree. Definitions only.
use Rattle.std.specs.Prelude.{ℕ, ◌+◌, ◌-◌, ◌*◌, ◌≤◌, ◌<◌, min, ◌≡◌, cond, List, ◌++◌, eqb, ltb, length, take, drop, get_or, replicate}
use Rattle.fields.specs.Bytes.{le_at}
use Rattle.strip.specs.Outcome.{Outcome, Paper, shown, left}
use Rattle.ynv_read.specs.Parse.{parse_outcome}
use Rattle.read_decide.specs.declared.Parsed.{Parsed}
use Rattle.replay.specs.Ends.{record_end, padded}
use Rattle.replay.specs.Told.{told}
use Rattle.replay.specs.Tallies.{Within, Passed, Counted}
use Rattle.replay.specs.declared.Tally.{Tally}
use Rattle.read_replay.specs.declared.Record.{Record}

-- how much the cell of the record at a place has
abbrev pub expected_counts : List ℕ → ℕ → Parsed
expected_counts b at = record { words = le_at 4 b (at + 20); polys = le_at 4 b (at + 24); portals = le_at 4 b (at + 28); points = le_at 4 b (at + 32); sectors = le_at 4 b (at + 36) }

-- the answer that the record tells
abbrev pub expected : List ℕ → ℕ → Paper Parsed
expected b at = told (expected_counts b at) (le_at 4 b (at + 16)) (le_at 4 b (at + 20))

-- word k of a strip that has the words of these bytes in front and is untouched behind them
unfoldable pub told_word : List ℕ → ℕ → ℕ
told_word ws k = cond (ltb (4 * k) (length ws)) (le_at 4 ws (4 * k)) 0xD1D1D1D1

-- the strip before the call
unfoldable pub untouched_words : List ℕ
untouched_words = replicate 512 0xD1D1D1D1

-- the words of the cell that stand in the record
unfoldable pub told_words : List ℕ → ℕ → ℕ
told_words b at = cond (eqb (le_at 4 b (at + 16)) 0) (le_at 4 b (at + 20)) 0

-- how many of n words the record lends
abbrev pub lent : List ℕ → ℕ → ℕ → ℕ
lent b at n = min (le_at 4 b (at + 12)) n

abbrev pub between : List ℕ → (from to : ℕ) → List ℕ
between b from to = take (to - from) (drop from b)

-- what reading the record's sections comes to, and the strip behind it
abbrev pub outcome_of : List ℕ → ℕ → Record → ℕ → Outcome Parsed
outcome_of b at r n = parse_outcome (between b r.system r.system_end) (between b r.graphics r.graphics_end) (lent b at n)

unfoldable pub strip_of : List ℕ → ℕ → Record → List ℕ → List ℕ
strip_of b at r old = left (outcome_of b at r (length old)) (take (lent b at (length old)) old) ++ drop (lent b at (length old)) old

-- the reader agrees with the record: in its answer, in each word, and in what it leaves
pub record Agrees (b : List ℕ) (at : ℕ) (r : Record) : Type 0 where
  pub answer : shown (outcome_of b at r 512) ≡ expected b at
  pub strip : (k : ℕ) → k < 512 → get_or (strip_of b at r untouched_words) k 0 ≡ told_word (between b r.strip r.next) k

-- where the parts of the record at a place stand
abbrev pub graphics_at : List ℕ → ℕ → ℕ
graphics_at b at = record_end (length b) (at + 40) (padded (le_at 4 b (at + 4)))

abbrev pub strip_at : List ℕ → ℕ → ℕ
strip_at b at = record_end (length b) (graphics_at b at) (padded (le_at 4 b (at + 8)))

abbrev pub next_at : List ℕ → ℕ → ℕ
next_at b at = record_end (length b) (strip_at b at) (4 * told_words b at)

abbrev pub record_of : List ℕ → ℕ → Record
record_of b at =
    record {
      system = at + 40;
      system_end = record_end (length b) (at + 40) (le_at 4 b (at + 4));
      graphics = graphics_at b at;
      graphics_end = record_end (length b) (graphics_at b at) (le_at 4 b (at + 8));
      strip = strip_at b at;
      next = next_at b at;
    }

-- whether a record stands at a place, and whether its number is one of those that are asked for
abbrev pub Begins : List ℕ → ℕ → Type 0
Begins b at = (at + 40 ≤ length b) × (le_at 4 b at ≡ 7)

abbrev pub Asked : List ℕ → (low high at : ℕ) → Type 0
Asked b low high at = Within low high (le_at 4 b (at + 16))

-- the tally of the records with such a number: of those before a place, and of all
abbrev pub PassedAt : List ℕ → (low high at : ℕ) → Tally → Type 0
PassedAt b low high = Passed (λ (at : ℕ). Begins b at) (λ (at : ℕ). Asked b low high at) (λ (at : ℕ). Agrees b at (record_of b at)) (λ (at : ℕ). next_at b at) (length b)

abbrev pub TallyOf : List ℕ → (low high : ℕ) → Tally → Type 0
TallyOf b low high = Counted (λ (at : ℕ). Begins b at) (λ (at : ℕ). Asked b low high at) (λ (at : ℕ). Agrees b at (record_of b at)) (λ (at : ℕ). next_at b at) (length b)

-- a record at a place of n bytes, which it goes beyond and does not leave
pub record ReadRecordInside (at : ℕ) (r : Record) (n : ℕ) : Type 0 where
  pub starts : at < r.system
  pub system_in_order : r.system ≤ r.system_end
  pub inside : r.system_end ≤ n
  pub to_graphics : r.system ≤ r.graphics
  pub graphics_in_order : r.graphics ≤ r.graphics_end
  pub inside2 : r.graphics_end ≤ n
  pub last : r.graphics ≤ r.strip
  pub ends : r.strip ≤ r.next
  pub within : r.next ≤ n
