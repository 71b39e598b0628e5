-- What a record of the list says, what writing its strip comes to, and when the two agree. Definitions only.
use Rattle.std.specs.Prelude.{ℕ, zero, suc, ◌+◌, ◌-◌, ◌*◌, ◌%◌, ◌≤◌, ◌<◌, min, ◌≡◌, cond, List, ◌++◌, eqb, length, take, drop, get_or, replicate}
use Rattle.fields.specs.Bytes.{le_at}
use Rattle.strip.specs.Outcome.{Outcome, Paper, shown, left}
use Rattle.ynv_write.specs.Serialize.{serialize_outcome}
use Rattle.ynv_write.specs.declared.Written.{Written}
use Rattle.replay.specs.Ends.{record_end, padded}
use Rattle.replay.specs.Told.{told}
use Rattle.replay.specs.Tallies.{Within, Passed, Counted}
use Rattle.replay.specs.declared.Tally.{Tally}
use Rattle.write_runs.specs.Runs.{Unrolled}
use Rattle.write_replay.specs.declared.Record.{Record}

-- the answer that the record at a place tells
abbrev pub expected : List ℕ → ℕ → Paper Written
expected b at =
    told (record { length = le_at 4 b (at + 16); stored = le_at 4 b (at + 20); dropped = le_at 4 b (at + 24); pushed = le_at 4 b (at + 28) }) (le_at 4 b (at + 12)) (le_at 4 b (at + 16))

-- the length of its pages
unfoldable pub expected_length : List ℕ → ℕ → ℕ
expected_length b at = cond (eqb (le_at 4 b (at + 12)) 0) (le_at 4 b (at + 16)) 0

-- the checksum of the first k bytes
unfoldable pub sum_up_to : List ℕ → ℕ → ℕ
sum_up_to xs zero = 0
sum_up_to xs (suc k) = (sum_up_to xs k * 2654435761 + get_or xs k 0 + 1) % 4294967291

abbrev pub checksum : List ℕ → ℕ
checksum xs = sum_up_to xs (length xs)

-- the pages before the call
unfoldable pub untouched_bytes : List ℕ
untouched_bytes = replicate 1400000 0xD1

-- how many words of work, and how many of n bytes, the record lends
abbrev pub lent_work : List ℕ → ℕ → ℕ
lent_work b at = min (le_at 4 b (at + 4)) 856000

abbrev pub lent : List ℕ → ℕ → ℕ → ℕ
lent b at n = min (le_at 4 b (at + 8)) n

abbrev pub between : List ℕ → (from to : ℕ) → List ℕ
between b from to = take (to - from) (drop from b)

-- what writing a strip with the record's work and room comes to, and the pages behind it
unfoldable pub outcome_of : List ℕ → ℕ → (strip : List ℕ) → ℕ → Outcome Written
outcome_of b at w n = serialize_outcome w (lent_work b at) (lent b at n)

unfoldable pub pages_of : List ℕ → ℕ → (strip old : List ℕ) → List ℕ
pages_of b at w old = left (outcome_of b at w (length old)) (take (lent b at (length old)) old) ++ drop (lent b at (length old)) old

-- pages that begin with these bytes; pages that are as they were from a place on
pub record SameBytes (bs pages : List ℕ) : Type 0 where
  pub long : length bs ≤ length pages
  pub same : (k : ℕ) → k < length bs → get_or pages k 0 ≡ get_or bs k 0

abbrev pub Untouched : (from : ℕ) → List ℕ → Type 0
Untouched from pages = (k : ℕ) → from ≤ k → k < length pages → get_or pages k 0 ≡ 0xD1

-- the pages have the record's checksum, begin with the bytes that it tells, and are behind its length as they were
pub record PagesAgree (b : List ℕ) (at : ℕ) (r : Record) (pages : List ℕ) : Type 0 where
  pub same_checksum : checksum (take (min (expected_length b at) (length pages)) pages) ≡ le_at 4 b (at + 48)
  pub bytes : SameBytes (between b r.bytes r.bytes_end) pages
  pub rest : Untouched (min (expected_length b at) (length pages)) pages

-- the writer agrees with the record: in its answer to the strip that the runs stand for, in the pages, and in what it leaves
pub record Agrees (b : List ℕ) (at : ℕ) (r : Record) : Type 0 where
  pub strip : List ℕ
  pub runs : Unrolled (between b r.runs r.bytes) 214000 strip
  pub answer : shown (outcome_of b at strip 1400000) ≡ expected b at
  pub pages : PagesAgree b at r (pages_of b at strip untouched_bytes)

-- where the parts of the record at a place stand
abbrev pub bytes_at : List ℕ → ℕ → ℕ
bytes_at b at = record_end (length b) (at + 60) (4 * le_at 4 b (at + 56))

abbrev pub next_at : List ℕ → ℕ → ℕ
next_at b at = record_end (length b) (bytes_at b at) (padded (le_at 4 b (at + 52)))

abbrev pub record_of : List ℕ → ℕ → Record
record_of b at =
    record {
      runs = at + 60;
      bytes = bytes_at b at;
      bytes_end = record_end (length b) (bytes_at b at) (le_at 4 b (at + 52));
      next = next_at b at;
    }

-- whether a record stands at a place, and whether its number is one of those that are asked for
abbrev pub Begins : List ℕ → ℕ → Type 0
Begins b at = (at + 60 ≤ length b) × (le_at 4 b at ≡ 8)

abbrev pub Asked : List ℕ → (low high at : ℕ) → Type 0
Asked b low high at = Within low high (le_at 4 b (at + 12))

-- the tally of the records with such a number: of those before a place, and of all
abbrev pub PassedAt : List ℕ → (low high at : ℕ) → Tally → Type 0
PassedAt b low high = Passed (λ (at : ℕ). Begins b at) (λ (at : ℕ). Asked b low high at) (λ (at : ℕ). Agrees b at (record_of b at)) (λ (at : ℕ). next_at b at) (length b)

abbrev pub TallyOf : List ℕ → (low high : ℕ) → Tally → Type 0
TallyOf b low high = Counted (λ (at : ℕ). Begins b at) (λ (at : ℕ). Asked b low high at) (λ (at : ℕ). Agrees b at (record_of b at)) (λ (at : ℕ). next_at b at) (length b)

-- a record at a place of n bytes, which it goes beyond and does not leave
pub record WriteRecordInside (at : ℕ) (r : Record) (n : ℕ) : Type 0 where
  pub starts : at < r.runs
  pub to_bytes : r.runs ≤ r.bytes
  pub expected : r.bytes ≤ r.bytes_end
  pub inside : r.bytes_end ≤ n
  pub to_next : r.bytes ≤ r.next
  pub within : r.next ≤ n
