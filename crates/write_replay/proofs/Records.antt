-- What a record tells, from the tests that are made.
use Prim.Native.Nat.{ℕ, ◌+◌, ◌*◌, ◌%◌, ◌≤◌, min}
use native.Mathlib.Omega.{arith}
use native.Mathlib.Numerals.{add-one}
use mathlib.Core.Path.{◌≡◌}
use mathlib.Core.List.{List}
use lib.ListN.{length, take, get_or}
use borrow.Author.Tests.{eq-eqb, ne_eqb}
use Rattle.fields.specs.Bytes.{le_at}
use Rattle.ynv_write.specs.declared.Written.{Written}
use Rattle.write_replay.specs.Agreement.{expected_length, sum_up_to, checksum, between, SameBytes, Untouched, PagesAgree}
use Rattle.write_replay.specs.declared.Record.{Record}

-- an answer's values
pub same_values : (w : Written) {n k l u : ℕ} → w.length ≡ n → w.stored ≡ k → w.dropped ≡ l → w.pushed ≡ u → w ≡ record { length = n; stored = k; dropped = l; pushed = u }
same_values w e f g h = rw (← e, ← f, ← g, ← h)

module _ (b : List ℕ) (at : ℕ) where
  pub told_some : (n : ℕ) → le_at 4 b (at + 12) ≡ 0 → n ≡ le_at 4 b (at + 16) → n ≡ expected_length b at
  unfolding expected_length
  told_some n e q = rw (eq-eqb (le_at 4 b (at + 12)) 0 e) q

  pub told_none : (le_at 4 b (at + 12) ≡ 0 → ⊥) → 0 ≡ expected_length b at
  unfolding expected_length
  told_none h = rw (ne_eqb (le_at 4 b (at + 12)) 0 h)

-- the checksum of one byte more, and of all of them
module _ (xs : List ℕ) (k s : ℕ) where
  pub sum_next : s ≡ sum_up_to xs k → (s * 2654435761 + get_or xs k 0 + 1) % 4294967291 ≡ sum_up_to xs (k + 1)
  unfolding sum_up_to
  sum_next e = rw (e, add-one k)

  pub sum_all : k ≤ length xs → length xs ≤ k → s ≡ sum_up_to xs k → s ≡ sum_up_to xs (length xs)
  sum_all h g e = let all : length xs ≡ k = omega arith in rw all e

-- the pages' three tests
pub pages_agreed : (b : List ℕ) (at : ℕ) (r : Record) (pages : List ℕ) (f : ℕ) → f ≡ min (expected_length b at) (length pages) → checksum (take f pages) ≡ le_at 4 b (at + 48)
    → SameBytes (between b r.bytes r.bytes_end) pages → Untouched f pages → PagesAgree b at r pages
pages_agreed b at r pages f e s t u = record { same_checksum = rw (← e) s; bytes = t; rest = rw (← e) u }
