-- What writing a record's strip says and leaves, and when that agrees with the record.
use Prim.Native.Nat.{ℕ}
use native.Mathlib.Omega.{arith}
use mathlib.Core.Path.{◌≡◌, ap, sym, ◌∙◌}
use mathlib.Core.List.{List, ◌++◌}
use lib.ListN.{length, take, drop, length-take}
use Rattle.strip.specs.Outcome.{Paper, shown, left}
use Rattle.ynv_write.specs.Serialize.{serialize_outcome}
use Rattle.ynv_write.specs.declared.Written.{Written}
use Rattle.write_runs.specs.Runs.{Unrolled}
use Rattle.write_replay.specs.Agreement.{expected, lent, lent_work, between, outcome_of, pages_of, PagesAgree, Agrees, untouched_bytes}
use Rattle.write_replay.specs.declared.Record.{Record}

-- what a call with a part of the work and of the pages says and leaves
module _ (b : List ℕ) (at : ℕ) (strip work old : List ℕ) (g : ℕ) (d : g ≡ lent_work b at) (long : 856000 ≡ length work) (f : ℕ) (e : f ≡ lent b at (length old)) where
  part_length : length (take f old) ≡ f
  part_length = simp length-take (omega arith)

  work_length : length (take g work) ≡ g
  work_length = simp length-take (omega arith)

  pub answered : (p : Paper Written) → p ≡ shown (serialize_outcome strip (length (take g work)) (length (take f old))) → p ≡ shown (outcome_of b at strip (length old))
  unfolding outcome_of
  answered p q = rw (work_length, part_length, d, e) at q

  pub pages_left : (new : List ℕ) → new ≡ left (serialize_outcome strip (length (take g work)) (length (take f old))) (take f old) → new ++ drop f old ≡ pages_of b at strip old
  unfolding pages_of outcome_of
  pages_left new q = rw (q, work_length, part_length, d, e)

-- a strip that was made in s, pages u that nothing was written into yet, and x when the strip was written
pub agreed : (b : List ℕ) (at : ℕ) (r : Record) (s strip u x : List ℕ) (p : Paper Written) → 214000 ≡ length s → Unrolled (between b r.runs r.bytes) (length s) strip → u ≡ untouched_bytes → 1400000 ≡ length u
    → p ≡ shown (outcome_of b at strip (length u)) → p ≡ expected b at → x ≡ pages_of b at strip u → PagesAgree b at r x → Agrees b at r
agreed b at r s strip u x p room made all len says tells leaves same =
    record {
      strip = strip;
      runs = rw room made;
      answer = ap (λ (n : ℕ). shown (outcome_of b at strip n)) len ∙ sym says ∙ tells;
      pages = rw (← all, ← leaves) same;
    }
