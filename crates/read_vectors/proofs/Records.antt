-- What reading a record's sections says and leaves, and when that agrees with the record.
use Prim.Native.Nat.{ℕ, ◌<◌}
use native.Mathlib.Omega.{arith}
use mathlib.Core.Path.{◌≡◌, ap, sym, ◌∙◌}
use mathlib.Core.List.{List, ◌++◌}
use lib.ListN.{length, take, drop, get_or, length-take}
use Rattle.strip.specs.Outcome.{Paper, shown, left}
use Rattle.ynv_read.specs.Parse.{parse_outcome}
use Rattle.read_decide.specs.declared.Parsed.{Parsed}
use Rattle.read_replay.specs.Agreement.{expected, told_word, lent, between, untouched_words, outcome_of, strip_of, Agrees}
use Rattle.read_replay.specs.declared.Record.{Record}

-- what a call with a part of the strip says and leaves
module _ (b : List ℕ) (at : ℕ) (r : Record) (old : List ℕ) (f : ℕ) (e : f ≡ lent b at (length old)) where
  part_length : length (take f old) ≡ f
  part_length = simp length-take (omega arith)

  pub answered : (p : Paper Parsed) → p ≡ shown (parse_outcome (between b r.system r.system_end) (between b r.graphics r.graphics_end) (length (take f old))) → p ≡ shown (outcome_of b at r (length old))
  answered p q = rw (part_length, e) at q

  pub strip_left : (new : List ℕ) → new ≡ left (parse_outcome (between b r.system r.system_end) (between b r.graphics r.graphics_end) (length (take f old))) (take f old) → new ++ drop f old ≡ strip_of b at r old
  unfolding strip_of
  strip_left new q = rw (q, part_length, e)

-- a strip u that nothing was read into yet, and x when the record was read
pub agreed : (b : List ℕ) (at : ℕ) (r : Record) (u x : List ℕ) (p : Paper Parsed) → u ≡ untouched_words → 512 ≡ length u → p ≡ shown (outcome_of b at r (length u)) → p ≡ expected b at → x ≡ strip_of b at r u → ((k : ℕ) → k < 512 → get_or x k 0 ≡ told_word (between b r.strip r.next) k) → Agrees b at r
agreed b at r u x p all len says tells leaves words =
    record {
      answer = ap (λ (n : ℕ). shown (outcome_of b at r n)) len ∙ sym says ∙ tells;
      strip = λ k l. ap (λ (s : List ℕ). get_or (strip_of b at r s) k 0) (sym all) ∙ sym (ap (λ (s : List ℕ). get_or s k 0) leaves) ∙ words k l;
    }
