-- When what a walk over a record's strip says and leaves agrees with the record.
use Prim.Native.Nat.{ℕ, ◌+◌, ◌*◌, ◌≤◌}
use native.Mathlib.Omega.{arith}
use mathlib.Core.Path.{◌≡◌, ap, sym, ◌∙◌}
use mathlib.Core.List.{List}
use lib.ListN.{length, get_or, replicate, length-replicate}
use Rattle.fields.specs.Bytes.{le_at, over, zeros}
use Rattle.strip.specs.Outcome.{shown}
use Rattle.answers.specs.Words.{number_of, answer_words}
use Rattle.reach_entry.specs.Entries.{reach_words}
use Rattle.reach_replay.specs.Agreement.{untouched_bytes, outcome_of, marks_behind, answer_behind, WalkAgrees}

-- marks u that no walk has touched yet, and x behind the record's walk
pub agreed : (i o u x : List ℕ) (n : ℕ) → u ≡ replicate 256 0xD1 → length x ≡ length u → n ≡ number_of (shown (outcome_of i (length u))) → n ≡ get_or o 0 0 → (ws : List ℕ) → ws ≡ over (answer_words reach_words (shown (outcome_of i (length u)))) (zeros 8) → get_or ws 0 0 ≡ get_or o 1 0 → x ≡ marks_behind i u → ((k : ℕ) → 4 * k + 4 ≤ length x → le_at 4 x (4 * k) ≡ get_or o (k + 2) 0xD1D1D1D1) → WalkAgrees i o
unfolding untouched_bytes
agreed i o u x n all same says number ws words first leaves marks =
    let len : 256 ≡ length u = sym (ap length all ∙ length-replicate {A = ℕ} 256 0xD1) in
    record {
      number = ap (λ (m : ℕ). number_of (shown (outcome_of i m))) len ∙ sym says ∙ number;
      first = ap (λ (m : ℕ). get_or (answer_behind i m) 0 0) len ∙ sym (ap (λ (l : List ℕ). get_or l 0 0) words) ∙ first;
      marks = λ k l. ap (λ (t : List ℕ). le_at 4 (marks_behind i t) (4 * k)) (sym all) ∙ sym (ap (λ (t : List ℕ). le_at 4 t (4 * k)) leaves) ∙ marks k (omega arith);
    }
