-- When what drawing a record's strip says and leaves agrees with the record.
use Prim.Native.Nat.{ℕ, ◌+◌, ◌*◌, ◌≤◌}
use native.Mathlib.Omega.{arith}
use mathlib.Core.Path.{◌≡◌, ap, sym, ◌∙◌}
use mathlib.Core.List.{List}
use lib.ListN.{length, get_or, replicate, length-replicate}
use Rattle.fields.specs.Bytes.{le_at, over, zeros}
use Rattle.strip.specs.Outcome.{shown}
use Rattle.answers.specs.Words.{number_of, answer_words}
use Rattle.obj_entry.specs.Entries.{obj_words}
use Rattle.obj_replay.specs.Agreement.{untouched_bytes, outcome_of, text_behind, answer_behind, DrawingAgrees}

-- a text u that nothing was drawn into yet, and x when the record was drawn
pub agreed : (i o u x : List ℕ) (n : ℕ) → u ≡ replicate 4096 0xD1 → length x ≡ length u → n ≡ number_of (shown (outcome_of i (length u))) → n ≡ get_or o 0 0 → (ws : List ℕ) → ws ≡ over (answer_words obj_words (shown (outcome_of i (length u)))) (zeros 8) → get_or ws 0 0 ≡ get_or o 1 0 → x ≡ text_behind i u → ((k : ℕ) → 4 * k + 4 ≤ length x → le_at 4 x (4 * k) ≡ get_or o (k + 2) 0xD1D1D1D1) → DrawingAgrees i o
unfolding untouched_bytes
agreed i o u x n all same says number ws words first leaves text =
    let len : 4096 ≡ length u = sym (ap length all ∙ length-replicate {A = ℕ} 4096 0xD1) in
    record {
      number = ap (λ (m : ℕ). number_of (shown (outcome_of i m))) len ∙ sym says ∙ number;
      first = ap (λ (m : ℕ). get_or (answer_behind i m) 0 0) len ∙ sym (ap (λ (l : List ℕ). get_or l 0 0) words) ∙ first;
      text = λ k l. ap (λ (t : List ℕ). le_at 4 (text_behind i t) (4 * k)) (sym all) ∙ sym (ap (λ (t : List ℕ). le_at 4 t (4 * k)) leaves) ∙ text k (omega arith);
    }
