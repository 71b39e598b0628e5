-- What pass one answers, step by step. Definitions only.
use Rattle.std.specs.Prelude.{ℕ, ◌≤◌, ◌≡◌, Bool, true, false, List, Option, Some, None, Result, Ok, Err}
use Rattle.strip.specs.declared.Refusal.{Refusal}
use Rattle.strip.specs.Outcome.{Paper, values, refusal_of}
use Rattle.read_lists.specs.declared.Cursor.{Cursor}
use Rattle.read_lists.specs.Cursors.{AtPart}

-- whether a run of indices is below a limit, and where the cursor stands if it is
abbrev pub Below : List ℕ → Bool → Option Cursor → Type 0
Below table t (Some c) = (t ≡ true) × AtPart table c
Below table t None = t ≡ false

-- what a step over polygons answers: their words, at most so many, and where the cursor over the indices stands
abbrev pub Stepped : List ℕ → ℕ → Paper ℕ → Result (ℕ × Cursor) Refusal → Type 0
Stepped table most t (Ok a) = (t ≡ values a.0) × AtPart table a.1 × (a.0 ≤ most)
Stepped table most t (Err r) = t ≡ refusal_of r

-- words that are at most n
abbrev pub Small : ℕ → Result ℕ Refusal → Type 0
Small n (Ok w) = w ≤ n
Small n (Err r) = Unit {0}
