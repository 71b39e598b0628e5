-- "Checks: 3, then 10", which several calls share: the strip is well formed, and its cell's box is finite. Definitions only.
use Rattle.std.specs.Prelude.{ℕ, cond, List, []}
use Rattle.strip.specs.Cell.{Cell}
use Rattle.strip.specs.Box.{finite_box}
use Rattle.strip.specs.Scan.{scan}
use Rattle.strip.specs.Outcome.{Outcome, refused, done}
use Rattle.strip.specs.Check.{on_cell}

-- 10 on a cell, and otherwise what f decides of it
abbrev pub on_box : {A : Type 0} → (Cell → Outcome A) → Cell → Outcome A
on_box f c = cond (finite_box c.head) (f c) (refused 10 0)

-- 3, then 10, then what f decides of the cell, further refusals among it
abbrev pub box_outcome : {A : Type 0} → (Cell → Outcome A) → List ℕ → Outcome A
box_outcome f s = on_cell (on_box f) (scan s)

-- the same where the call says f of the cell, refuses nothing more and fills no output
abbrev pub checked : {A : Type 0} → (Cell → A) → List ℕ → Outcome A
checked f s = box_outcome (λ c. done (f c) []) s
