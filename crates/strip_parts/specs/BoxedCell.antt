-- What `check_cell` decides, and what a pass then knows. Definitions only.
use Rattle.std.specs.Prelude.{ℕ, ◌≡◌, true, List}
use Rattle.strip.specs.Reading.{head_at}
use Rattle.strip.specs.Box.{finite_box}
use Rattle.strip.specs.Laid.{Well}
use Rattle.strip.specs.Outcome.{Outcome}
use Rattle.strip.specs.Checked.{counts_of}
use Rattle.strip.specs.declared.Counts.{Counts}
use Rattle.strip_parts.specs.Boxed.{box_outcome}

-- what `check_cell` has to decide
abbrev pub cell_outcome : List ℕ → Outcome Counts
cell_outcome s = box_outcome counts_of s

-- what a pass knows of a strip that `check_cell` takes with these counts
pub record Boxed (s : List ℕ) (n : Counts) : Type 0 where
  pub formed : Well s n
  pub finite_box_is : finite_box (head_at s 0) ≡ true
