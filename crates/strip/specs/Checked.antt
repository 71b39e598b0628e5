-- What `check_strip` decides: the counts of a well-formed strip. Definitions only.
use Rattle.std.specs.Prelude.{ℕ, List, []}
use Rattle.strip.specs.Cell.{Cell}
use Rattle.strip.specs.Scan.{scan}
use Rattle.strip.specs.Laid.{cell_counts}
use Rattle.strip.specs.Outcome.{Outcome, done}
use Rattle.strip.specs.declared.Counts.{Counts}
use Rattle.strip.specs.Check.{on_cell}

-- what the call has to decide
abbrev pub counts_of : Cell → Outcome Counts
counts_of c = done (cell_counts c) []

abbrev pub strip_outcome : List ℕ → Outcome Counts
strip_outcome s = on_cell counts_of (scan s)
