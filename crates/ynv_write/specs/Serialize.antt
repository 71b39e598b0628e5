-- What `serialize_ynv` decides: document 01's checks for writing in their order, and then the pages. Definitions only.
use Rattle.std.specs.Prelude.{ℕ, List, length}
use Rattle.strip.specs.Cell.{Cell}
use Rattle.strip.specs.Outcome.{Outcome}
use Rattle.pushed.specs.Pushed.{pushed}
use Rattle.write_pages.specs.Pages.{pages}
use Rattle.write_pages.specs.PointCounts.{stored_count, dropped_count}
use Rattle.write_pages.specs.Checks.{write_outcome}
use Rattle.ynv_write.specs.declared.Written.{Written}

-- the values of an accepted cell: "The writer's answer gains points stored and points dropped", and how many coordinates are pushed to the border stands there too
abbrev pub written_of : Cell → Written
written_of c = record { length = length (pages c); stored = stored_count c; dropped = dropped_count c; pushed = pushed c }

-- what writing a strip comes to, with so many words of work and so many bytes of pages lent
unfoldable pub serialize_outcome : (strip : List ℕ) → (work out : ℕ) → Outcome Written
serialize_outcome strip work out = write_outcome written_of strip work out
