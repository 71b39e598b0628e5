-- The calls on a strip, which refuse what `scan` refuses. Definitions only.
use Rattle.strip.specs.Cell.{Cell}
use Rattle.strip.specs.Scan.{Scanned, ok, fault}
use Rattle.strip.specs.Outcome.{Outcome, refused}

-- a strip is refused where `scan` finds a fault, and otherwise its cell decides
abbrev pub on_cell : {A : Type 0} → (Cell → Outcome A) → Scanned → Outcome A
on_cell f (ok c) = f c
on_cell f (fault number place) = refused number place
