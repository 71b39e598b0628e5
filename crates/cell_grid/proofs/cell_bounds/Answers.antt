-- `cell_grid::cell_bounds` meets its contract: each return is one case of `bounds_outcome`.
use Rattle.std.proofs.Common.{ap, le-leb}
use borrow.Author.Tests.{lt-leb}
use Rattle.strip.specs.Outcome.{values}
use Rattle.cell_grid.specs.Grid.{bounds_outcome}
use Rattle.cell_grid.proofs.cell_bounds.Goals as goal
use Rattle.cell_grid.proofs.cell_bounds.Goals.{then-cx-gt99-via-then-cx-gt99, then-cx-gt99-via-else-cx-gt99+then-cy-gt99}

pub returns-then-cx-gt99 : goal.returns-then-cx-gt99
unfolding bounds_outcome
returns-then-cx-gt99 c =
    let a = c.args in
    elim c.then-cx-gt99.branch [
      | then-cx-gt99-via-then-cx-gt99 w ↦ rw (lt-leb a.cx 99 w.if-cx-gt99.true, c.from.ensures)
      | then-cx-gt99-via-else-cx-gt99+then-cy-gt99 w ↦ rw (le-leb a.cx 99 w.if-cx-gt99.false, lt-leb a.cy 99 w.if-cy-gt99.true, c.from.ensures)
    ]

pub returns : goal.returns
unfolding bounds_outcome
returns c =
    let a = c.args in
    rw (le-leb a.cx 99 c.if-cx-gt99.false, le-leb a.cy 99 c.if-cy-gt99.false) (ap values c.bounds_of.ensures)
