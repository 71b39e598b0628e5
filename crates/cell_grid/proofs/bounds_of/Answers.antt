-- `cell_grid::bounds_of` meets its contract, side by side.
use lib.Ieee.{of_bits}
use Rattle.cell_grid.specs.Grid.{high_side}
use Rattle.cell_grid.proofs.bounds_of.Goals as goal

pub returns : goal.returns
unfolding high_side of_bits
returns c = rw (c.low_side-x0.ensures, c.low_side-y0.ensures)
