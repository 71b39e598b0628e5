-- `cell_grid::cell_for_position` meets its contract, axis by axis.
use Rattle.cell_grid.proofs.cell_for_position.Goals as goal

pub returns : goal.returns
returns c = λ i. record { x = c.coordinate_of.ensures i; y = c.coordinate_of-2.ensures i }
