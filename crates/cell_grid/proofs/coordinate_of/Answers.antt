-- `cell_grid::coordinate_of` meets its contract. Its numbers stand as bit patterns in the code.
use Rattle.std.proofs.Common.{ap, ◌∙◌}
use lib.Ieee.{of_bits, neg, to_unsigned}
use Rattle.cell_grid.specs.Grid.{coordinate}
use Rattle.cell_grid.proofs.Cut.{cut_to}
use Rattle.cell_grid.proofs.coordinate_of.Goals as goal

pub returns : goal.returns
unfolding coordinate of_bits neg
returns c = cut_to _ _ (c.saturating_f64_to_u64-n.ensures ∙ ap (to_unsigned 64) c.f32_to_f64_with_nan.ensures) c.min.ensures
