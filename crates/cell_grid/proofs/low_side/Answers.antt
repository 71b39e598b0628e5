-- `cell_grid::low_side` meets its contract: the code is the definition, with its numbers by their bit patterns.
use Rattle.std.proofs.Common.{◌^◌, refl, le_trans, lit≤, le→leb}
use lib.Ieee.{of_bits, neg, in_float}
use Rattle.cell_grid.specs.Grid.{low_side}
use Rattle.cell_grid.proofs.low_side.Goals as goal

pub int_to_float-result : goal.int_to_float-result
unfolding in_float
int_to_float-result c = le→leb c.args.c (2 ^ 24) (le_trans c.requires (lit≤ tt))

pub returns : goal.returns
unfolding low_side of_bits neg
returns c = refl
