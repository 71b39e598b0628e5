-- `proved::p1` meets its contract: `quantise_axis` gives the definition's short, which the table computes.
use mathlib.Core.Path.{◌∙◌}
use lib.Ieee.{of_bits, neg, div}
use Rattle.proved.proofs.Table.{table}
use Rattle.proved.proofs.p1.Goals as goal

pub returns : goal.returns
unfolding of_bits neg div
returns c = c.quantise_axis-made.ensures.short ∙ table.p1
