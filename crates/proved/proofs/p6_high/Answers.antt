-- `proved::p6_high` meets its contract: `quarter_ceil` gives the definition's max side, which the table computes.
use mathlib.Core.Path.{◌∙◌}
use lib.Ieee.{of_bits, neg, div}
use Rattle.proved.proofs.Table.{table}
use Rattle.proved.proofs.p6_high.Goals as goal

pub returns : goal.returns
unfolding of_bits neg div
returns c = rw (c.quarter_ceil.ensures ∙ table.p6_max)
