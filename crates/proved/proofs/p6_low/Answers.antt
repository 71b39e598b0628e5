-- `proved::p6_low` meets its contract: `quarter_floor` gives the definition's min side, which the table computes.
use mathlib.Core.Path.{◌∙◌}
use lib.Ieee.{of_bits, neg, div}
use Rattle.proved.proofs.Table.{table}
use Rattle.proved.proofs.p6_low.Goals as goal

pub returns : goal.returns
unfolding of_bits neg div
returns c = rw (c.quarter_floor.ensures ∙ table.p6_minus_min)
