-- `proved::p9` meets its contract: `half_word` gives the definition's word, which the table computes.
use mathlib.Core.Path.{◌∙◌}
use lib.Ieee.{of_bits, neg, div}
use Rattle.proved.proofs.Table.{table}
use Rattle.proved.proofs.p9.Goals as goal

pub returns : goal.returns
unfolding of_bits neg div
returns c = c.half_word.ensures ∙ table.p9
