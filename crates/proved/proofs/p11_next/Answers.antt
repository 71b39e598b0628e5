-- `proved::p11_next` meets its contract: `place` gives the definition's place, which the table computes: the block goes to the next page.
use mathlib.Core.Path.{◌∙◌}
use Rattle.proved.proofs.Table.{table}
use Rattle.proved.proofs.p11_next.Goals as goal

pub returns : goal.returns
returns c = c.place.ensures ∙ table.p11_next
