-- `proved::p11_fits` meets its contract: `place` gives the definition's place, which the table computes: the block stays in its page.
use mathlib.Core.Path.{◌∙◌}
use Rattle.proved.proofs.Table.{table}
use Rattle.proved.proofs.p11_fits.Goals as goal

pub returns : goal.returns
returns c = c.place.ensures ∙ table.p11_fits
