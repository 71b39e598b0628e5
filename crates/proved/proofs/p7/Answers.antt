-- `proved::p7` meets its contract: `seed_areas` stores the definition's seeds, which the table computes.
use Rattle.fields.specs.Bytes.{over}
use Rattle.proved.proofs.Table.{table}
use Rattle.proved.proofs.p7.Goals as goal

pub returns : goal.returns
unfolding over
returns c = rw (c.seed_areas-t.ensures, table.p7)
