-- `proved::p8` meets its contract: `seed_areas` stores the definition's seeds, and the table computes how many they are.
use Rattle.proved.proofs.Table.{table}
use Rattle.proved.proofs.p8.Goals as goal

pub returns : goal.returns
returns c = rw c.seed_areas-t.ensures table.p8
