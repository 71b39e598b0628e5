-- `write_decide::work_places` meets its contract: each place is behind what the words and the counts put before it.
use Rattle.write_decide.proofs.work_places.Goals as goal

pub returns : goal.returns
returns c = rw c.tree_count-vertices.ensures
