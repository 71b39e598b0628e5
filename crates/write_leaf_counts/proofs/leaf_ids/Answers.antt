-- `write_leaf_counts::leaf_ids` meets its contract: fewer than three words hold no box (`ids_none`), and otherwise the count is the callee's.
use mathlib.Core.Path.{sym, ap}
use lib.ListN.{length}
use Rattle.write_leaf_counts.proofs.Picks.{ids_none}
use Rattle.write_leaf_counts.proofs.leaf_ids.Goals as goal

pub returns-then-boxes-lt3 : goal.returns-then-boxes-lt3
returns-then-boxes-lt3 c = sym (ap length (ids_none c.args.boxes.now _ c.if-boxes-lt3.true))

pub quarter_box-requires : goal.quarter_box-requires
quarter_box-requires c = tt

pub count_ids-requires : goal.count_ids-requires
count_ids-requires c = tt

pub returns : goal.returns
returns c = rw c.quarter_box.ensures at c.count_ids.ensures
