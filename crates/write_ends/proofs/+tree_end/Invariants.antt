-- The measure of `write_ends::tree_end`: the depth.
use Rattle.write_ends.proofs.+tree_end.Given as goal

abbrev pub decreases-tree_end : goal.decreases-tree_end
decreases-tree_end l = l.t.depth
