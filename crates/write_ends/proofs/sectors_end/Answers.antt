-- `write_ends::sectors_end` meets its contract: the tree is that of the content flags' depth, from the root on. Assumes nothing.
use Rattle.write_quadtree.proofs.Dividing.{root_numbered}
use Rattle.write_ends.proofs.sectors_end.Goals as goal

pub tree_end-requires : goal.tree_end-requires
tree_end-requires c = (root_numbered c.args.b c.depth_of-depth.result c.depth_of-depth.ensures.bound, rw c.depth_of-depth.ensures.depth c.requires)

pub returns : goal.returns
returns c = rw c.depth_of-depth.ensures.depth at c.tree_end.ensures
