-- `write_quadtree::boxes::leaf_count` meets its contract: for the two depths that its `requires` allows, by `leaves_wide`.
use Rattle.write_quadtree.proofs.Widths.{leaves_wide}
use Rattle.write_quadtree.proofs.boxes.leaf_count.Goals as goal

pub returns : goal.returns
returns c = let w = leaves_wide c.args.depth c.requires in record { count = w.0; bound = w.1 }
