-- `write_quadtree::boxes::is_between` meets its contract: by cases of the first test.
use Rattle.write_pages.specs.Sectors.{between}
use Rattle.write_quadtree.proofs.boxes.is_between.Goals as goal

pub returns-then-lo-x : goal.returns-then-lo-x
unfolding between
returns-then-lo-x c = rw c.if-lo-x.true

pub returns-else-lo-x : goal.returns-else-lo-x
unfolding between
returns-else-lo-x c = rw c.if-lo-x.false
