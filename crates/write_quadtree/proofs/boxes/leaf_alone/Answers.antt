-- `write_quadtree::boxes::leaf_alone` meets its contract: of one leaf the first that holds the point is 0, or none, by `is_inside`.
use mathlib.Core.Path.{sym, ◌∙◌}
use Rattle.write_pages.specs.Sectors.{leaves, leaf_of}
use Rattle.write_quadtree.proofs.boxes.leaf_alone.Goals as goal

pub returns-then-is_inside : goal.returns-then-is_inside
unfolding leaves leaf_of
returns-then-is_inside c = rw (sym c.is_inside.ensures ∙ c.if-is_inside.true)

pub returns-else-is_inside : goal.returns-else-is_inside
unfolding leaves leaf_of
returns-else-is_inside c = rw (sym c.is_inside.ensures ∙ c.if-is_inside.false)
