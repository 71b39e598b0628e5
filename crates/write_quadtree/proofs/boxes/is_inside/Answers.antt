-- `write_quadtree::boxes::is_inside` meets its contract: both axes by `is_between`, y only where x is inside.
use mathlib.Core.Path.{sym, ◌∙◌}
use Rattle.write_pages.specs.Sectors.{inside}
use Rattle.write_quadtree.proofs.boxes.is_inside.Goals as goal

pub returns-then-is_between : goal.returns-then-is_between
unfolding inside
returns-then-is_between c = rw (sym c.is_between.ensures ∙ c.if-is_between.true) c.is_between-then-is_between.ensures

pub returns-else-is_between : goal.returns-else-is_between
unfolding inside
returns-else-is_between c = rw (sym c.is_between.ensures ∙ c.if-is_between.false) c.if-is_between.false
