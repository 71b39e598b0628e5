-- `write_ends::leaf_by` meets its contract: the two counts are those that `sizes_by` has at depth 0. Assumes nothing.
use mathlib.Core.Path.{◌∙◌}
use Rattle.write_ends.specs.Ends.{sizes_by}
use Rattle.write_ends.proofs.leaf_by.Goals as goal

pub leaf_end-requires : goal.leaf_end-requires
unfolding sizes_by
leaf_end-requires c = rw (c.leaf_ids-ids.ensures, c.count_points-points.ensures) c.requires

pub returns : goal.returns
unfolding sizes_by
returns c = c.leaf_end.ensures ∙ rw (c.leaf_ids-ids.ensures, c.count_points-points.ensures)
