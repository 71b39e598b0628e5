-- The measure of `write_leaf_checks::check_from`: the depth.
use Rattle.write_leaf_checks.proofs.+check_from.Given as goal

abbrev pub decreases-check_from : goal.decreases-check_from
decreases-check_from l = l.t.depth
