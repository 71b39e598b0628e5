-- `write_leaf_checks::check_leaf` meets its contract: the two counts are those of the leaf in the tree, and each return is a law of proofs/LeafVerdicts by the tests that led there.
use mathlib.Core.Path.{◌≡◌, ap, sym, ◌∙◌}
use mathlib.Core.List.{List}
use Prim.Native.Nat.{ℕ}
use native.Mathlib.Omega.{arith}
use lib.ListN.{length}
use Rattle.strip.specs.Cell.{NavPoint}
use Rattle.write_pages.specs.Sectors.{grown, leaf_counts}
use Rattle.write_leaf_counts.specs.Work.{count_in, picked_from}
use Rattle.write_leaf_counts.proofs.Picks.{count_picked}
use Rattle.write_leaf_checks.proofs.LeafVerdicts.{tells_17, tells_18, tells_none}
use Rattle.write_leaf_checks.proofs.check_leaf.Goals as goal

-- the points that are counted are the leaf's
points_count : (ns : List ℕ) (k : ℕ) (ts : List NavPoint) → length ts ≡ length ns → count_in ns k 0 (length ns) ≡ length (picked_from ns k 0 ts)
points_count ns k ts l = ap (count_in ns k 0) (sym l) ∙ count_picked ns k 0 ts

pub returns-then-leaf_ids-gt8192 : goal.returns-then-leaf_ids-gt8192
unfolding grown leaf_counts
returns-then-leaf_ids-gt8192 c ts l = tells_17 _ _ c.args.leaf (omega (arith, c.leaf_ids.ensures, c.if-leaf_ids-gt8192.true))

pub returns-then-count_points-gt2048 : goal.returns-then-count_points-gt2048
unfolding grown leaf_counts
returns-then-count_points-gt2048 c ts l =
    tells_18 _ _ c.args.leaf (omega (arith, c.leaf_ids.ensures, c.if-leaf_ids-gt8192.false))
    (omega (arith, points_count c.args.leaf_numbers.now c.args.leaf ts l, c.count_points.ensures, c.if-count_points-gt2048.true))

pub returns : goal.returns
unfolding grown leaf_counts
returns c ts l =
    tells_none _ _ c.args.leaf (omega (arith, c.leaf_ids.ensures, c.if-leaf_ids-gt8192.false))
    (omega (arith, points_count c.args.leaf_numbers.now c.args.leaf ts l, c.count_points.ensures, c.if-count_points-gt2048.false))
