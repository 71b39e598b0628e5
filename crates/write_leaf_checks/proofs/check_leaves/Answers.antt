-- `write_leaf_checks::check_leaves` meets its contract: so few polygons and points fit any leaf (`tells_fits`), and otherwise the walk over the leaves answers.
use Rattle.write_quadtree.proofs.Dividing.{root_numbered}
use Rattle.write_leaf_checks.proofs.LeafVerdicts.{tells_fits}
use Rattle.write_leaf_checks.proofs.check_leaves.Goals as goal

pub returns-then-leaf_numbers-le2048 : goal.returns-then-leaf_numbers-le2048
returns-then-leaf_numbers-le2048 c ts l = tells_fits c.args.boxes.now c.args.leaf_numbers.now ts c.if-boxes-le24576.true c.if-leaf_numbers-le2048.true l _ c.args.b

pub check_from-requires : goal.check_from-requires
check_from-requires c = root_numbered c.args.b c.args.depth c.requires

pub returns : goal.returns
returns c ts l = c.check_from.ensures ts l
