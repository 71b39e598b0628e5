-- `pick_contains::left_of_side` meets its contract: the test on the spots of its two ends, whose heights stay.
use Rattle.pick_contains.proofs.left_of_side.Goals as goal

pub left_of-requires : goal.left_of-requires
left_of-requires c = let pre = c.requires in rw (c.vertex_spot.ensures, c.vertex_spot-2.ensures) (pre.2, pre.3)

pub returns : goal.returns
returns c = rw (← c.vertex_spot.ensures, ← c.vertex_spot-2.ensures) c.left_of.ensures
