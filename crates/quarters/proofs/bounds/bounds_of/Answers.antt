-- `quarters::bounds::bounds_of` meets its contract, by the laws of its loop (`proofs/Sweep.antt`). Assumes nothing.
use Rattle.std.proofs.Common.{refl}
use lib.Ieee.{of_bits, neg}
use Rattle.quarters.proofs.Sweep.{swept_begin, swept_turn, swept_end}
use Rattle.quarters.proofs.bounds.bounds_of.Goals as goal

pub loop-i-init : goal.loop-i-init
unfolding of_bits neg
loop-i-init c = swept_begin _ _ _ _ _ (c.new-min.ensures.x, (c.new-min.ensures.y, c.new-min.ensures.z)) (c.new-max.ensures.x, (c.new-max.ensures.y, c.new-max.ensures.z))

pub loop-i-preserved : goal.loop-i-preserved
loop-i-preserved c = swept_turn _ _ _ _ _ _ c.loop-i.invariant c.floats_at-v.result _ _ c.loop-i-test.true c.floats_at-v.ensures (c.min-min.ensures.x, (c.min-min.ensures.y, c.min-min.ensures.z)) (c.max-max.ensures.x, (c.max-max.ensures.y, c.max-max.ensures.z))

pub returns : goal.returns
returns c = swept_end _ _ _ _ _ _ c.loop-i.invariant _ refl refl c.loop-i-test.false
