-- `write_plan::put_box` meets its contract: each axis of the box is one word, its min below and its max above.
use native.Mathlib.Omega.{arith}
use Prim.Native.Nat.{◌+◌}
use lib.ListN.{set, length-set}
use mathlib.Core.Path.{◌∙◌}
use Rattle.write_plan.proofs.Stored.{box_read, box_stored}
use Rattle.write_plan.proofs.put_box.Goals as goal

pub bounds-work-at-2 : goal.bounds-work-at-2
bounds-work-at-2 c = omega (arith, c.requires.1, (length-set c.args.work.now c.args.at c.quarter_pair.result))

pub overflow_add-work-2 : goal.overflow_add-work-2
overflow_add-work-2 c = omega (arith, c.requires.1, c.well_formed)

pub offset_bounds-work-at-3 : goal.offset_bounds-work-at-3
offset_bounds-work-at-3 c = omega (arith, c.requires.1, c.well_formed)

pub bounds-work-at-3 : goal.bounds-work-at-3
bounds-work-at-3 c = omega (arith, c.requires.1, (length-set c.args.work.now c.args.at c.quarter_pair.result), (length-set (set c.args.work.now c.args.at c.quarter_pair.result) (c.args.at + 1) c.quarter_pair-2.result))

pub returns : goal.returns
returns c = box_stored _ _ (c.quarter_bounds-q.ensures ∙ box_read _ _ c.requires.0) _ _ _ _ _ c.quarter_pair.ensures.word c.quarter_pair-2.ensures.word c.quarter_pair-3.ensures.word
