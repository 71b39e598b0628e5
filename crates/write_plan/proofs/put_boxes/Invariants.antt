-- `write_plan::put_boxes` meets its contract. The invariant, `Boxing`: the boxes that are left, stored from here, make the whole. Assumes nothing.
use Rattle.write_plan.proofs.Stored.{Boxing}
use Rattle.write_plan.proofs.put_boxes.Given as goal

abbrev pub invariant-loop-i : goal.invariant-loop-i
invariant-loop-i l = Boxing l.strip l.n l.base l.initial.work l.work l.at l.i
