-- `write_plan::put_leaves` meets its contract. The invariant, `Leafing`: the leaves that are left, stored from here, make the whole. Assumes nothing.
use Rattle.write_pages.specs.Sectors.{leaves, depth_of}
use Rattle.write_plan.proofs.Stored.{Leafing}
use Rattle.write_plan.proofs.put_leaves.Given as goal

abbrev pub invariant-loop-i : goal.invariant-loop-i
invariant-loop-i l = Leafing l.strip (leaves (depth_of l.content) l.b) l.first l.n l.base l.initial.work l.work l.i
