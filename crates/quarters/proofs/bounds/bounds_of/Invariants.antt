-- The loop's invariant: what is left of the vertices, taken together from here, makes the whole, on each axis and side. Assumes nothing.
use Rattle.quarters.proofs.Sweep.{Swept}
use Rattle.quarters.proofs.bounds.bounds_of.Given as goal

abbrev pub invariant-loop-i : goal.invariant-loop-i
invariant-loop-i l = Swept l.strip l.at l.n l.min l.max l.i
