-- `turn_points` meets its contract. The loop's invariant: what is left to turn, turned from here on, gives what is promised.
use Prim.Native.Nat.{◌+◌, ◌-◌, ◌*◌}
use mathlib.Core.Path.{◌≡◌}
use Rattle.read_points.specs.Write.{turned}
use Rattle.read_points.proofs.turn_points.Given as goal

abbrev pub invariant-loop-i : goal.invariant-loop-i
invariant-loop-i l = turned l.frame.bb_min l.frame.bb_size (l.n - l.i) (l.at + 4 * l.i) l.strip ≡ turned l.frame.bb_min l.frame.bb_size l.n l.at l.initial.strip
