-- `strip_check::edges_fit` meets its contract. The invariant: what is asked of all the edges is what is asked of those that are left.
-- Assumes nothing.
use Rattle.std.proofs.Common.{◌≡◌, ◌+◌, ◌-◌, ◌*◌}
use Rattle.strip.specs.Scan.{edges_fit}
use Rattle.strip_check.proofs.edges_fit.Given as goal

abbrev pub invariant-loop-i : goal.invariant-loop-i
invariant-loop-i l = edges_fit l.strip l.at l.n ≡ edges_fit l.strip (l.at + 6 * l.i) (l.n - l.i)
