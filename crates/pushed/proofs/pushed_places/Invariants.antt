-- What is counted is what the points before the one at i make. Assumes nothing.
use mathlib.Core.Path.{◌≡◌}
use Prim.Native.Nat.{◌-◌, ◌*◌, ◌≤◌}
use Rattle.strip.specs.Rows.{points_at}
use Rattle.pushed.specs.Pushed.{pushed_in, places_of}
use Rattle.pushed.proofs.pushed_places.Given as goal

abbrev pub invariant-loop-i : goal.invariant-loop-i
invariant-loop-i l = (l.i ≤ l.n) × (l.pushed ≤ 3 * l.i) × (l.pushed ≡ pushed_in l.frame.bb_min l.frame.bb_size (places_of (points_at l.strip l.first l.i)))

abbrev pub decreases-loop-i : goal.decreases-loop-i
decreases-loop-i l = l.n - l.i
