-- What is counted is what the portals before the one at i make. Assumes nothing.
use mathlib.Core.Path.{◌≡◌}
use Prim.Native.Nat.{◌*◌, ◌≤◌}
use Rattle.strip.specs.Rows.{portals_at}
use Rattle.pushed.specs.Pushed.{pushed_in, ends_of}
use Rattle.pushed.proofs.pushed_ends.Given as goal

abbrev pub invariant-loop-i : goal.invariant-loop-i
invariant-loop-i l = (l.pushed ≤ 6 * l.i) × (l.pushed ≡ pushed_in l.frame.bb_min l.frame.bb_size (ends_of (portals_at l.strip l.first l.i)))
