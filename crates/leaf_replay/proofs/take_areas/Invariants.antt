-- `leaf_replay::take_areas` meets its contract. The loop's invariant: what is taken from here makes the whole.
use Prim.Native.Nat.{◌-◌, ◌≤◌}
use mathlib.Core.Path.{◌≡◌}
use lib.ListN.{length, get_or, drop}
use Rattle.fields.specs.Bytes.{zeros}
use Rattle.areas.specs.Areas.{seeded}
use Rattle.areas.specs.Tables.{stored}
use Rattle.leaf_replay.specs.Agreement.{taking}
use Rattle.leaf_replay.proofs.take_areas.Given as goal

abbrev pub invariant-loop-i : goal.invariant-loop-i
invariant-loop-i l = (1 ≤ l.i) × (l.i - 1 ≤ length l.input - 1) × (taking l.t (l.i - 1) (drop l.i l.input) ≡ taking (stored (seeded (get_or l.input 0 0)) (zeros 32)) 0 (drop 1 l.input))
