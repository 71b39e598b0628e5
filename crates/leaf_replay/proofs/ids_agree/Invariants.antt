-- `leaf_replay::ids_agree` meets its contract. The loop's invariant: the words passed agree.
use Prim.Native.Nat.{ℕ, ◌+◌, ◌-◌, ◌≤◌, ◌<◌}
use mathlib.Core.Path.{◌≡◌}
use lib.ListN.{get_or}
use Rattle.leaf_replay.proofs.ids_agree.Given as goal

abbrev pub invariant-loop-k : goal.invariant-loop-k
invariant-loop-k l = (l.k ≤ 32) × ((j : ℕ) → j < l.k → get_or l.ids j 0 ≡ get_or l.output (j + 2) 0)
