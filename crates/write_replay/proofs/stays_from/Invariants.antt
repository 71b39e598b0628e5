-- `write_replay::stays_from` meets its contract. The loop's invariant: the bytes passed are as they were.
use Prim.Native.Nat.{ℕ, ◌-◌, ◌≤◌, ◌<◌}
use mathlib.Core.Path.{◌≡◌}
use lib.ListN.{length, get_or}
use Rattle.write_replay.proofs.stays_from.Given as goal

abbrev pub invariant-loop-k : goal.invariant-loop-k
invariant-loop-k l = (l.k ≤ length l.pages) × ((j : ℕ) → j < l.k → l.from ≤ j → get_or l.pages j 0 ≡ 0xD1)
