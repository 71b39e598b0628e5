-- `write_replay::bytes_agree` meets its contract. The loop's invariant: the bytes passed agree.
use Prim.Native.Nat.{ℕ, ◌-◌, ◌≤◌, ◌<◌}
use mathlib.Core.Path.{◌≡◌}
use lib.ListN.{length, get_or}
use Rattle.write_replay.proofs.bytes_agree.Given as goal

abbrev pub invariant-loop-k : goal.invariant-loop-k
invariant-loop-k l = (l.k ≤ length l.expected) × (length l.expected ≤ length l.pages) × ((j : ℕ) → j < l.k → get_or l.pages j 0 ≡ get_or l.expected j 0)
