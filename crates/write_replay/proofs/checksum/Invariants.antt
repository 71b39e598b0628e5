-- `write_replay::checksum` meets its contract. The loop's invariant: the sum is of the bytes passed.
use Prim.Native.Nat.{◌≤◌, ◌<◌}
use mathlib.Core.Path.{◌≡◌}
use lib.ListN.{length}
use Rattle.write_replay.specs.Agreement.{sum_up_to}
use Rattle.write_replay.proofs.checksum.Given as goal

abbrev pub invariant-loop-byte : goal.invariant-loop-byte
invariant-loop-byte l = (l.byte-index ≤ length l.bytes) × (l.sum ≡ sum_up_to l.bytes l.byte-index) × (l.sum < 4294967291)
