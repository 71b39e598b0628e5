-- `write_replay::checksum` meets its contract. The loop's invariant: the sum is of the bytes passed.
use native.Mathlib.Nat.{mod-lt}
use native.Mathlib.Omega.{arith}
use mathlib.Core.Path.{refl}
use Rattle.write_replay.specs.Agreement.{sum_up_to}
use Rattle.write_replay.proofs.Records.{sum_next, sum_all}
use Rattle.write_replay.proofs.checksum.Goals as goal

pub loop-byte-init : goal.loop-byte-init
unfolding sum_up_to
loop-byte-init c = (omega arith, refl, omega arith)

pub overflow_mul-sum : goal.overflow_mul-sum
overflow_mul-sum c = omega arith

pub overflow_add-sum : goal.overflow_add-sum
overflow_add-sum c = omega (arith, c.shared_slice_known-1.given c.loop-byte.byte-index)

pub overflow_add-sum-in-loop-byte : goal.overflow_add-sum-in-loop-byte
overflow_add-sum-in-loop-byte c = omega (arith, c.shared_slice_known-1.given c.loop-byte.byte-index)

pub loop-byte-preserved : goal.loop-byte-preserved
loop-byte-preserved c = (omega arith, rw c.from.ensures (sum_next _ _ _ c.loop-byte.invariant.1), mod-lt _ (omega arith))

pub returns : goal.returns
returns c = sum_all _ _ _ c.loop-byte.invariant.0 (omega arith) c.loop-byte.invariant.1
