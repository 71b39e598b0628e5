-- `replay::lent::bytes_agree` meets its contract. The invariant: the words passed agree.
use Rattle.std.proofs.Common.{◌≡◌, ℕ, ◌+◌, ◌*◌, ◌<◌, get_or}
use Rattle.fields.specs.Bytes.{le_at}
use Rattle.replay.proofs.lent.bytes_agree.Given as goal

abbrev pub invariant-loop-k : goal.invariant-loop-k
invariant-loop-k l = (j : ℕ) → j < l.k → le_at 4 l.bytes (4 * j) ≡ get_or l.output (j + 2) 0xD1D1D1D1
