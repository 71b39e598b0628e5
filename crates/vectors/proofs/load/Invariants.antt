-- The loop's invariant: the words passed are those of the bytes.
use Rattle.std.proofs.Common.{ℕ, length, get_or, ◌≡◌, ◌<◌, ◌*◌}
use Rattle.fields.specs.Bytes.{le_at}
use Rattle.vectors.proofs.load.Given as goal

abbrev pub invariant-loop-i : goal.invariant-loop-i
invariant-loop-i l = (length l.words ≡ length l.initial.words) × ((j : ℕ) → j < l.i → get_or l.words j 0 ≡ le_at 4 l.fn.bytes (4 * j))
