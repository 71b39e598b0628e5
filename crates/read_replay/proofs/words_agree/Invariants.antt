-- `read_replay::words_agree` meets its contract. The loop's invariant: the words passed agree.
use Prim.Native.Nat.{ℕ, ◌<◌}
use mathlib.Core.Path.{◌≡◌}
use lib.ListN.{get_or}
use Rattle.read_replay.specs.Agreement.{told_word}
use Rattle.read_replay.proofs.words_agree.Given as goal

abbrev pub invariant-loop-k : goal.invariant-loop-k
invariant-loop-k l = (j : ℕ) → j < l.k → get_or l.strip j 0 ≡ told_word l.words j
