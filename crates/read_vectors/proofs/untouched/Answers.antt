-- `read_vectors::untouched` meets its contract: an array of so many equal words is that list, and has that length.
use Prim.Native.Nat.{ℕ}
use mathlib.Core.Path.{refl, sym}
use lib.ListN.{length-replicate}
use Rattle.read_replay.specs.Agreement.{untouched_words}
use Rattle.read_vectors.proofs.untouched.Goals as goal

pub returns : goal.returns
unfolding untouched_words
returns c = record { content = refl; size = sym (length-replicate {A = ℕ} 512 0xD1D1D1D1) }
