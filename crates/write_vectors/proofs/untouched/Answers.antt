-- `write_vectors::untouched` meets its contract: an array of so many equal bytes is that list, and has that length.
use Prim.Native.Nat.{ℕ}
use mathlib.Core.Path.{refl, sym}
use lib.ListN.{length-replicate}
use Rattle.write_replay.specs.Agreement.{untouched_bytes}
use Rattle.write_vectors.proofs.untouched.Goals as goal

pub returns : goal.returns
unfolding untouched_bytes
returns c = record { content = refl; size = sym (length-replicate {A = ℕ} 1400000 0xD1) }
