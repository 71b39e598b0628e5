-- `write_vectors::strip_room` meets its contract: an array of so many equal words has that length.
use Prim.Native.Nat.{ℕ}
use mathlib.Core.Path.{sym}
use lib.ListN.{length-replicate}
use Rattle.write_vectors.proofs.strip_room.Goals as goal

pub returns : goal.returns
returns c = sym (length-replicate {A = ℕ} 214000 0)
