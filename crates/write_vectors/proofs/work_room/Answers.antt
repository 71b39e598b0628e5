-- `write_vectors::work_room` meets its contract: an array of so many equal words has that length.
use Prim.Native.Nat.{ℕ}
use mathlib.Core.Path.{sym}
use lib.ListN.{length-replicate}
use Rattle.write_vectors.proofs.work_room.Goals as goal

pub returns : goal.returns
returns c = sym (length-replicate {A = ℕ} 856000 0xD1D1D1D1)
