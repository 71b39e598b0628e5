-- `stores::put_le` meets its contract. The loop's invariant: storing what is left of the number from here on gives what is promised.
use mathlib.Core.Path.{◌≡◌}
use Prim.Native.Nat.{◌+◌, ◌-◌}
use lib.ListN.{length}
use Rattle.fields.specs.Bytes.{le_bytes}
use Rattle.fields.specs.Put.{put}
use Rattle.stores.proofs.put_le.Given as goal

abbrev pub invariant-loop-at : goal.invariant-loop-at
invariant-loop-at l = (length l.b ≡ length l.initial.b) × (put l.at (le_bytes (l.off + l.n - l.at) l.rest) l.b ≡ put l.off (le_bytes l.n l.v) l.initial.b)
