-- `stores::put_bytes` meets its contract. The loop's invariant: storing what is left of the bytes from here on gives what is promised.
use mathlib.Core.Path.{◌≡◌}
use Prim.Native.Nat.{◌+◌}
use lib.ListN.{drop}
use Rattle.fields.specs.Put.{put}
use Rattle.stores.proofs.put_bytes.Given as goal

abbrev pub invariant-loop-i : goal.invariant-loop-i
invariant-loop-i l = put (l.off + l.i) (drop l.i l.bytes) l.b ≡ put l.off l.bytes l.initial.b
