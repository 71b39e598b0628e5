-- `stores::put_all` meets its contract: with room for all words by `store_words`, otherwise by a loop. The loop's invariant: storing what is left of the numbers from here on gives what is promised.
use mathlib.Core.Path.{◌≡◌}
use Prim.Native.Nat.{◌<◌}
use lib.ListN.{length, drop}
use Rattle.fields.specs.Bytes.{les}
use Rattle.fields.specs.Put.{put}
use Rattle.stores.proofs.put_all.Given as goal

abbrev pub invariant-loop-w : goal.invariant-loop-w
invariant-loop-w l = (l.at < length l.b) × (length l.b ≡ length l.initial.b) × (put l.at (les l.n (drop l.w-index l.ws)) l.b ≡ put l.off (les l.n l.ws) l.initial.b)
