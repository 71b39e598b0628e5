-- `stores::store_words` meets its contract. The loop's invariant: storing what is left of the words from here on gives what is promised, and
-- there is room for it.
use mathlib.Core.Path.{◌≡◌}
use Prim.Native.Nat.{◌+◌, ◌*◌}
use lib.ListN.{length, drop}
use Rattle.fields.specs.Bytes.{les}
use Rattle.fields.specs.Put.{put}
use Rattle.stores.proofs.store_words.Given as goal

abbrev pub invariant-loop-w : goal.invariant-loop-w
invariant-loop-w l = (l.at ≡ l.off + 4 * l.w-index) × (length l.b ≡ length l.initial.b) × (put l.at (les 4 (drop l.w-index l.ws)) l.b ≡ put l.off (les 4 l.ws) l.initial.b)
