-- `decimal::put_decimal` meets its contract. The loop's invariant: while places are left they are those of the digits of what is left, and storing
-- these gives what is promised; with none left it is stored.
use mathlib.Core.Path.{◌≡◌}
use Prim.Native.Nat.{◌<◌}
use lib.ListN.{length}
use Rattle.fields.specs.Put.{put}
use Rattle.decimal.specs.Text.{decimal}
use Rattle.decimal.proofs.put_decimal.Given as goal

abbrev pub invariant-loop-i : goal.invariant-loop-i
invariant-loop-i l = (0 < l.i → (l.i ≡ length (decimal l.rest)) × (put l.at (decimal l.rest) l.out ≡ put l.at (decimal l.n) l.initial.out))
    × (l.i ≡ 0 → l.out ≡ put l.at (decimal l.n) l.initial.out)
