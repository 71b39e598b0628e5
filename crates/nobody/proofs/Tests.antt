-- What it takes for a number to be the cut one, and for a test to be the one for nobody. Assumes nothing.
use Prim.Native.Nat.{ℕ, ◌%◌}
use mathlib.Core.Path.{◌≡◌}
use lib.Dec.{eqb}
use Rattle.nobody.specs.Nobody.{cut, nobody}

pub cut_is : (poly r : ℕ) → r ≡ poly % 16384 → r ≡ cut poly
unfolding cut
cut_is poly r h = h

pub nobody_is : (poly r last : ℕ) → r ≡ cut poly → last ≡ 16383 → eqb r last ≡ nobody poly
unfolding nobody
nobody_is poly r last h e = rw (h, e)
