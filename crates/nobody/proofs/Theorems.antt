-- What the test for nobody says in numbers, and four of them computed. Assumes nothing.
use Prim.Native.Nat.{ℕ, ◌%◌, ◌<◌}
use mathlib.Core.Path.{◌≡◌, refl}
use mathlib.Core.Bool.{true, false}
use native.Mathlib.Omega.{arith}
use native.Mathlib.Nat.{mod-lt}
use borrow.Author.Tests.{eqb-false, eq-eqb, ne_eqb}
use Rattle.nobody.specs.Nobody.{cut, nobody}

module _ (poly : ℕ) where
  -- "cut to 14 bits, is below 16383": that is, not nobody
  pub somebody_below : nobody poly ≡ false → cut poly < 16383
  unfolding nobody cut
  somebody_below h = omega (arith, eqb-false (poly % 16384) 16383 h, mod-lt poly {m = 16384} (omega arith))

  pub below_somebody : cut poly < 16383 → nobody poly ≡ false
  unfolding nobody
  below_somebody h = ne_eqb (cut poly) 16383 (λ e. omega arith)

  pub last_nobody : cut poly ≡ 16383 → nobody poly ≡ true
  unfolding nobody
  last_nobody h = eq-eqb (cut poly) 16383 h

pub last : nobody 16383 ≡ true
unfolding nobody cut
last = refl

pub last_again : nobody 32767 ≡ true
unfolding nobody cut
last_again = refl

pub last_below : nobody 16382 ≡ false
unfolding nobody cut
last_below = refl

pub first_again : nobody 16384 ≡ false
unfolding nobody cut
first_again = refl
