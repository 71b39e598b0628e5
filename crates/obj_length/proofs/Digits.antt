-- The digits of a number, counted: one, and another from each power of ten on. Assumes nothing.
use mathlib.Core.Path.{◌≡◌}
use Prim.Native.Nat.{ℕ, zero, suc, ◌+◌, ◌^◌, ◌≤◌, ◌<◌, min}
use native.Mathlib.Decide.{dec_lt}
use native.Mathlib.Omega.{arith}
use borrow.Author.Tests.{le-leb, lt-leb}
use lib.Dec.{leb}
use lib.ListN.{length}
use Rattle.decimal.specs.Text.{decimal}
use Rattle.decimal.proofs.Decimal.{some_digit, length_below, length_above}
use Rattle.std.specs.Int.{from_bool}
use Rattle.obj_lines.proofs.Lengths.{short_digits}

-- 1 where n is so much or more
abbrev pub reached : (bound n : ℕ) → ℕ
reached bound n = from_bool (leb bound n)

pub not_reached : (bound n : ℕ) → n < bound → reached bound n ≡ 0
not_reached bound n h = rw (lt-leb bound n h)

pub is_reached : (bound n : ℕ) → bound ≤ n → reached bound n ≡ 1
is_reached bound n h = rw (le-leb bound n h)

pub reached_most : (bound n : ℕ) → reached bound n ≤ 1
reached_most bound n = by (dec_lt n bound)
  where
    by : Dec (n < bound) → reached bound n ≤ 1
    by (yes h) = omega (arith, not_reached bound n h)
    by (no h) = omega (arith, is_reached bound n (omega arith))

-- how many of 10, 100, .. 10^k are reached
tens_reached : ℕ → ℕ → ℕ
tens_reached zero n = 0
tens_reached (suc k) n = tens_reached k n + reached (10 ^ suc k) n

-- up to k + 1 they are the digits
digits_counted : (k n : ℕ) → min (length (decimal n)) (suc k) ≡ 1 + tens_reached k n
unfolding tens_reached
digits_counted zero n = omega (arith, some_digit n)
digits_counted (suc k) n = by (dec_lt n (10 ^ suc k)) (digits_counted k n)
  where
    by : Dec (n < 10 ^ suc k) → min (length (decimal n)) (suc k) ≡ 1 + tens_reached k n → min (length (decimal n)) (suc (suc k)) ≡ 1 + tens_reached (suc k) n
    by (yes h) e = omega (arith, length_below k n h, not_reached (10 ^ suc k) n h)
    by (no h) e = let g : 10 ^ suc k ≤ n = omega arith in omega (arith, length_above (suc k) n g, is_reached (10 ^ suc k) n g)

pub short_counted : (n : ℕ) → n < 65536 → length (decimal n) ≡ 1 + reached 10 n + reached 100 n + reached 1000 n + reached 10000 n
unfolding tens_reached
short_counted n h = omega (arith, digits_counted 4 n, short_digits n h)
